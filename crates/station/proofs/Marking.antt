-- The loop that writes the marks of a report, level by level, behind its first 12 bytes, and the report that results with the low point. Assumes nothing.
use mathlib.Core.List.{List, ◌++◌}
use mathlib.Core.Path.{ap₂, ◌≡◌, refl, sym, ap, ◌∙◌}
use Prim.Native.Nat.{ℕ, ◌+◌, ◌-◌, ◌*◌, ◌≤◌, ◌<◌}
use native.Mathlib.Omega.{arith}
use lib.Dec.{lit≤}
use lib.ListN.{length, length-append, length-drop, get_or, take, drop}
use lib.Seq.{length-take-le, take_all, take_at, take-take, drop_at}
use borrow.Rule.Slice.PartMut.{put_mid}
use Rattle.packing.specs.Packing.{sixteen_bits}
use Rattle.packing.proofs.Put.{put_more, put_length}
use Rattle.concatenated.specs.Data.{digits}
use Rattle.concatenated.proofs.Digits.{digits_length}
use Rattle.page.specs.declared.Report.{Report}
use Rattle.station.specs.Report.{total_bytes, mark_bytes, steps_and_totals, steps_to_marks, low_bytes, report_bytes}
use Rattle.station.proofs.Bytes.{mark_bytes_length, changed_part, erased_part}

-- the marks of the levels below i are written
pub record Marking (old cs es out : List ℕ) (i : ℕ) : Type 0 where
  pub within : i ≤ 4
  pub long : length out ≡ 76
  pub so_far : take (12 + 16 * i) out ≡ take (12 + 16 * i) (take 12 old ++ mark_bytes 4 cs es)

module _ (old cs es : List ℕ) (room : length old ≡ 76) where
  target : List ℕ
  target = take 12 old ++ mark_bytes 4 cs es

  twelve : length (take 12 old) ≡ 12
  twelve = length-take-le 12 old (omega (arith, room))

  target_length : length target ≡ 76
  unfolding target
  target_length = length-append (take 12 old) (mark_bytes 4 cs es) ∙ omega (arith, twelve, mark_bytes_length 4 cs es)

  pub marking_none : Marking old cs es old 0
  marking_none = record { within = omega arith; long = room; so_far = sym (take_at (take 12 old) (mark_bytes 4 cs es) 12 twelve) }

  module _ (out : List ℕ) (i : ℕ) (f : Marking old cs es out i) (h : i < 4) (c : List ℕ) (changed_is : c ≡ digits 256 8 (get_or cs i 0)) where
    changed_room : 12 + 16 * i + 8 ≤ length out
    changed_room = omega (arith, f.long)

    changed_within : 12 + 16 * i + 8 ≤ length target
    changed_within = omega (arith, target_length)

    changed_at : c ≡ take 8 (drop (12 + 16 * i) target)
    unfolding target
    changed_at = changed_is ∙ sym (changed_part (take 12 old) twelve 4 cs es i h)

    -- the first of the two marks of level i is written
    abbrev first_written : List ℕ
    first_written = put_mid (12 + 16 * i) (12 + 16 * i + 8 - (12 + 16 * i)) out c

    first_length : length first_written ≡ 76
    first_length = put_length out target c (12 + 16 * i) 8 changed_room changed_within changed_at ∙ f.long

    first_so_far : take (12 + 16 * i + 8) first_written ≡ take (12 + 16 * i + 8) target
    unfolding target
    first_so_far = put_more out target c (12 + 16 * i) 8 changed_room changed_within changed_at f.so_far

    module _ (e : List ℕ) (erased_is : e ≡ digits 256 8 (get_or es i 0)) where
      erased_room : 12 + 16 * i + 8 + 8 ≤ length first_written
      erased_room = omega (arith, first_length)

      erased_within : 12 + 16 * i + 8 + 8 ≤ length target
      erased_within = omega (arith, target_length)

      erased_at : e ≡ take 8 (drop (12 + 16 * i + 8) target)
      unfolding target
      erased_at = erased_is ∙ sym (erased_part (take 12 old) twelve 4 cs es i h)

      pub marking_more : Marking old cs es (put_mid (12 + 16 * i + 8) (12 + 16 * i + 8 + 8 - (12 + 16 * i + 8)) first_written e) (i + 1)
      unfolding target
      marking_more =
          let next : 12 + 16 * (i + 1) ≡ 12 + 16 * i + 8 + 8 = omega arith in
          record {
            within = omega arith;
            long = put_length first_written target e (12 + 16 * i + 8) 8 erased_room erased_within erased_at ∙ first_length;
            so_far = rw next (put_more first_written target e (12 + 16 * i + 8) 8 erased_room erased_within erased_at first_so_far);
          }

  pub marking_all : (out : List ℕ) (i : ℕ) → Marking old cs es out i → 4 ≤ i → out ≡ take 12 old ++ mark_bytes 4 cs es
  unfolding target
  marking_all out i f h =
      sym (take_all (12 + 16 * i) out (omega (arith, f.long))) ∙ f.so_far ∙ take_all (12 + 16 * i) target (omega (arith, target_length))

-- the steps and totals take 12 bytes; copied to the front of a buffer, the marks put behind them and the low point behind these, they are the report
pub front_length : (r : Report) → length (steps_and_totals r) ≡ 12
front_length r = length-append (digits 256 4 r.steps) (total_bytes r.changed r.erased) ∙ omega (arith, digits_length 256 4 r.steps)

pub to_marks_length : (r : Report) → length (steps_to_marks r) ≡ 76
to_marks_length r =
    length-append (steps_and_totals r) (mark_bytes 4 r.changed_marks r.erased_marks) ∙ omega (arith, front_length r, mark_bytes_length 4 r.changed_marks r.erased_marks)

pub low_at : (r : Report) → low_bytes r.low ≡ take 2 (drop 76 (report_bytes r))
low_at r = sym (ap (take 2) (drop_at (steps_to_marks r) (low_bytes r.low) 76 (to_marks_length r)) ∙ take_all 2 (low_bytes r.low) (omega (arith, digits_length 256 2 (sixteen_bits r.low))))

-- a front of 12 bytes, copied over the first 12 of a buffer
pub front_copied : (front old : List ℕ) → length front ≡ 12 → front ++ drop 12 old ≡ take (length front) front ++ drop (length front) old
front_copied front old size = ap₂ (λ (s : List ℕ) (n : ℕ). s ++ drop n old) (sym (take_all (length front) front (omega arith))) (sym size)

pub report_is : (r : Report) (front old copied marked low : List ℕ) → length old ≡ 78 → front ≡ steps_and_totals r → copied ≡ take (length front) front ++ drop (length front) old
    → marked ≡ take 12 (take 76 (drop 0 copied)) ++ mark_bytes 4 r.changed_marks r.erased_marks → low ≡ low_bytes r.low
    → put_mid 76 2 (put_mid 0 76 copied marked) low ≡ report_bytes r
report_is r front old copied marked low room told is_copied is_marked is_low =
    let size : length front ≡ 12 = ap length told ∙ front_length r in
    let whole : take (length front) front ≡ front = take_all (length front) front (omega arith) in
    let is : copied ≡ front ++ drop (length front) old = is_copied ∙ ap (λ (t : List ℕ). t ++ drop (length front) old) whole in
    let long : length copied ≡ 78 = ap length is ∙ length-append front (drop (length front) old) ∙ omega (arith, size, room, length-drop (length front) old) in
    let kept : take 12 (take 76 (drop 0 copied)) ≡ front = take-take 12 76 copied (lit≤ tt) ∙ ap (take 12) is ∙ take_at front _ 12 size in
    let marks : marked ≡ steps_to_marks r = is_marked ∙ ap (λ (t : List ℕ). t ++ mark_bytes 4 r.changed_marks r.erased_marks) (kept ∙ told) in
    let target : length (report_bytes r) ≡ 78 = length-append (steps_to_marks r) (low_bytes r.low) ∙ omega (arith, to_marks_length r, digits_length 256 2 (sixteen_bits r.low)) in
    let first : marked ≡ take 76 (drop 0 (report_bytes r)) = marks ∙ sym (take_at (steps_to_marks r) (low_bytes r.low) 76 (to_marks_length r)) in
    let after_marks = put_more copied (report_bytes r) marked 0 76 (omega (arith, long)) (omega (arith, target)) first refl in
    let room_left : length (put_mid 0 76 copied marked) ≡ 78 = put_length copied (report_bytes r) marked 0 76 (omega (arith, long)) (omega (arith, target)) first ∙ long in
    let second : low ≡ take 2 (drop 76 (report_bytes r)) = is_low ∙ low_at r in
    let all = put_more (put_mid 0 76 copied marked) (report_bytes r) low 76 2 (omega (arith, room_left)) (omega (arith, target)) second after_marks in
    let filled : length (put_mid 76 2 (put_mid 0 76 copied marked) low) ≡ 78 = put_length (put_mid 0 76 copied marked) (report_bytes r) low 76 2 (omega (arith, room_left)) (omega (arith, target)) second ∙ room_left in
    sym (take_all 78 (put_mid 76 2 (put_mid 0 76 copied marked) low) (omega (arith, filled))) ∙ all ∙ take_all 78 (report_bytes r) (omega (arith, target))
