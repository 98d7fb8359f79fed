-- What C reads of the report that a page entry leaves is the report of the page. Assumes nothing.
use mathlib.Core.List.{List, append_assoc}
use mathlib.Core.Path.{◌≡◌, refl, sym, ap, ◌∙◌, subst⁻¹}
use Prim.Native.Nat.{ℕ, zero, suc, ◌+◌, ◌*◌, ◌^◌, ◌≤◌, ◌<◌}
use native.Mathlib.Omega.{arith}
use lib.Dec.{lit≤}
use lib.ListN.{length, length-drop, get_or, take, drop}
use lib.Seq.{take_at, take-append-le, drop-append-le}
use lib.Signed.{mag}
use Rattle.trellis.specs.Demand.{supercode}
use Rattle.trellis.specs.TwoWords.{Choice}
use Rattle.packing.specs.Packing.{joined, sixteen_bits, signed_of}
use Rattle.packing.proofs.Signed.{signed_back, sixteen_bits_few}
use Rattle.concatenated.specs.Data.{digits}
use Rattle.concatenated.proofs.Digits.{digits_length, number_comes_back}
use Rattle.page.specs.Outcomes.{outcome_of, Buffer, PageOutcome, report as reported}
use Rattle.page.specs.declared.Report.{Report}
use Rattle.store_pages.specs.Pages.{decoded_page}
use Rattle.store_pages.specs.Reports.{Marked}
use Rattle.concatenated.specs.Readers.{short_reader}
use Rattle.concatenated.proofs.Readings.{short_readers_read_words}
use Rattle.store_pages.proofs.Reports.{refusals_are_marked, answers_are_marked, answers_are_near}
use Rattle.trellis.proofs.Sums.{mag_le}
use Rattle.station.specs.Report.{total_bytes, steps_and_totals, steps_to_marks, low_bytes, report_bytes, changed_total_in, erased_total_in, Holds}
use Rattle.station.specs.PageReturned.{have_room, page_answer, PageReturned}
use Rattle.store_pages.proofs.Asked.{every_way}
use Rattle.station.proofs.Bytes.{changed_part, erased_part}
use Rattle.station.proofs.Marking.{front_length, to_marks_length, low_at}
use Rattle.station.proofs.Numbers.{answer_is_reported}
use Rattle.station.proofs.Steps.{steps_are_few}
use Rattle.questions.specs.Answer.{number, refused as refused_by}

abbrev ReportMarked : PageOutcome → Type 0
ReportMarked o = Marked (reported o)

answer_is_marked : (B : Buffer) (choice : Choice) (soft : List ℕ) (limit : ℕ) (buffer report : List ℕ) → ReportMarked (page_answer B choice soft limit buffer report)
answer_is_marked B choice soft limit buffer report =
    every_way choice soft limit (have_room B buffer report) ReportMarked refused_by (outcome_of (decoded_page choice supercode soft limit)) (λ n p some few near. refusals_are_marked)
    (λ most. answers_are_marked limit (short_reader choice supercode limit) (short_readers_read_words choice supercode limit) soft (decoded_page choice supercode soft limit) refl)

-- the low point has 16 bits
answer_is_near : (B : Buffer) (choice : Choice) (soft : List ℕ) (limit : ℕ) (buffer report : List ℕ) → mag (reported (page_answer B choice soft limit buffer report)).low < 32768
answer_is_near B choice soft limit buffer report =
    every_way choice soft limit (have_room B buffer report) (λ (o : PageOutcome). mag (reported o).low < 32768) refused_by (outcome_of (decoded_page choice supercode soft limit)) (λ n p some few near. omega arith)
    (λ most. omega (arith, mag_le (reported (outcome_of (decoded_page choice supercode soft limit))).low, answers_are_near limit (short_reader choice supercode limit) (short_readers_read_words choice supercode limit) soft (decoded_page choice supercode soft limit) refl))

totals_in : (r : Report) (level : ℕ) → level < 4 → (changed_total_in (report_bytes r) level ≡ get_or r.changed level 0) × (erased_total_in (report_bytes r) level ≡ get_or r.erased level 0)
unfolding digits
totals_in r zero h = (refl, refl)
totals_in r (suc zero) h = (refl, refl)
totals_in r (suc (suc zero)) h = (refl, refl)
totals_in r (suc (suc (suc zero))) h = (refl, refl)
totals_in r (suc (suc (suc (suc level)))) h = absurd (omega arith)

-- a part of what stands before the low point
before_low : (r : Report) (n k : ℕ) → k + n ≤ 76 → take n (drop k (report_bytes r)) ≡ take n (drop k (steps_to_marks r))
before_low r n k h =
    let long = to_marks_length r in
    let room : n ≤ length (drop k (steps_to_marks r)) = simp length-drop (omega (arith, long)) in
    ap (take n) (drop-append-le k (steps_to_marks r) (low_bytes r.low) (omega (arith, long))) ∙ take-append-le n (drop k (steps_to_marks r)) (low_bytes r.low) room

-- the bytes of a report with few steps, small marks and a low point of 16 bits hold it
bytes_hold : (r : Report) → r.steps < 256 ^ 4 → Marked r → mag r.low < 32768 → Holds (report_bytes r) r
bytes_hold r few marked near =
    record {
      steps =
          ap (joined 256 0) (before_low r 4 0 (lit≤ tt) ∙ ap (take 4) (append_assoc (digits 256 4 r.steps) (total_bytes r.changed r.erased) _) ∙ take_at (digits 256 4 r.steps) _ 4 (digits_length 256 4 r.steps))
          ∙ number_comes_back 4 r.steps few;
      totals = totals_in r;
      marks = λ level h.
          let cs = r.changed_marks in
          let es = r.erased_marks in
          let place : 20 + 16 * level ≡ 12 + 16 * level + 8 = omega arith in (
            ap (joined 256 0) (before_low r 8 (12 + 16 * level) (omega arith) ∙ changed_part (steps_and_totals r) (front_length r) 4 cs es level h) ∙ number_comes_back 8 (get_or cs level 0) (omega (arith, (marked.small level h).0)),
            ap (λ (n : ℕ). joined 256 0 (take 8 (drop n (report_bytes r)))) place ∙ ap (joined 256 0) (before_low r 8 (12 + 16 * level + 8) (omega arith) ∙ erased_part (steps_and_totals r) (front_length r) 4 cs es level h)
                ∙ number_comes_back 8 (get_or es level 0) (omega (arith, (marked.small level h).1)),
          );
      low = ap signed_of (ap (joined 256 0) (sym (low_at r)) ∙ number_comes_back 2 (sixteen_bits r.low) (sixteen_bits_few r.low near)) ∙ signed_back r.low near;
    }

-- the entry returned 0: the report that it left holds that of the page
pub report_is_read_back : (B : Buffer) (choice : Choice) (soft : List ℕ) (limit : ℕ) (buffer report : List ℕ) (r : ℕ) (new_buffer new_report : List ℕ)
    → PageReturned B choice soft limit buffer report r new_buffer new_report → r ≡ 0 → Holds new_report (reported (page_answer B choice soft limit buffer report))
report_is_read_back B choice soft limit buffer report r new_buffer new_report returned done =
    let d = page_answer B choice soft limit buffer report in
    let answered : number d ≡ 0 = omega (arith, returned.answer, done) in
    let is : new_report ≡ report_bytes (reported d) = returned.report_is ∙ answer_is_reported report d answered in
    subst⁻¹ (λ (x : List ℕ). Holds x (reported d)) is (bytes_hold (reported d) (omega (arith, (steps_are_few B choice soft limit buffer report).1)) (answer_is_marked B choice soft limit buffer report) (answer_is_near B choice soft limit buffer report))
