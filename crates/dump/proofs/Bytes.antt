-- What writing makes of a soft page is bytes. Assumes nothing.
use mathlib.Core.Path.{◌≡◌, refl, ap, ◌∙◌, sym}
use mathlib.Core.Bool.{Bool, true, false, cond}
use mathlib.Core.List.{List}
use Prim.Native.Nat.{ℕ, ◌+◌, ◌*◌, ◌/◌, ◌%◌, ◌<◌, ◌≤◌}
use native.Mathlib.Omega.{arith}
use lib.Dec.{eqb}
use lib.ListN.{get_or}
use Rattle.dump.specs.Block.{soft_place, holds_value, fixed_byte, body_byte, block_of}
use Rattle.dump.specs.Dump.{dump_of}
use Rattle.dump.specs.Accepted.{Values}
use Rattle.dump.proofs.Blocks.{dump_length, block_of_dump, byte_of_block, body_of_block, high_of_block, low_of_block}
use Rattle.dump.proofs.Listed.{below_or_last}
use Rattle.dump.proofs.Places.{value_there}

fixed_is_byte : (b k : ℕ) → b < 4 → fixed_byte b k ≤ 255
unfolding fixed_byte
fixed_is_byte b k h = by_place (eqb k 0) (eqb k 1) (eqb k 2)
  where
    by_place : (first second third : Bool) → cond first 80 (cond second 71 (cond third b 0)) ≤ 255
    by_place true second third = omega arith
    by_place false true third = omega arith
    by_place false false true = omega arith
    by_place false false false = omega arith

module _ (soft : List ℕ) (page : Values 1890 7 soft) where
  body_is_byte : (b k : ℕ) → b < 4 → body_byte soft b k ≤ 255
  unfolding body_byte
  body_is_byte b k h = by_kind (holds_value b k) refl
    where
      by_kind : (t : Bool) → holds_value b k ≡ t → cond t (get_or soft (soft_place b k) 0) (fixed_byte b k) ≤ 255
      by_kind true e = omega (arith, page.range (soft_place b k) (value_there b k e).present)
      by_kind false e = fixed_is_byte b k h

  block_is_bytes : (b k : ℕ) → b < 4 → k < 512 → get_or (block_of soft b) k 0 ≤ 255
  block_is_bytes b k h l =
      below_or_last k 511 l
      (λ l. below_or_last k 510 l
      (λ l. rw (body_of_block soft b k l) (body_is_byte b k h))
      (λ e. rw (e, high_of_block soft b) (omega arith)))
      (λ e. rw (e, low_of_block soft b) (omega arith))

  pub written_dump_is_bytes : Values 2048 255 (dump_of soft)
  written_dump_is_bytes = record { size = dump_length soft; range = each }
    where
      each : (i : ℕ) → i < 2048 → get_or (dump_of soft) i 0 ≤ 255
      each i h =
          let place : i ≡ i / 512 * 512 + i % 512 = omega arith in
          let same : get_or (dump_of soft) i 0 ≡ get_or (block_of soft (i / 512)) (i % 512) 0 =
          ap (λ (n : ℕ). get_or (dump_of soft) n 0) place
          ∙ sym (byte_of_block (dump_of soft) (i / 512) (i % 512) (omega arith))
          ∙ ap (λ (block : List ℕ). get_or block (i % 512) 0) (block_of_dump soft (i / 512) (omega arith)) in
          rw same (block_is_bytes (i / 512) (i % 512) (omega arith) (omega arith))
