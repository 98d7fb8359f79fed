-- Reading accepts exactly what writing makes: a block that passes 7 and 8 is the block that writing makes of the dump's own values. Assumes nothing.
use mathlib.Core.Path.{◌≡◌, refl, ap, ap₂, ◌∙◌, sym, subst}
use mathlib.Core.Bool.{Bool, true, false, cond}
use mathlib.Core.List.{List, [], ◌∷◌, ◌++◌}
use mathlib.Core.Logic.{◌↔◌}
use Prim.Native.Nat.{ℕ, ◌+◌, ◌*◌, ◌/◌, ◌%◌, ◌<◌, ◌≤◌}
use native.Mathlib.Omega.{arith}
use borrow.Author.Tests.{eqb-true}
use lib.Dec.{eqb}
use lib.ListN.{length, get_or, take}
use lib.Seq.{take_all}
use Rattle.dump.specs.Check.{check_of}
use Rattle.dump.specs.Listed.{joined}
use Rattle.dump.specs.Block.{soft_place, holds_value, fixed_byte, body_byte, body_of, block_of, byte_right, fixed_right, check_right}
use Rattle.dump.specs.Dump.{dump_of, block_at, soft_of}
use Rattle.dump.specs.Accepted.{Values, Accepted, MadeByWriting}
use Rattle.dump.proofs.AllBelow.{all_at}
use Rattle.dump.proofs.Blocks.{length_of_block, byte_of_block, value_of_soft}
use Rattle.dump.proofs.Check.{weighted_take}
use Rattle.dump.proofs.LastTwo.{last_two}
use Rattle.dump.proofs.Joined.{joined_ext, joined_parts}
use Rattle.dump.proofs.Listed.{take_is_listed}
use Rattle.dump.proofs.Undone.{reading_undoes_writing}
use Rattle.dump.proofs.Places.{ValueAt, value_there}

blocks_of : (dump : List ℕ) → joined (block_at dump) 4 ≡ take 2048 dump
unfolding block_at
blocks_of dump = joined_parts dump 512 4

-- the high and the low byte of a number are its digits
digits : (x y n : ℕ) → y < 256 → x * 256 + y ≡ n → (x ≡ n / 256) × (y ≡ n % 256)
digits x y n h e = (omega arith, omega arith)

module _ (dump : List ℕ) (b : ℕ) where
  -- a soft value of a block is the value that writing puts there
  value_kept : (k : ℕ) → ValueAt b k → get_or (block_at dump b) k 0 ≡ get_or (soft_of dump) (soft_place b k) 0
  value_kept k v =
      let i = soft_place b k in
      let place : b * 512 + k ≡ i / 480 * 512 + (16 + i % 480) = omega (arith, v.from, v.to) in
      byte_of_block dump b k (omega (arith, v.to))
      ∙ ap (λ (n : ℕ). get_or dump n 0) place
      ∙ sym (byte_of_block dump (i / 480) (16 + i % 480) (omega arith))
      ∙ sym (value_of_soft dump i v.present)

  -- and so is every byte before 510 of a block that passes 7
  body_kept : fixed_right (block_at dump b) b ≡ true → (k : ℕ) → k < 510 → get_or (block_at dump b) k 0 ≡ body_byte (soft_of dump) b k
  unfolding fixed_right byte_right body_byte
  body_kept right k h =
      by_kind (holds_value b k) refl (all_at (λ (k : ℕ). byte_right (get_or (block_at dump b) k 0) b k) 510 k h right)
    where
      by_kind : (t : Bool) → holds_value b k ≡ t → cond (holds_value b k) true (eqb (get_or (block_at dump b) k 0) (fixed_byte b k)) ≡ true
          → get_or (block_at dump b) k 0 ≡ cond (holds_value b k) (get_or (soft_of dump) (soft_place b k) 0) (fixed_byte b k)
      by_kind true e passes = value_kept k (value_there b k e) ∙ rw e
      by_kind false e passes = eqb-true _ _ (rw e at passes) ∙ rw e

  -- a block that passes 7 and 8 is a written one
  block_kept : length (block_at dump b) ≡ 512 → get_or (block_at dump b) 511 0 < 256 → fixed_right (block_at dump b) b ≡ true → check_right (block_at dump b) ≡ true → block_at dump b ≡ block_of (soft_of dump) b
  unfolding block_of check_right
  block_kept size byte fixed check =
      let block = block_at dump b in
      let body : take 510 block ≡ body_of (soft_of dump) b = take_is_listed (body_byte (soft_of dump) b) block 510 (omega arith) (body_kept fixed) in
      let sum : check_of block ≡ check_of (body_of (soft_of dump) b) = ap (λ (n : ℕ). n % 65536) (sym (weighted_take block 510)) ∙ ap check_of body in
      let last = digits (get_or block 510 0) (get_or block 511 0) (check_of (body_of (soft_of dump) b)) byte (eqb-true _ _ check ∙ sum) in
      last_two block 510 size
      ∙ ap₂ (λ (l t : List ℕ). l ++ t) body (ap₂ (λ (x y : ℕ). x ∷ y ∷ []) last.0 last.1)

-- an accepted buffer is the dump of the values it holds
pub accepted_is_dump_of_its_values : (dump : List ℕ) → Values 2048 255 dump → Accepted dump → dump ≡ dump_of (soft_of dump)
unfolding dump_of
accepted_is_dump_of_its_values dump bytes accepted =
    sym (take_all 2048 dump (omega (arith, bytes.size)))
    ∙ sym (blocks_of dump)
    ∙ joined_ext (block_at dump) (block_of (soft_of dump)) 4 kept
  where
    kept : (b : ℕ) → b < 4 → block_at dump b ≡ block_of (soft_of dump) b
    kept b h =
        let last : get_or (block_at dump b) 511 0 ≤ 255 = rw (byte_of_block dump b 511 (omega arith)) (bytes.range (b * 512 + 511) (omega arith)) in
        block_kept dump b (length_of_block dump b bytes.size h) (omega arith) (accepted.fixed b h) (accepted.check b h)

pub reading_accepts_exactly_dumps : (dump : List ℕ) → Values 2048 255 dump → (Accepted dump ↔ MadeByWriting dump)
reading_accepts_exactly_dumps dump bytes = (
  λ accepted. record { soft = soft_of dump; page = accepted.values; made = accepted_is_dump_of_its_values dump bytes accepted },
  λ written. subst Accepted (sym written.made) (reading_undoes_writing written.soft written.page).1,
)
