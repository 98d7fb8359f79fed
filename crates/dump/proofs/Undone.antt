-- Reading undoes writing: 01, "A dump is written from a soft page and read into one". Assumes nothing.
use mathlib.Core.Path.{◌≡◌, refl, ap, ◌∙◌, sym, subst}
use mathlib.Core.Bool.{Bool, true, false, cond}
use mathlib.Core.List.{List}
use Prim.Native.Nat.{ℕ, ◌+◌, ◌*◌, ◌/◌, ◌%◌, ◌<◌}
use native.Mathlib.Omega.{arith}
use borrow.Author.Tests.{eq-eqb}
use lib.Dec.{eqb}
use lib.ListN.{length, get_or}
use lib.Seq.{ext_get_or}
use Rattle.dump.specs.Check.{check_of}
use Rattle.dump.specs.Block.{soft_place, holds_value, fixed_byte, body_byte, block_of, byte_right, fixed_right, check_right}
use Rattle.dump.specs.Dump.{dump_of, soft_of}
use Rattle.dump.specs.Accepted.{Values, Accepted}
use Rattle.dump.proofs.AllBelow.{all_of}
use Rattle.dump.proofs.Blocks.{soft_length, block_of_dump, value_of_soft, body_of_block, check_of_block, high_of_block, low_of_block}
use Rattle.dump.proofs.Places.{value_of_page, holds_there}

pub values_come_back : (soft : List ℕ) → length soft ≡ 1890 → soft_of (dump_of soft) ≡ soft
unfolding body_byte
values_come_back soft size = ext_get_or 0 (soft_of (dump_of soft)) soft (long ∙ sym size) (λ i h. each i (subst (λ (n : ℕ). i < n) long h))
  where
    long : length (soft_of (dump_of soft)) ≡ 1890
    long = soft_length (dump_of soft)

    each : (i : ℕ) → i < 1890 → get_or (soft_of (dump_of soft)) i 0 ≡ get_or soft i 0
    each i h =
        let b = i / 480 in
        let k = 16 + i % 480 in
        let place : soft_place b k ≡ i = omega arith in
        value_of_soft (dump_of soft) i h
        ∙ ap (λ (block : List ℕ). get_or block k 0) (block_of_dump soft b (omega arith))
        ∙ body_of_block soft b k (omega arith)
        ∙ ap (λ (t : Bool). cond t (get_or soft (soft_place b k) 0) (fixed_byte b k)) (holds_there b k (value_of_page i h))
        ∙ ap (λ (n : ℕ). get_or soft n 0) place

pub written_fixed_right : (soft : List ℕ) (b : ℕ) → fixed_right (block_of soft b) b ≡ true
unfolding fixed_right byte_right body_byte
written_fixed_right soft b = all_of (λ (k : ℕ). byte_right (get_or (block_of soft b) k 0) b k) 510 (λ k h. ap (λ (x : ℕ). byte_right x b k) (body_of_block soft b k h) ∙ right k)
  where
    by_kind : (x y : ℕ) (t : Bool) → cond t true (eqb (cond t x y) y) ≡ true
    by_kind x y true = refl
    by_kind x y false = eq-eqb y y refl

    right : (k : ℕ) → byte_right (body_byte soft b k) b k ≡ true
    right k = by_kind (get_or soft (soft_place b k) 0) (fixed_byte b k) (holds_value b k)

pub written_check_right : (soft : List ℕ) (b : ℕ) → check_right (block_of soft b) ≡ true
unfolding check_right
written_check_right soft b =
    let block = block_of soft b in
    let same : get_or block 510 0 * 256 + get_or block 511 0 ≡ check_of block = omega (arith, check_of_block soft b, high_of_block soft b, low_of_block soft b) in
    eq-eqb _ _ same

pub reading_undoes_writing : (soft : List ℕ) → Values 1890 7 soft → (soft_of (dump_of soft) ≡ soft) × Accepted (dump_of soft)
reading_undoes_writing soft page =
    let back : soft_of (dump_of soft) ≡ soft = values_come_back soft page.size in (
      back,
      record {
        fixed = λ b h. ap (λ (block : List ℕ). fixed_right block b) (block_of_dump soft b h) ∙ written_fixed_right soft b;
        check = λ b h. ap check_right (block_of_dump soft b h) ∙ written_check_right soft b;
        values = subst (Values 1890 7) (sym back) page;
      },
    )
