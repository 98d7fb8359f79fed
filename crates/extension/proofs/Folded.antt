-- The parity of 64 bits is that of the sum of their halves. Assumes nothing.
use mathlib.Core.Path.{◌≡◌, sym, ap, ap₂, ◌∙◌}
use Prim.Native.Nat.{ℕ, ◌+◌, ◌-◌, ◌/◌, ◌%◌, ◌^◌, ◌<◌}
use native.Mathlib.Nat
use native.Mathlib.Nat.{mod-lt, mod-eq_of_lt}
use lib.Bits.{bit_xor, and_mask}
use lib.Count.{ones, ones_cat}
use lib.Pow.{pow_pos, split}
use Rattle.poly.specs.Polynomial.{add}
use Rattle.poly.proofs.Sum.{add_mod, add_lt}
use Rattle.column.specs.Mask.{parity}
use Rattle.column.proofs.Parity.{odd_sum, parity_linear}

module _ (k : ℕ) where
  -- a mask of k ones takes a number of k bits whole
  all_ones : (x : ℕ) → x < 2 ^ k → parity (2 ^ k - 1) x ≡ ones x % 2
  unfolding parity
  all_ones x h = ap (λ (t : ℕ). ones t % 2) (and_mask x k ∙ mod-eq_of_lt h)

  odd_ones : (a b : ℕ) → a < 2 ^ k → b < 2 ^ k → ones (add a b) % 2 ≡ (ones a + ones b) % 2
  odd_ones a b ha hb =
      sym (all_ones (add a b) (add_lt k a b ha hb)) ∙ parity_linear (2 ^ k - 1) a b ∙ ap₂ add (all_ones a ha) (all_ones b hb) ∙ sym (odd_sum (ones a) (ones b))

  pub folded_parity : (x : ℕ) → x / 2 ^ k < 2 ^ k → ones (bit_xor x (x / 2 ^ k) % 2 ^ k) % 2 ≡ ones x % 2
  unfolding add
  folded_parity x h =
      let low : ℕ = x % 2 ^ k in
      let high : ℕ = x / 2 ^ k in
      ap (λ (t : ℕ). ones t % 2) (add_mod x high k ∙ ap (add low) (mod-eq_of_lt h))
      ∙ odd_ones low high (mod-lt x (pow_pos k)) h ∙ ap (λ (t : ℕ). t % 2) (Nat.add_comm (ones low) (ones high) ∙ sym (ones_cat k high low (mod-lt x (pow_pos k))) ∙ ap ones (split x k))
