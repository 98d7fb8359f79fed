-- Syndromes are power sums of the symbols at the columns' positions. Assumes nothing.
use mathlib.Core.Path.{◌≡◌, sym, ap, ◌∙◌}
use Prim.Native.Nat.{ℕ, suc, ◌-◌, ◌<◌}
use Rattle.field.specs.Laws.{Field}
use Rattle.reedsolomon.specs.Sums.{sum, power, power_sum, position}
use Rattle.reedsolomon.specs.Words.{Elements, syndrome, Codeword}
use Rattle.reedsolomon.proofs.Sums.{sum_of_equals}
use Rattle.reedsolomon.proofs.Polynomials.{value_is_sum, value_of_sum, value_of_equals}
use Rattle.reedsolomon.proofs.Powers.{power_of_power}

module _ {F : Type 0} {In : F → Type 0} {◌⊕◌ ◌⊗◌ : F → F → F} {𝟘 𝟙 : F} {inv : F → F} (K : Field In ◌⊕◌ ◌⊗◌ 𝟘 𝟙 inv) (α : F) (N : ℕ) where
  infixl 20 ◌⊕◌
  infixl 30 ◌⊗◌
  open K use {sum_zero, mul_assoc}

  abbrev ◌^^◌ : F → ℕ → F
  a ^^ n = power ◌⊗◌ 𝟙 a n

  infixr 40 ◌^^◌
  abbrev X : ℕ → F
  X = position ◌⊗◌ 𝟙 α N

  abbrev syndrome_of : (ℕ → F) → ℕ → F
  syndrome_of w i = syndrome ◌⊕◌ ◌⊗◌ 𝟘 𝟙 α N w i

  -- S_i = Σ w_j * X_j ^ (i + 1)
  pub syndrome_is_sum : (w : ℕ → F) (i : ℕ) → Elements In N w → syndrome_of w i ≡ sum ◌⊕◌ 𝟘 N (λ j. w j ⊗ X j ^^ suc i)
  unfolding syndrome position
  syndrome_is_sum w i hw =
      value_is_sum K N w (α ^^ suc i) hw
      ∙ sum_of_equals K N (λ j. w j ⊗ (α ^^ suc i) ^^ (N - suc j)) (λ j. w j ⊗ (α ^^ (N - suc j)) ^^ suc i)
      (λ j l. ap (λ (t : F). w j ⊗ t) (power_of_power K α (suc i) (N - suc j)))

  -- the same with the symbols times their positions as weights
  pub syndrome_is_power_sum : (w : ℕ → F) (i : ℕ) → Elements In N w → syndrome_of w i ≡ power_sum ◌⊕◌ ◌⊗◌ 𝟘 𝟙 N (λ j. w j ⊗ X j) X i
  unfolding power
  syndrome_is_power_sum w i hw =
      syndrome_is_sum w i hw
      ∙ sum_of_equals K N (λ j. w j ⊗ (X j ⊗ X j ^^ i)) (λ j. w j ⊗ X j ⊗ X j ^^ i) (λ j l. sym (mul_assoc (w j) (X j) (X j ^^ i)))

  pub syndrome_of_sum : (w d : ℕ → F) (i : ℕ) → syndrome_of (λ j. w j ⊕ d j) i ≡ syndrome_of w i ⊕ syndrome_of d i
  unfolding syndrome
  syndrome_of_sum w d i = value_of_sum K N w d (α ^^ suc i)

  pub syndrome_of_equals : (w v : ℕ → F) (i : ℕ) → ((j : ℕ) → j < N → w j ≡ v j) → syndrome_of w i ≡ syndrome_of v i
  unfolding syndrome
  syndrome_of_equals w v i h = value_of_equals K N w v (α ^^ suc i) h

  pub codeword_of_equals : (T : ℕ) (w v : ℕ → F) → ((j : ℕ) → j < N → w j ≡ v j) → Codeword ◌⊕◌ ◌⊗◌ 𝟘 𝟙 α N T v
      → Codeword ◌⊕◌ ◌⊗◌ 𝟘 𝟙 α N T w
  codeword_of_equals T w v h code i l = syndrome_of_equals w v i h ∙ code i l

  -- a word and a codeword: the syndromes are those of their difference
  pub syndrome_of_difference : (T : ℕ) (w c : ℕ → F) → Elements In N w → Elements In N c → Codeword ◌⊕◌ ◌⊗◌ 𝟘 𝟙 α N T c
      → (i : ℕ) → i < T → syndrome_of w i ≡ power_sum ◌⊕◌ ◌⊗◌ 𝟘 𝟙 N (λ j. (w j ⊕ c j) ⊗ X j) X i
  syndrome_of_difference T w c hw hc code i l =
      sym (sum_zero (syndrome_of w i)) ∙ ap (λ (t : F). syndrome_of w i ⊕ t) (sym (code i l)) ∙ sym (syndrome_of_sum w c i)
      ∙ syndrome_is_power_sum (λ j. w j ⊕ c j) i (λ j u. K.in_sum (w j) (c j) (hw j u) (hc j u))
