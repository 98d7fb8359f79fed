-- Power sums: taking a locator out, and combining them with the coefficients of a polynomial. Assumes nothing.
use mathlib.Core.Path.{◌≡◌, sym, ap, ap₂, ◌∙◌}
use Prim.Native.Nat.{ℕ, zero, suc, ◌+◌, ◌-◌}
use native.Mathlib.Omega.{arith}
use Rattle.field.specs.Laws.{Field}
use Rattle.reedsolomon.specs.Sums.{sum, power, value, power_sum, reversed}
use Rattle.reedsolomon.proofs.FieldFacts.{mul_zero, zero_mul, sum_mul, sum_cancel, no_divisor}
use Rattle.reedsolomon.proofs.Sums.{sum_of_sums, sum_of_multiples, sum_of_equals, sum_of_zeros, sum_reversed}

module _ {F : Type 0} {In : F → Type 0} {◌⊕◌ ◌⊗◌ : F → F → F} {𝟘 𝟙 : F} {inv : F → F} (K : Field In ◌⊕◌ ◌⊗◌ 𝟘 𝟙 inv) where
  infixl 20 ◌⊕◌
  infixl 30 ◌⊗◌
  open K use {sum_self, mul_assoc, mul_comm, mul_sum, in_sum}

  abbrev ◌^^◌ : F → ℕ → F
  a ^^ n = power ◌⊗◌ 𝟙 a n

  infixr 40 ◌^^◌
  abbrev power_sum_of : ℕ → (ℕ → F) → (ℕ → F) → ℕ → F
  power_sum_of n c X i = power_sum ◌⊕◌ ◌⊗◌ 𝟘 𝟙 n c X i

  abbrev value_of : ℕ → (ℕ → F) → F → F
  value_of k p x = value ◌⊕◌ ◌⊗◌ 𝟘 k p x

  -- taking the locator y out of a sequence of power sums multiplies each weight by the distance of its locator to y
  pub modified_power_sum : (n : ℕ) (c X : ℕ → F) (y : F) (i : ℕ)
      → power_sum_of n (λ j. c j ⊗ (X j ⊕ y)) X i ≡ power_sum_of n c X (suc i) ⊕ y ⊗ power_sum_of n c X i
  unfolding power
  modified_power_sum n c X y i =
      sum_of_equals K n (λ j. c j ⊗ (X j ⊕ y) ⊗ X j ^^ i) (λ j. c j ⊗ (X j ⊗ X j ^^ i) ⊕ y ⊗ (c j ⊗ X j ^^ i))
      (λ j l. ap (λ (t : F). t ⊗ X j ^^ i) (mul_sum (c j) (X j) y) ∙ sum_mul K (c j ⊗ X j) (c j ⊗ y) (X j ^^ i)
      ∙ ap₂ ◌⊕◌ (mul_assoc (c j) (X j) (X j ^^ i)) (ap (λ (t : F). t ⊗ X j ^^ i) (mul_comm (c j) y) ∙ mul_assoc y (c j) (X j ^^ i)))
      ∙ sum_of_sums K n (λ j. c j ⊗ X j ^^ suc i) (λ j. y ⊗ (c j ⊗ X j ^^ i))
      ∙ ap (λ (t : F). power_sum_of n c X (suc i) ⊕ t) (sum_of_multiples K n y (λ j. c j ⊗ X j ^^ i))

  -- at the locator itself the weight is now 0
  pub no_weight_at_modified_locator : (c x y : F) → x ≡ y → c ⊗ (x ⊕ y) ≡ 𝟘
  no_weight_at_modified_locator c x y e = ap (λ (t : F). c ⊗ (t ⊕ y)) e ∙ ap (λ (t : F). c ⊗ t) (sum_self y) ∙ mul_zero K c

  -- elsewhere it is 0 only where it was
  pub weight_at_other_locator : (c x y : F) → In c → In x → In y → (x ≡ y → ⊥) → c ⊗ (x ⊕ y) ≡ 𝟘 → c ≡ 𝟘
  weight_at_other_locator c x y hc hx hy ne e = no_divisor K c (x ⊕ y) hc (in_sum x y hx hy) (λ z. ne (sum_cancel K x y z)) e

  -- the coefficients of a polynomial combine the power sums to those of the weights times its values
  pub combined_power_sums : (n : ℕ) (c X : ℕ → F) (k : ℕ) (p : ℕ → F) (i : ℕ)
      → power_sum_of n (λ l. c l ⊗ value_of k p (X l)) X i ≡ sum ◌⊕◌ 𝟘 k (λ j. p j ⊗ power_sum_of n c X (i + (k - suc j)))
  unfolding value sum power
  combined_power_sums n c X zero p i =
      sum_of_zeros K n (λ l. c l ⊗ 𝟘 ⊗ X l ^^ i) (λ l h. ap (λ (t : F). t ⊗ X l ^^ i) (mul_zero K (c l)) ∙ zero_mul K (X l ^^ i))
  combined_power_sums n c X (suc k) p i =
      sum_of_equals K n (λ l. c l ⊗ (value_of k p (X l) ⊗ X l ⊕ p k) ⊗ X l ^^ i)
      (λ l. c l ⊗ value_of k p (X l) ⊗ X l ^^ suc i ⊕ p k ⊗ (c l ⊗ X l ^^ i))
      (λ l h. spread (c l) (value_of k p (X l)) (X l) (p k) (X l ^^ i))
      ∙ sum_of_sums K n (λ l. c l ⊗ value_of k p (X l) ⊗ X l ^^ suc i) (λ l. p k ⊗ (c l ⊗ X l ^^ i))
      ∙ ap₂ ◌⊕◌
      (combined_power_sums n c X k p (suc i)
      ∙ sum_of_equals K k (λ j. p j ⊗ power_sum_of n c X (suc i + (k - suc j))) (λ j. p j ⊗ power_sum_of n c X (i + (suc k - suc j)))
      (λ j h. let e : suc i + (k - suc j) ≡ i + (suc k - suc j) = omega arith in ap (λ (t : ℕ). p j ⊗ power_sum_of n c X t) e))
      (sum_of_multiples K n (p k) (λ l. c l ⊗ X l ^^ i) ∙ ap (λ (t : ℕ). p k ⊗ power_sum_of n c X t) (last i k))
    where
      last : (i k : ℕ) → i ≡ i + (suc k - suc k)
      last i k = omega arith

      spread : (c h x p y : F) → c ⊗ (h ⊗ x ⊕ p) ⊗ y ≡ c ⊗ h ⊗ (x ⊗ y) ⊕ p ⊗ (c ⊗ y)
      spread c h x p y =
          ap (λ (t : F). t ⊗ y) (mul_sum c (h ⊗ x) p) ∙ sum_mul K (c ⊗ (h ⊗ x)) (c ⊗ p) y
          ∙ ap₂ ◌⊕◌ (ap (λ (t : F). t ⊗ y) (sym (mul_assoc c h x)) ∙ mul_assoc (c ⊗ h) x y)
          (ap (λ (t : F). t ⊗ y) (mul_comm c p) ∙ mul_assoc p c y)

  -- the same with the lowest coefficient first
  pub combined_power_sums_upwards : (n : ℕ) (c X : ℕ → F) (k : ℕ) (p : ℕ → F) (i : ℕ)
      → power_sum_of n (λ l. c l ⊗ value_of k (reversed k p) (X l)) X i ≡ sum ◌⊕◌ 𝟘 k (λ j. p j ⊗ power_sum_of n c X (i + j))
  combined_power_sums_upwards n c X k p i =
      combined_power_sums n c X k (reversed k p) i ∙ sum_reversed K k (λ j. p j ⊗ power_sum_of n c X (i + j))
