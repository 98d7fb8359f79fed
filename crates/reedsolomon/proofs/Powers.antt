-- Powers in a field, and the positions of the columns. Assumes nothing.
use mathlib.Core.Path.{◌≡◌, refl, sym, ap, ap₂, ◌∙◌}
use Prim.Native.Nat.{ℕ, zero, suc, ◌+◌, ◌-◌, ◌≤◌, ◌<◌}
use native.Mathlib.Nat.{zero-lt-suc}
use native.Mathlib.Omega.{arith}
use Rattle.field.specs.Laws.{Field}
use Rattle.reedsolomon.specs.Sums.{power, position}
use Rattle.reedsolomon.specs.Words.{OrderAtLeast, Distinct}
use Rattle.reedsolomon.proofs.FieldFacts.{one_mul, sum_cancel, no_divisor, mul_exchange}

module _ {F : Type 0} {In : F → Type 0} {◌⊕◌ ◌⊗◌ : F → F → F} {𝟘 𝟙 : F} {inv : F → F} (K : Field In ◌⊕◌ ◌⊗◌ 𝟘 𝟙 inv) where
  infixl 20 ◌⊕◌
  infixl 30 ◌⊗◌
  open K use {sum_self, mul_assoc, mul_comm, mul_sum, mul_one, in_one, in_sum, in_mul, one_not_zero}

  abbrev ◌^^◌ : F → ℕ → F
  a ^^ n = power ◌⊗◌ 𝟙 a n

  infixr 40 ◌^^◌
  pub power_in : (a : F) (i : ℕ) → In (a ^^ i)
  unfolding power
  power_in a zero = in_one
  power_in a (suc i) = in_mul a (a ^^ i)

  pub power_of_one : (i : ℕ) → 𝟙 ^^ i ≡ 𝟙
  unfolding power
  power_of_one zero = refl
  power_of_one (suc i) = ap (λ (t : F). 𝟙 ⊗ t) (power_of_one i) ∙ mul_one 𝟙 in_one

  pub power_of_product : (a b : F) (i : ℕ) → (a ⊗ b) ^^ i ≡ a ^^ i ⊗ b ^^ i
  unfolding power
  power_of_product a b zero = sym (mul_one 𝟙 in_one)
  power_of_product a b (suc i) =
      ap (λ (t : F). a ⊗ b ⊗ t) (power_of_product a b i) ∙ sym (mul_assoc (a ⊗ b) (a ^^ i) (b ^^ i))
      ∙ ap (λ (t : F). t ⊗ b ^^ i) (mul_exchange K a b (a ^^ i))
      ∙ mul_assoc (a ⊗ a ^^ i) b (b ^^ i)

  pub power_of_power : (a : F) (i k : ℕ) → (a ^^ i) ^^ k ≡ (a ^^ k) ^^ i
  unfolding power
  power_of_power a i zero = sym (power_of_one i)
  power_of_power a i (suc k) = ap (λ (t : F). a ^^ i ⊗ t) (power_of_power a i k) ∙ sym (power_of_product a (a ^^ k) i)

  pub power_of_sum : (a : F) (i d : ℕ) → a ^^ (i + d) ≡ a ^^ i ⊗ a ^^ d
  unfolding power
  power_of_sum a zero d = ap (λ (t : ℕ). a ^^ t) (native.Mathlib.Nat.zero-add d) ∙ sym (one_mul K (a ^^ d) (power_in a d))
  power_of_sum a (suc i) d =
      ap (λ (t : ℕ). a ^^ t) (native.Mathlib.Nat.suc-add i d) ∙ ap (λ (t : F). a ⊗ t) (power_of_sum a i d)
      ∙ sym (mul_assoc a (a ^^ i) (a ^^ d))

  pub power_not_zero : (a : F) → In a → (a ≡ 𝟘 → ⊥) → (i : ℕ) → a ^^ i ≡ 𝟘 → ⊥
  unfolding power
  power_not_zero a ha nz zero = one_not_zero
  power_not_zero a ha nz (suc i) = λ e. power_not_zero a ha nz i (no_divisor K (a ^^ i) a (power_in a i) ha nz (mul_comm (a ^^ i) a ∙ e))

  pub position_in : (a : F) (n j : ℕ) → In (position ◌⊗◌ 𝟙 a n j)
  unfolding position
  position_in a n j = power_in a (n - suc j)

  module _ (N : ℕ) (a : F) (ord : OrderAtLeast In ◌⊗◌ 𝟘 𝟙 N a) where
    equal_powers : (i d : ℕ) → d < N → a ^^ i ≡ a ^^ (i + d) → d ≡ 0
    equal_powers i zero h e = refl
    equal_powers i (suc d) h e =
        absurd
        (ord.not_one (suc d) (zero-lt-suc d) h
        (sym (sum_cancel K 𝟙 (a ^^ suc d)
        (no_divisor K (𝟙 ⊕ a ^^ suc d) (a ^^ i) (in_sum 𝟙 (a ^^ suc d) in_one (power_in a (suc d))) (power_in a i)
        (power_not_zero a ord.element ord.not_zero i)
        (mul_comm (𝟙 ⊕ a ^^ suc d) (a ^^ i) ∙ mul_sum (a ^^ i) 𝟙 (a ^^ suc d)
        ∙ ap₂ ◌⊕◌ (mul_one (a ^^ i) (power_in a i) ∙ e) (sym (power_of_sum a i (suc d)))
        ∙ sum_self (a ^^ (i + suc d)))))))

    pub powers_are_distinct : (i j : ℕ) → i < N → j < N → a ^^ i ≡ a ^^ j → i ≡ j
    powers_are_distinct i j hi hj e =
        elim (native.Mathlib.Decide.dec_le i j) [
          | yes p ↦ up i j p hj e
          | no p ↦ sym
              (up j i (native.Mathlib.Nat.le_of_lt (native.Mathlib.Nat.lt_of_not-le p)) hi (sym e))
        ]
      where
        up : (i j : ℕ) → i ≤ j → j < N → a ^^ i ≡ a ^^ j → i ≡ j
        up i j p h e =
            let q : i + (j - i) ≡ j = native.Mathlib.Nat.add-sub_of_le p in
            let z : j - i ≡ 0 = equal_powers i (j - i) (omega arith) (e ∙ ap (λ (t : ℕ). a ^^ t) (sym q)) in
            omega arith

    pub positions_are_distinct : Distinct N (position ◌⊗◌ 𝟙 a N)
    unfolding position
    positions_are_distinct i j hi hj e =
        let q : N - suc i ≡ N - suc j = powers_are_distinct (N - suc i) (N - suc j) (omega arith) (omega arith) e in
        omega arith

    pub position_not_zero : (j : ℕ) → position ◌⊗◌ 𝟙 a N j ≡ 𝟘 → ⊥
    unfolding position
    position_not_zero j = power_not_zero a ord.element ord.not_zero (N - suc j)
