-- The difference at an error location, from the quotient of the error locations' polynomial by the column's locator. Assumes nothing.
use mathlib.Core.Path.{◌≡◌, refl, sym, ap, ap₂, ◌∙◌}
use mathlib.Core.Bool.{Bool, true, false}
use Prim.Native.Nat.{ℕ, zero, suc, ◌+◌, ◌-◌, ◌<◌}
use native.Mathlib.Decide.{ℕ_discrete}
use native.Mathlib.Omega.{arith}
use Rattle.field.specs.Laws.{Field}
use Rattle.reedsolomon.specs.Sums.{sum, power, value, power_sum}
use Rattle.reedsolomon.specs.Words.{Elements, Distinct, count}
use Rattle.reedsolomon.specs.Quotient.{quotient, denominator, numerator, magnitude}
use Rattle.reedsolomon.proofs.FieldFacts.{zero_sum, mul_zero, zero_mul, no_divisor}
use Rattle.reedsolomon.proofs.Sums.{sum_of_equals, sum_of_one_term}
use Rattle.reedsolomon.proofs.Polynomials.{value_in}
use Rattle.reedsolomon.proofs.Counting.{count_positive}
use Rattle.reedsolomon.proofs.PowerSums.{combined_power_sums}
use Rattle.reedsolomon.proofs.Roots.{quotient_in, quotient_keeps_other_roots, fewer_roots_than_coefficients}

module _ {F : Type 0} {In : F → Type 0} {◌⊕◌ ◌⊗◌ : F → F → F} {𝟘 𝟙 : F} {inv : F → F} (K : Field In ◌⊕◌ ◌⊗◌ 𝟘 𝟙 inv) where
  infixl 20 ◌⊕◌
  infixl 30 ◌⊗◌
  open K use {mul_assoc, mul_comm, mul_one, mul_inv, in_mul, one_not_zero}

  abbrev value_of : ℕ → (ℕ → F) → F → F
  value_of k p x = value ◌⊕◌ ◌⊗◌ 𝟘 k p x

  abbrev quotient_of : (ℕ → F) → F → ℕ → F
  quotient_of p r = quotient ◌⊕◌ ◌⊗◌ 𝟘 p r

  -- the recurrence of the denominator is Horner's rule for the quotient
  pub denominator_is_value : (g : ℕ → F) (r : F) (n : ℕ) → denominator ◌⊕◌ ◌⊗◌ 𝟘 g r n ≡ value_of n (quotient_of g r) r
  unfolding denominator value
  denominator_is_value g r zero = refl
  denominator_is_value g r (suc n) = ap (λ (t : F). t ⊗ r ⊕ quotient_of g r n) (denominator_is_value g r n)

  -- the recurrence of the numerator is a sum
  pub numerator_is_sum : (k : ℕ) (S g : ℕ → F) (r : F) (n : ℕ)
      → numerator ◌⊕◌ ◌⊗◌ 𝟘 k S g r n ≡ sum ◌⊕◌ 𝟘 n (λ j. S (k - suc j) ⊗ quotient_of g r j)
  unfolding numerator sum
  numerator_is_sum k S g r zero = refl
  numerator_is_sum k S g r (suc n) = ap (λ (t : F). t ⊕ S (k - suc n) ⊗ quotient_of g r n) (numerator_is_sum k S g r n)

  -- the division gives the value back
  divided_out : (v x d : F) → In v → In x → In d → (x ≡ 𝟘 → ⊥) → (d ≡ 𝟘 → ⊥) → v ⊗ x ⊗ d ⊗ inv (d ⊗ x) ≡ v
  divided_out v x d hv hx hd nx nd =
      ap (λ (t : F). t ⊗ inv (d ⊗ x)) (mul_assoc v x d ∙ ap (λ (t : F). v ⊗ t) (mul_comm x d)) ∙ mul_assoc v (d ⊗ x) (inv (d ⊗ x))
      ∙ ap (λ (t : F). v ⊗ t) (mul_inv (d ⊗ x) (in_mul d x) (λ e. nd (no_divisor K d x hd hx nx e))) ∙ mul_one v hv

  -- n locators X, the error locations U among them, k in number, and a polynomial g of k + 1 coefficients, the first 1, with the error locations as roots
  module _ (same : (a b : F) → Dec (a ≡ b)) (n : ℕ) (X : ℕ → F) (hx : Elements In n X) (hz : (j : ℕ) → j < n → X j ≡ 𝟘 → ⊥) (hd : Distinct n X)
      (U : ℕ → Bool) (k : ℕ) (hk : count U n ≡ k) (g : ℕ → F) (hg : Elements In (suc k) g) (monic : g 0 ≡ 𝟙)
      (roots : (m : ℕ) → m < n → U m ≡ true → value_of (suc k) g (X m) ≡ 𝟘) (l : ℕ) (hl : l < n) (ul : U l ≡ true) where
    -- the quotient by the locator of l
    abbrev Q : ℕ → F
    Q = quotient_of g (X l)

    other_location : (m : ℕ) → m < n → U m ≡ true → (m ≡ l → ⊥) → value_of k Q (X m) ≡ 𝟘
    other_location m u um ne =
        quotient_keeps_other_roots K k g (X l) (X m) hg (hx l hl) (hx m u) (λ e. ne (hd m l u hl e)) (roots l hl ul) (roots m u um)

    first_coefficient : Q 0 ≡ 𝟙
    unfolding quotient value
    first_coefficient = ap₂ ◌⊕◌ (zero_mul K (X l)) monic ∙ zero_sum K 𝟙

    -- at l itself the quotient is not 0: it has not as many roots
    pub quotient_not_zero : value_of k Q (X l) ≡ 𝟘 → ⊥
    quotient_not_zero e =
        let few : count U n < k =
        fewer_roots_than_coefficients K same n k Q X U (quotient_in K k g (X l) hg) hx hd
        (λ z. one_not_zero (sym first_coefficient ∙ z 0 (omega (arith, count_positive U n l hl ul))))
        (λ m u um. elim (ℕ_discrete m l) [ yes q ↦ ap (λ (t : ℕ). value_of k Q (X t)) q ∙ e | no q ↦ other_location m u um q ]) in
        absurd (omega arith)

    -- where only error locations have a magnitude v other than 0, and S are the power sums of v from the first power on, the quotient gives the magnitude at l
    pub quotient_gives_magnitude : (S v : ℕ → F) → Elements In n v → ((j : ℕ) → j < n → U j ≡ false → v j ≡ 𝟘)
        → ((i : ℕ) → i < k → S i ≡ power_sum ◌⊕◌ ◌⊗◌ 𝟘 𝟙 n (λ j. v j ⊗ X j) X i) → magnitude ◌⊕◌ ◌⊗◌ 𝟘 inv k S g (X l) ≡ v l
    unfolding magnitude power
    quotient_gives_magnitude S v hv off h_s =
        ap₂ (λ (a d : F). a ⊗ inv (d ⊗ X l)) (numerator_is_sum k S g (X l) k ∙ only_l) (denominator_is_value g (X l) k)
        ∙ divided_out (v l) (X l) (value_of k Q (X l)) (hv l hl) (hx l hl) (value_in K k Q (X l) (quotient_in K k g (X l) hg))
        (hz l hl) quotient_not_zero
      where
        weighed : ℕ → F
        weighed m = v m ⊗ X m ⊗ value_of k Q (X m)

        no_other : (m : ℕ) → m < n → (m ≡ l → ⊥) → (b : Bool) → U m ≡ b → weighed m ⊗ 𝟙 ≡ 𝟘
        no_other m u ne true q =
            ap (λ (t : F). v m ⊗ X m ⊗ t ⊗ 𝟙) (other_location m u q ne) ∙ ap (λ (t : F). t ⊗ 𝟙) (mul_zero K (v m ⊗ X m)) ∙ zero_mul K 𝟙
        no_other m u ne false q =
            ap (λ (t : F). t ⊗ X m ⊗ value_of k Q (X m) ⊗ 𝟙) (off m u q) ∙ ap (λ (t : F). t ⊗ value_of k Q (X m) ⊗ 𝟙) (zero_mul K (X m))
            ∙ ap (λ (t : F). t ⊗ 𝟙) (zero_mul K (value_of k Q (X m))) ∙ zero_mul K 𝟙

        only_l : sum ◌⊕◌ 𝟘 k (λ j. S (k - suc j) ⊗ Q j) ≡ v l ⊗ X l ⊗ value_of k Q (X l)
        only_l =
            sum_of_equals K k (λ j. S (k - suc j) ⊗ Q j) (λ j. Q j ⊗ power_sum ◌⊕◌ ◌⊗◌ 𝟘 𝟙 n (λ j. v j ⊗ X j) X (0 + (k - suc j)))
            (λ j u.
            let e : k - suc j ≡ 0 + (k - suc j) = omega arith in
            mul_comm (S (k - suc j)) (Q j)
            ∙ ap (λ (t : F). Q j ⊗ t) (h_s (k - suc j) (omega arith) ∙ ap (power_sum ◌⊕◌ ◌⊗◌ 𝟘 𝟙 n (λ j. v j ⊗ X j) X) e))
            ∙ sym (combined_power_sums K n (λ j. v j ⊗ X j) X k Q 0)
            ∙ sum_of_one_term K n l (λ m. weighed m ⊗ 𝟙) hl (λ m u ne. no_other m u ne (U m) refl)
            ∙ mul_one (weighed l) (in_mul (v l ⊗ X l) (value_of k Q (X l)))
