-- The polynomial with the marked locators as its roots, built one factor after the other. Assumes nothing.
use mathlib.Core.Path.{◌≡◌, sym, ap, ap₂, ◌∙◌, subst}
use mathlib.Core.Bool.{Bool, true}
use Prim.Native.Nat.{ℕ, suc, ◌+◌, ◌<◌}
use native.Mathlib.Nat.{lt_irrefl, suc-add, add-suc}
use native.Mathlib.Decide.{ℕ_discrete, dec_le}
use native.Mathlib.Numerals.{add-one}
use native.Mathlib.Omega.{arith}
use Rattle.field.specs.Laws.{Field}
use Rattle.reedsolomon.specs.Sums.{power, value}
use Rattle.reedsolomon.specs.Words.{indicator, count}
use Rattle.reedsolomon.specs.ModifiedSyndromes.{times_distance_if, times_distances}
use Rattle.reedsolomon.specs.Product.{Monic, ProductPolynomial, ModifiedUpTo}
use Rattle.reedsolomon.proofs.FieldFacts.{zero_sum, mul_zero, zero_mul}
use Rattle.reedsolomon.proofs.Polynomials.{value_of_equals, value_of_combination, value_first}
use Rattle.reedsolomon.proofs.ModifiedSyndromes.{distances_at_marked_locator}

module _ {F : Type 0} {In : F → Type 0} {◌⊕◌ ◌⊗◌ : F → F → F} {𝟘 𝟙 : F} {inv : F → F} (K : Field In ◌⊕◌ ◌⊗◌ 𝟘 𝟙 inv) where
  infixl 20 ◌⊕◌
  infixl 30 ◌⊗◌
  open K use {sum_zero, mul_comm, mul_sum, in_zero, in_one, in_sum, in_mul}

  abbrev value_of : ℕ → (ℕ → F) → F → F
  value_of k p x = value ◌⊕◌ ◌⊗◌ 𝟘 k p x

  -- a 1 at e alone is the polynomial 1
  pub monic_start : (e : ℕ) (s : ℕ → F) → s e ≡ 𝟙 → ((i : ℕ) → (i ≡ e → ⊥) → s i ≡ 𝟘) → Monic In ◌⊕◌ ◌⊗◌ 𝟘 𝟙 e 0 (λ x. 𝟙) s
  unfolding value
  monic_start e s one none =
      record {
        inside = λ i. elim (ℕ_discrete i e) [ yes q ↦ subst In (sym (ap s q ∙ one)) in_one | no q ↦ subst In (sym (none i q)) in_zero ];
        before = λ i l. none i (λ q. lt_irrefl e (omega arith));
        leading = λ i q. ap s (let z : i ≡ e = omega arith in z) ∙ one;
        after = λ i l. none i (λ q. lt_irrefl e (omega arith));
        values = λ i q x. ap₂ ◌⊕◌ (zero_mul K x) (ap s (let z : i + 0 ≡ e = omega arith in z) ∙ one) ∙ zero_sum K 𝟙;
      }

  -- one step of modifying, by y, multiplies the polynomial by x + y
  pub modifying_multiplies : (e k : ℕ) (D : F → F) (y : F) (s s' : ℕ → F) → k < e → Monic In ◌⊕◌ ◌⊗◌ 𝟘 𝟙 e k D s → ModifiedUpTo ◌⊕◌ ◌⊗◌ e y s s'
      → Monic In ◌⊕◌ ◌⊗◌ 𝟘 𝟙 e (suc k) (λ x. D x ⊗ (x ⊕ y)) s'
  unfolding value
  modifying_multiplies e k D y s s' room m w =
      record {
        inside = λ i. elim (dec_le i e) [
          | yes l ↦ subst In (sym (w.written i l)) (in_sum (s (suc i)) (y ⊗ s i) (m.inside (suc i)) (in_mul y (s i)))
          | no l ↦ subst In (sym (w.kept i (native.Mathlib.Nat.lt_of_not-le l))) (m.inside i)
        ];
        before =
            λ i l. w.written i (omega arith) ∙ ap₂ (λ (a b : F). a ⊕ y ⊗ b) (m.before (suc i) (omega arith)) (m.before i (omega arith))
            ∙ zero_sum K (y ⊗ 𝟘) ∙ mul_zero K y;
        leading =
            λ i q. w.written i (omega arith) ∙ ap₂ (λ (a b : F). a ⊕ y ⊗ b) (m.leading (suc i) (omega arith)) (m.before i (omega arith))
            ∙ ap (λ (t : F). 𝟙 ⊕ t) (mul_zero K y) ∙ sum_zero 𝟙;
        after = λ i l. w.kept i l ∙ m.after i l;
        values = λ i q x.
            value_of_equals K (suc (suc k)) (λ j. s' (i + j)) (λ j. s (suc (i + j)) ⊕ y ⊗ s (i + j)) x
            (λ j l. w.written (i + j) (omega arith))
            ∙ value_of_combination K (suc (suc k)) (λ j. s (suc (i + j))) (λ j. s (i + j)) y x
            ∙ ap₂ (λ (a b : F). a ⊕ y ⊗ b) (shifted i q x) (unshifted i q x)
            ∙ ap (λ (t : F). D x ⊗ x ⊕ t) (mul_comm y (D x)) ∙ sym (mul_sum (D x) x y);
      }
    where
      old : (i : ℕ) → i + suc k ≡ e → (x : F) → value_of (suc k) (λ j. s (suc (i + j))) x ≡ D x
      old i q x =
          value_of_equals K (suc k) (λ j. s (suc (i + j))) (λ j. s (suc i + j)) x (λ j l. ap s (sym (suc-add i j)))
          ∙ m.values (suc i) (omega arith) x

      shifted : (i : ℕ) → i + suc k ≡ e → (x : F) → value_of (suc (suc k)) (λ j. s (suc (i + j))) x ≡ D x ⊗ x
      shifted i q x = ap₂ (λ (a b : F). a ⊗ x ⊕ b) (old i q x) (m.after (suc (i + suc k)) (omega arith)) ∙ sum_zero (D x ⊗ x)

      unshifted : (i : ℕ) → i + suc k ≡ e → (x : F) → value_of (suc (suc k)) (λ j. s (i + j)) x ≡ D x
      unshifted i q x =
          let z : s (i + 0) ≡ 𝟘 = m.before (i + 0) (omega arith) in
          value_first K (suc k) (λ j. s (i + j)) x (m.inside (i + 0))
          ∙ ap₂ ◌⊕◌ (ap (λ (t : F). t ⊗ power ◌⊗◌ 𝟙 x (suc k)) z ∙ zero_mul K (power ◌⊗◌ 𝟙 x (suc k)))
          (value_of_equals K (suc k) (λ j. s (i + suc j)) (λ j. s (suc (i + j))) x (λ j l. ap s (add-suc i j)) ∙ old i q x)
          ∙ zero_sum K (D x)

  module _ (X : ℕ → F) (E : ℕ → Bool) (e : ℕ) where
    pub product_of_no_locators : (s : ℕ → F) → s e ≡ 𝟙 → ((i : ℕ) → (i ≡ e → ⊥) → s i ≡ 𝟘) → ProductPolynomial In ◌⊕◌ ◌⊗◌ 𝟘 𝟙 X E 0 e s
    unfolding count times_distances
    product_of_no_locators s = monic_start e s

    pub product_with_marked_locator : (n : ℕ) (s s' : ℕ → F) → E n ≡ true → count E n < e → ProductPolynomial In ◌⊕◌ ◌⊗◌ 𝟘 𝟙 X E n e s
        → ModifiedUpTo ◌⊕◌ ◌⊗◌ e (X n) s s' → ProductPolynomial In ◌⊕◌ ◌⊗◌ 𝟘 𝟙 X E (suc n) e s'
    unfolding count indicator times_distances times_distance_if
    product_with_marked_locator n s s' q room m w =
        rw (q, add-one (count E n)) (modifying_multiplies e (count E n) (λ x. times_distances ◌⊕◌ ◌⊗◌ X E n x 𝟙) (X n) s s' room m w)

    -- each marked locator is a root
    pub product_has_marked_roots : (n : ℕ) (s : ℕ → F) → ProductPolynomial In ◌⊕◌ ◌⊗◌ 𝟘 𝟙 X E n e s → (b : ℕ) → b + count E n ≡ e
        → (j : ℕ) → j < n → E j ≡ true → value_of (suc (count E n)) (λ i. s (b + i)) (X j) ≡ 𝟘
    product_has_marked_roots n s m b q j l ej = m.values b q (X j) ∙ distances_at_marked_locator K X E n j 𝟙 l ej
