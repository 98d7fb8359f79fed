-- Few weights at distinct locators whose first power sums are 0 are 0 themselves: one locator after the other is taken out. Assumes nothing.
use mathlib.Core.Path.{◌≡◌, refl, sym, ap, ap₂, ◌∙◌, subst}
use mathlib.Core.Logic.{⊎_elim}
use Prim.Native.Nat.{ℕ, zero, suc, ◌+◌, ◌≤◌, ◌<◌}
use native.Mathlib.Nat.{not-suc-le-zero, le_of_suc-le-suc, le_trans, le-suc, eq-or-lt_of_le, zero-lt-suc, lt_irrefl, lt-suc_self, suc_inj, suc-le-suc_iff}
use native.Mathlib.Omega.{arith}
use Rattle.field.specs.Laws.{Field}
use Rattle.reedsolomon.specs.Sums.{sum, power, power_sum}
use Rattle.reedsolomon.specs.Words.{Elements, Distinct, unequal, nonzeros}
use Rattle.reedsolomon.proofs.FieldFacts.{zero_sum, mul_zero, zero_mul}
use Rattle.reedsolomon.proofs.Sums.{sum_of_zeros}
use Rattle.reedsolomon.proofs.Counting.{nonzeros_fewer}
use Rattle.reedsolomon.proofs.PowerSums.{modified_power_sum, no_weight_at_modified_locator, weight_at_other_locator}

module _ {F : Type 0} {In : F → Type 0} {◌⊕◌ ◌⊗◌ : F → F → F} {𝟘 𝟙 : F} {inv : F → F} (K : Field In ◌⊕◌ ◌⊗◌ 𝟘 𝟙 inv)
    (same : (a b : F) → Dec (a ≡ b)) where
  infixl 20 ◌⊕◌
  infixl 30 ◌⊗◌
  open K use {sum_zero, mul_assoc, mul_one, in_mul}

  abbrev ◌^^◌ : F → ℕ → F
  a ^^ n = power ◌⊗◌ 𝟙 a n

  infixr 40 ◌^^◌
  abbrev power_sum_of : ℕ → (ℕ → F) → (ℕ → F) → ℕ → F
  power_sum_of n c X i = power_sum ◌⊕◌ ◌⊗◌ 𝟘 𝟙 n c X i

  -- for n locators: at most k weights that are not 0, and k power sums that are, leave no weight
  abbrev NoWeights : ℕ → Type 0
  NoWeights n =
      (k : ℕ) (c X : ℕ → F) → Elements In n c → Elements In n X → Distinct n X → nonzeros same 𝟘 n c ≤ k
      → ((i : ℕ) → i < k → power_sum_of n c X i ≡ 𝟘) → (j : ℕ) → j < n → c j ≡ 𝟘

  below : (n i : ℕ) → i < n → i < suc n
  below n i l = le_trans l (le-suc n)

  up_to : (n : ℕ) (P : ℕ → Type 0) → P n → ((j : ℕ) → j < n → P j) → (j : ℕ) → j < suc n → P j
  up_to n P z hz j l = ⊎_elim (λ e. subst P (sym (suc_inj e)) z) (λ q. hz j (le_of_suc-le-suc q)) (eq-or-lt_of_le l)

  module _ (n : ℕ) (ih : NoWeights n) (c X : ℕ → F) (hc : Elements In (suc n) c) (hx : Elements In (suc n) X) (hd : Distinct (suc n) X) where
    distinct : Distinct n X
    distinct i j p q = hd i j (below n i p) (below n j q)

    -- the last weight is 0
    last_is_zero : (k : ℕ) → c n ≡ 𝟘 → nonzeros same 𝟘 n c ≤ k → ((i : ℕ) → i < k → power_sum_of (suc n) c X i ≡ 𝟘) → (j : ℕ) → j < n → c j ≡ 𝟘
    unfolding sum
    last_is_zero k z hk h =
        ih k c X (λ j l. hc j (below n j l)) (λ j l. hx j (below n j l)) distinct hk
        (λ i l. sym (sum_zero (power_sum_of n c X i)) ∙ ap (λ (t : F). power_sum_of n c X i ⊕ t)
        (sym (zero_mul K (X n ^^ i)) ∙ ap (λ (t : F). t ⊗ X n ^^ i) (sym z)) ∙ h i l)

    -- it is not: it is taken out
    last_is_modified : (k : ℕ) → nonzeros same 𝟘 n c ≤ k → ((i : ℕ) → i < suc k → power_sum_of (suc n) c X i ≡ 𝟘) → (j : ℕ) → j < n → c j ≡ 𝟘
    unfolding sum
    last_is_modified k hk h j l =
        weight_at_other_locator K (c j) (X j) (X n) (hc j (below n j l)) (hx j (below n j l)) (hx n (lt-suc_self n))
        (λ e. lt_irrefl n (subst (λ (t : ℕ). t < n) (hd j n (below n j l) (lt-suc_self n) e) l))
        (ih k d X (λ i u. in_mul (c i) (X i ⊕ X n)) (λ j l. hx j (below n j l)) distinct
        (le_trans (nonzeros_fewer same 𝟘 n c d (λ i u e. ap (λ (t : F). t ⊗ (X i ⊕ X n)) e ∙ zero_mul K (X i ⊕ X n))) hk)
        (λ i q.
        sym (sum_zero (power_sum_of n d X i))
        ∙ ap (λ (t : F). power_sum_of n d X i ⊕ t)
        (sym (ap (λ (t : F). t ⊗ X n ^^ i) (no_weight_at_modified_locator K (c n) (X n) (X n) refl) ∙ zero_mul K (X n ^^ i)))
        ∙ modified_power_sum K (suc n) c X (X n) i
        ∙ ap₂ (λ (s t : F). s ⊕ X n ⊗ t) (h (suc i) (suc-le-suc_iff.1 q)) (h i (below k i q))
        ∙ zero_sum K (X n ⊗ 𝟘) ∙ mul_zero K (X n))
        j l)
      where
        d : ℕ → F
        d j = c j ⊗ (X j ⊕ X n)

    -- all but the last are 0, and so is the sum
    last_alone : ((j : ℕ) → j < n → c j ≡ 𝟘) → power_sum_of (suc n) c X 0 ≡ 𝟘 → c n ≡ 𝟘
    unfolding sum power
    last_alone hz e =
        sym (mul_one (c n) (hc n (lt-suc_self n))) ∙ sym (zero_sum K (c n ⊗ 𝟙))
        ∙ ap (λ (t : F). t ⊕ c n ⊗ 𝟙) (sym (sum_of_zeros K n (λ j. c j ⊗ X j ^^ 0) (λ j l. ap (λ (t : F). t ⊗ X j ^^ 0) (hz j l) ∙ zero_mul K (X j ^^ 0)))) ∙ e

  one_locator_more : (n : ℕ) → NoWeights n → NoWeights (suc n)
  unfolding nonzeros unequal
  one_locator_more n ih k c X hc hx hd hk h = last (same (c n) 𝟘) k hk h
    where
      last : (d : Dec (c n ≡ 𝟘)) (k : ℕ) → nonzeros same 𝟘 n c + unequal d ≤ k → ((i : ℕ) → i < k → power_sum_of (suc n) c X i ≡ 𝟘) → (j : ℕ)
          → j < suc n → c j ≡ 𝟘
      last (yes z) k hk h = up_to n (λ j. c j ≡ 𝟘) z (last_is_zero n ih c X hc hx hd k z (omega arith) h)
      last (no z) zero hk h = absurd (omega arith)
      last (no z) (suc k) hk h =
          let f : (j : ℕ) → j < n → c j ≡ 𝟘 = last_is_modified n ih c X hc hx hd k (omega arith) h in
          up_to n (λ j. c j ≡ 𝟘) (last_alone n ih c X hc hx hd f (h 0 (zero-lt-suc k))) f

  no_weights : (n : ℕ) → NoWeights n
  no_weights zero = λ k c X hc hx hd hk h j l. absurd (not-suc-le-zero l)
  no_weights (suc n) = one_locator_more n (no_weights n)

  -- The deletion fact: weights at n distinct locators, at most k of them not 0, whose first k power sums are 0, are all 0.
  pub zero_power_sums_leave_no_weights : (n k : ℕ) (c X : ℕ → F) → Elements In n c → Elements In n X → Distinct n X → nonzeros same 𝟘 n c ≤ k
      → ((i : ℕ) → i < k → power_sum_of n c X i ≡ 𝟘) → (j : ℕ) → j < n → c j ≡ 𝟘
  zero_power_sums_leave_no_weights n = no_weights n
