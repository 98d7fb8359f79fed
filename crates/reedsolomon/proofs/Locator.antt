-- The wrong columns of a codeword in reach are erased or roots of the locator, and these error locations are few. Assumes nothing.
use mathlib.Core.Path.{◌≡◌, refl, sym, ap, ◌∙◌}
use mathlib.Core.Bool.{Bool, true, false}
use mathlib.Core.Logic.{◌⊎◌, ⊎_elim}
use Prim.Native.Nat.{ℕ, zero, suc, ◌+◌, ◌-◌, ◌/◌, ◌≤◌, ◌<◌}
use native.Mathlib.Nat.{le_refl, le_trans, le-suc, lt-suc_self}
use native.Mathlib.Omega.{arith}
use Rattle.field.specs.Laws.{Field}
use Rattle.reedsolomon.specs.Sums.{sum, value, power_sum, position, reversed}
use Rattle.reedsolomon.specs.Words.{Elements, NonZero, syndrome, Codeword, OrderAtLeast, Distinct, indicator, count, unequal, wrong, nonzeros, errors, InReach}
use Rattle.reedsolomon.specs.ModifiedSyndromes.{Left, times_distances}
use Rattle.reedsolomon.proofs.FieldFacts.{zero_mul, sum_cancel, no_divisor}
use Rattle.reedsolomon.proofs.Sums.{sum_of_equals}
use Rattle.reedsolomon.proofs.Counting.{true_is_not_false, unequal_at_most_one, unequal_of_equal, indicator_at_most_one, nonzeros_fewer}
use Rattle.reedsolomon.proofs.Polynomials.{value_in}
use Rattle.reedsolomon.proofs.Powers.{position_in, position_not_zero, positions_are_distinct}
use Rattle.reedsolomon.proofs.PowerSums.{combined_power_sums_upwards}
use Rattle.reedsolomon.proofs.Deletion.{zero_power_sums_leave_no_weights}
use Rattle.reedsolomon.proofs.Roots.{polynomial_has_few_roots}
use Rattle.reedsolomon.proofs.ModifiedSyndromes.{modified_sums_have_modified_weights, distances_of_zero, distances_at_marked_locator, distances_in, distances_to_other_locators}
use Rattle.reedsolomon.proofs.Syndromes.{syndrome_of_difference}

module _ {F : Type 0} {In : F → Type 0} {◌⊕◌ ◌⊗◌ : F → F → F} {𝟘 𝟙 : F} {inv : F → F} (K : Field In ◌⊕◌ ◌⊗◌ 𝟘 𝟙 inv)
    (same : (a b : F) → Dec (a ≡ b)) where
  infixl 20 ◌⊕◌
  infixl 30 ◌⊗◌
  open K use {sum_self, mul_comm, in_sum, in_mul}

  abbrev value_of : ℕ → (ℕ → F) → F → F
  value_of k p x = value ◌⊕◌ ◌⊗◌ 𝟘 k p x

  -- Where at most k weights are not 0, and the polynomial p of d coefficients, the lowest first,
  -- combines the power sums from each of the first k on to 0, every locator with a weight is a root of p.
  pub locators_with_weight_are_roots : (n k d : ℕ) (c X p : ℕ → F) → Elements In n X → Distinct n X → nonzeros same 𝟘 n c ≤ k
      → ((i : ℕ) → i < k → sum ◌⊕◌ 𝟘 d (λ j. p j ⊗ power_sum ◌⊕◌ ◌⊗◌ 𝟘 𝟙 n c X (i + j)) ≡ 𝟘)
      → (j : ℕ) → j < n → c j ⊗ value_of d (reversed d p) (X j) ≡ 𝟘
  locators_with_weight_are_roots n k d c X p hx hd hk h =
      zero_power_sums_leave_no_weights K same n k (λ j. c j ⊗ value_of d (reversed d p) (X j)) X
      (λ j u. in_mul (c j) (value_of d (reversed d p) (X j))) hx hd
      (le_trans (nonzeros_fewer same 𝟘 n c (λ j. c j ⊗ value_of d (reversed d p) (X j))
      (λ j u e. ap (λ (t : F). t ⊗ value_of d (reversed d p) (X j)) e ∙ zero_mul K (value_of d (reversed d p) (X j)))) hk)
      (λ i l. combined_power_sums_upwards K n c X d p i ∙ h i l)

  -- weights that are 0 at erased columns and where two words agree are no more than the errors
  weights_are_errors : (E : ℕ → Bool) (w c v : ℕ → F) (n : ℕ) → ((j : ℕ) → j < n → E j ≡ true → v j ≡ 𝟘)
      → ((j : ℕ) → j < n → w j ≡ c j → v j ≡ 𝟘) → nonzeros same 𝟘 n v ≤ errors same E n w c
  unfolding nonzeros errors
  weights_are_errors E w c v zero he hw = le_refl 0
  weights_are_errors E w c v (suc n) he hw =
      let h : nonzeros same 𝟘 n v ≤ errors same E n w c = weights_are_errors E w c v n (λ j l. he j (le_trans l (le-suc n)))
      (λ j l. hw j (le_trans l (le-suc n))) in
      let g : unequal (same (v n) 𝟘) ≤ wrong (E n) (same (w n) (c n)) = one_column (E n) (same (v n) 𝟘) (same (w n) (c n))
      (he n (lt-suc_self n)) (hw n (lt-suc_self n)) in
      omega arith
    where
      one_column : (e : Bool) {A B : Type 0} (a : Dec A) (b : Dec B) → (e ≡ true → A) → (B → A) → unequal a ≤ wrong e b
      one_column true a b he hw = unfold wrong in omega (arith, unequal_of_equal a (he refl))
      one_column false a (yes b) he hw = unfold wrong unequal in omega (arith, unequal_of_equal a (hw b))
      one_column false a (no b) he hw = unfold wrong unequal in omega (arith, unequal_at_most_one a)

  -- α, N columns at their positions X, T roots; the erased columns E; a received word w with its syndromes S, and the sequence M that is left of them
  -- once the erased columns are taken out; a codeword c
  module _ (α : F) (N T : ℕ) (ord : OrderAtLeast In ◌⊗◌ 𝟘 𝟙 N α) (E : ℕ → Bool) (w c : ℕ → F) (hw : Elements In N w) (hc : Elements In N c)
      (code : Codeword ◌⊕◌ ◌⊗◌ 𝟘 𝟙 α N T c) (S M : ℕ → F) (h_s : (i : ℕ) → i < T → S i ≡ syndrome ◌⊕◌ ◌⊗◌ 𝟘 𝟙 α N w i)
      (h_m : Left ◌⊕◌ ◌⊗◌ (position ◌⊗◌ 𝟙 α N) E N T S M) where
    abbrev X : ℕ → F
    X = position ◌⊗◌ 𝟙 α N

    abbrev difference : ℕ → F
    difference j = (w j ⊕ c j) ⊗ X j

    -- the weight that is left at column j
    abbrev left : ℕ → F
    left j = times_distances ◌⊕◌ ◌⊗◌ X E N (X j) (difference j)

    -- T - s power sums are left
    pub modified_syndromes_are_power_sums : (i : ℕ) → i + count E N < T → M i ≡ power_sum ◌⊕◌ ◌⊗◌ 𝟘 𝟙 N left X i
    modified_syndromes_are_power_sums i l =
        h_m i l ∙ modified_sums_have_modified_weights K X E N N S difference T
        (λ i u. h_s i u ∙ syndrome_of_difference K α N T w c hw hc code i u) i l

    -- their weights are 0 at erased columns
    pub no_weight_at_erased_column : (j : ℕ) → j < N → E j ≡ true → left j ≡ 𝟘
    no_weight_at_erased_column j l e = distances_at_marked_locator K X E N j (difference j) l e

    -- and where the words agree
    pub no_weight_at_right_column : (j : ℕ) → j < N → w j ≡ c j → left j ≡ 𝟘
    no_weight_at_right_column j l e =
        ap (times_distances ◌⊕◌ ◌⊗◌ X E N (X j)) (ap (λ (t : F). (t ⊕ c j) ⊗ X j) e ∙ ap (λ (t : F). t ⊗ X j) (sum_self (c j)) ∙ zero_mul K (X j))
        ∙ distances_of_zero K X E N (X j)

    -- but not at the others
    pub weight_at_wrong_column : (j : ℕ) → j < N → E j ≡ false → (w j ≡ c j → ⊥) → left j ≡ 𝟘 → ⊥
    weight_at_wrong_column j l ej ne z =
        ne (sum_cancel K (w j) (c j)
        (no_divisor K (w j ⊕ c j) (X j) (in_sum (w j) (c j) (hw j l) (hc j l)) (position_in K α N j) (position_not_zero K N α ord j)
        (distances_to_other_locators K X E N (X j) (difference j) (in_mul (w j ⊕ c j) (X j)) (position_in K α N j) (λ i u. position_in K α N i)
        (λ q u m e. true_is_not_false (sym m ∙ ap E (sym (positions_are_distinct K N α ord j q l u e)) ∙ ej)) z)))

    -- A polynomial p of d coefficients, the lowest first, that combines M from each of the first k on to 0,
    -- where at most k columns are wrong, has each of them for a root.
    pub wrong_columns_are_roots : (k d : ℕ) (p : ℕ → F) → Elements In d p → errors same E N w c ≤ k → k + d + count E N ≤ suc T
        → ((i : ℕ) → i < k → sum ◌⊕◌ 𝟘 d (λ j. p j ⊗ M (i + j)) ≡ 𝟘)
        → (j : ℕ) → j < N → E j ≡ false → (w j ≡ c j → ⊥) → value_of d (reversed d p) (X j) ≡ 𝟘
    wrong_columns_are_roots k d p hp hk room h j l ej ne =
        no_divisor K (value_of d (reversed d p) (X j)) (left j) (value_in K d (reversed d p) (X j) (λ i u. hp (d - suc i) (omega arith)))
        (distances_in K X E N (X j) (difference j) (in_mul (w j ⊕ c j) (X j)))
        (weight_at_wrong_column j l ej ne)
        (mul_comm (value_of d (reversed d p) (X j)) (left j)
        ∙ locators_with_weight_are_roots N k d left X p (λ i u. position_in K α N i) (positions_are_distinct K N α ord)
        (le_trans (weights_are_errors E w c left N no_weight_at_erased_column no_weight_at_right_column) hk)
        (λ i u. sym (sum_of_equals K d (λ t. p t ⊗ M (i + t)) (λ t. p t ⊗ power_sum ◌⊕◌ ◌⊗◌ 𝟘 𝟙 N left X (i + t))
        (λ t y. ap (λ (x : F). p t ⊗ x) (modified_syndromes_are_power_sums (i + t) (omega arith)))) ∙ h i u)
        j l)

    -- The case of a codeword in reach, and (T - s) / 2 equations for one coefficient more at most.
    pub wrong_columns_in_reach_are_roots : (d : ℕ) (p : ℕ → F) → Elements In d p → InReach same E N T w c → d ≤ suc ((T - count E N) / 2)
        → ((i : ℕ) → i < (T - count E N) / 2 → sum ◌⊕◌ 𝟘 d (λ j. p j ⊗ M (i + j)) ≡ 𝟘)
        → (j : ℕ) → j < N → E j ≡ false → (w j ≡ c j → ⊥) → value_of d (reversed d p) (X j) ≡ 𝟘
    unfolding InReach
    wrong_columns_in_reach_are_roots d p hp r hd h = wrong_columns_are_roots ((T - count E N) / 2) d p hp (omega arith) (omega arith) h

  locations_and_others : (E U : ℕ → Bool) (f : ℕ → F) (n : ℕ) → ((j : ℕ) → j < n → U j ≡ true → (E j ≡ true) ⊎ (f j ≡ 𝟘))
      → count U n + nonzeros same 𝟘 n f ≤ count E n + n
  unfolding count nonzeros indicator
  locations_and_others E U f zero h = le_refl 0
  locations_and_others E U f (suc n) h =
      let a : count U n + nonzeros same 𝟘 n f ≤ count E n + n = locations_and_others E U f n (λ j l. h j (le_trans l (le-suc n))) in
      let b : indicator (U n) + unequal (same (f n) 𝟘) ≤ indicator (E n) + 1 = one_column (U n) (E n) (same (f n) 𝟘)
      (h n (lt-suc_self n)) in
      omega arith
    where
      one_column : (u e : Bool) {A : Type 0} (d : Dec A) → (u ≡ true → (e ≡ true) ⊎ A) → indicator u + unequal d ≤ indicator e + 1
      one_column u true d h = omega (arith, unequal_at_most_one d, indicator_at_most_one u)
      one_column false false d h = omega (arith, unequal_at_most_one d)
      one_column true false d h = ⊎_elim (λ q. absurd (true_is_not_false (sym q))) (λ q. omega (arith, unequal_of_equal d q)) (h refl)

  -- erased columns and roots of a polynomial of d coefficients that are not all 0 are fewer than the erased columns and d together
  pub locations_are_few : (n d : ℕ) (p X : ℕ → F) (E U : ℕ → Bool) → Elements In d p → Elements In n X → Distinct n X → NonZero 𝟘 d p
      → ((j : ℕ) → j < n → U j ≡ true → (E j ≡ true) ⊎ (value_of d p (X j) ≡ 𝟘)) → count U n < count E n + d
  locations_are_few n d p X E U hp hx hd nz h =
      let a : n < nonzeros same 𝟘 n (λ l. value_of d p (X l)) + d = polynomial_has_few_roots K same n d p X hp hx hd nz in
      let b : count U n + nonzeros same 𝟘 n (λ l. value_of d p (X l)) ≤ count E n + n = locations_and_others E U
      (λ l. value_of d p (X l)) n h in
      omega arith
