-- The corrected word is the codeword in reach where there is one, so the final check decides. Assumes nothing.
use mathlib.Core.Path.{◌≡◌, refl, sym, ap, ◌∙◌}
use mathlib.Core.Bool.{Bool, true, false}
use Prim.Native.Nat.{ℕ, suc, ◌+◌, ◌-◌, ◌/◌, ◌≤◌, ◌<◌}
use native.Mathlib.Nat.{le_trans}
use native.Mathlib.Omega.{arith}
use Rattle.field.specs.Laws.{Field}
use Rattle.reedsolomon.specs.Sums.{position, reversed}
use Rattle.reedsolomon.specs.Words.{Elements, Codeword, OrderAtLeast, count, InReach}
use Rattle.reedsolomon.specs.Quotient.{magnitude}
use Rattle.reedsolomon.specs.Decoding.{Correction}
use Rattle.reedsolomon.proofs.FieldFacts.{sum_twice}
use Rattle.reedsolomon.proofs.Counting.{true_is_not_false}
use Rattle.reedsolomon.proofs.Powers.{position_in, position_not_zero, positions_are_distinct}
use Rattle.reedsolomon.proofs.Syndromes.{syndrome_of_difference, codeword_of_equals}
use Rattle.reedsolomon.proofs.Reach.{reach_of_equals, reach_bounds_erasures, at_most_one_codeword_in_reach}
use Rattle.reedsolomon.proofs.Roots.{reversed_is_not_zero}
use Rattle.reedsolomon.proofs.Locator.{wrong_columns_in_reach_are_roots, locations_are_few}
use Rattle.reedsolomon.proofs.Quotient.{quotient_gives_magnitude}

module _ {F : Type 0} {In : F → Type 0} {◌⊕◌ ◌⊗◌ : F → F → F} {𝟘 𝟙 : F} {inv : F → F} (K : Field In ◌⊕◌ ◌⊗◌ 𝟘 𝟙 inv)
    (same : (a b : F) → Dec (a ≡ b))
    (α : F) (N T : ℕ) (ord : OrderAtLeast In ◌⊗◌ 𝟘 𝟙 N α) (E : ℕ → Bool) (w : ℕ → F) (hw : Elements In N w)
    (S M : ℕ → F) (d : ℕ) (p : ℕ → F) (U : ℕ → Bool) (k : ℕ) (g v : ℕ → F)
    (f : Correction In ◌⊕◌ ◌⊗◌ 𝟘 𝟙 inv α N T E w S M d p U k g v) where
  infixl 20 ◌⊕◌
  abbrev X : ℕ → F
  X = position ◌⊗◌ 𝟙 α N

  -- there are at most T error locations
  pub locations_are_at_most-T : count E N ≤ T → k ≤ T
  locations_are_at_most-T he =
      let n : count U N ≡ k = f.number in
      let short : d ≤ suc ((T - count E N) / 2) = f.locator_short in
      let few : count U N < count E N + d =
      locations_are_few K same N d (reversed d p) X E U (λ j l. f.locator_in (d - suc j) (omega arith)) (λ i u. position_in K α N i)
      (positions_are_distinct K N α ord)
      (reversed_is_not_zero K d p f.locator_not_zero) f.locations in
      omega arith

  -- a codeword in reach
  module _ (c : ℕ → F) (hc : Elements In N c) (code : Codeword ◌⊕◌ ◌⊗◌ 𝟘 𝟙 α N T c) (reach : InReach same E N T w c) where
    -- all columns in which it differs from w are error locations
    pub differences_are_locations : (j : ℕ) → j < N → U j ≡ false → w j ≡ c j
    differences_are_locations j l uj = decide (same (w j) (c j)) (E j) refl
      where
        decide : Dec (w j ≡ c j) → (b : Bool) → E j ≡ b → w j ≡ c j
        decide (yes e) b q = e
        decide (no e) true q = absurd (true_is_not_false (sym (f.erased_is_location j l q) ∙ uj))
        decide (no e) false q =
            absurd
            (true_is_not_false
            (sym (f.root_is_location j l
            (wrong_columns_in_reach_are_roots K same α N T ord E w c hw hc code S M f.syndromes f.left d p f.locator_in reach
            f.locator_short f.locator_meets j l q e))
            ∙ uj))

    -- the magnitude at an error location is what w differs by from it
    pub magnitude_is_difference : (l : ℕ) → l < N → U l ≡ true → magnitude ◌⊕◌ ◌⊗◌ 𝟘 inv k S g (X l) ≡ w l ⊕ c l
    magnitude_is_difference l h ul =
        quotient_gives_magnitude K same N X (λ i u. position_in K α N i) (λ i u. position_not_zero K N α ord i) (positions_are_distinct K N α ord)
        U k f.number g f.polynomial_in f.polynomial_monic f.polynomial_roots l h ul
        S (λ j. w j ⊕ c j) (λ j u. K.in_sum (w j) (c j) (hw j u) (hc j u))
        (λ j u q. ap (λ (t : F). t ⊕ c j) (differences_are_locations j u q) ∙ K.sum_self (c j))
        (λ i u. f.syndromes i (le_trans u few) ∙ syndrome_of_difference K α N T w c hw hc code i (le_trans u few))
      where
        few : k ≤ T
        few = locations_are_at_most-T (reach_bounds_erasures same E N T w c reach)

    -- the corrected word is that codeword
    pub corrected_word_is_codeword_in_reach : (j : ℕ) → j < N → v j ≡ c j
    corrected_word_is_codeword_in_reach j l = decide (U j) refl
      where
        decide : (b : Bool) → U j ≡ b → v j ≡ c j
        decide true q = f.corrected j l q ∙ ap (λ (t : F). w j ⊕ t) (magnitude_is_difference j l q) ∙ sum_twice K (w j) (c j)
        decide false q = f.kept j l q ∙ differences_are_locations j l q

    -- and so passes the check
    pub corrected_word_passes_check : Codeword ◌⊕◌ ◌⊗◌ 𝟘 𝟙 α N T v × InReach same E N T w v
    corrected_word_passes_check = (
      codeword_of_equals K α N T v c corrected_word_is_codeword_in_reach code,
      reach_of_equals same E N T w w c v (λ j l q. refl) (λ j l q. sym (corrected_word_is_codeword_in_reach j l)) reach,
    )

  -- where the check fails, no codeword is in reach
  pub failed_check_means_none_in_reach : (Codeword ◌⊕◌ ◌⊗◌ 𝟘 𝟙 α N T v × InReach same E N T w v → ⊥)
      → (c : ℕ → F) → Elements In N c → Codeword ◌⊕◌ ◌⊗◌ 𝟘 𝟙 α N T c → InReach same E N T w c → ⊥
  failed_check_means_none_in_reach failed c hc code reach = failed (corrected_word_passes_check c hc code reach)

  -- where it is passed, the corrected word is the only codeword in reach
  pub passed_check_means_only_one_in_reach : Elements In N v → Codeword ◌⊕◌ ◌⊗◌ 𝟘 𝟙 α N T v → InReach same E N T w v
      → (c : ℕ → F) → Elements In N c → Codeword ◌⊕◌ ◌⊗◌ 𝟘 𝟙 α N T c → InReach same E N T w c → (j : ℕ) → j < N → v j ≡ c j
  passed_check_means_only_one_in_reach hv cv rv c hc code reach =
      at_most_one_codeword_in_reach K same α N T ord E w v c hv hc cv code rv reach
