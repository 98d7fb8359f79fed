-- At most one codeword is in reach of a word, and erased symbols have no say in it. Assumes nothing.
use mathlib.Core.Path.{◌≡◌, refl, sym, ap, ap₂, ◌∙◌}
use mathlib.Core.Bool.{Bool, true, false}
use mathlib.Core.Logic.{◌↔◌}
use Prim.Native.Nat.{ℕ, zero, suc, ◌+◌, ◌≤◌, ◌<◌}
use native.Mathlib.Nat.{le_refl, le_trans, le-suc, lt-suc_self}
use native.Mathlib.Omega.{arith}
use Rattle.field.specs.Laws.{Field}
use Rattle.reedsolomon.specs.Sums.{position}
use Rattle.reedsolomon.specs.Words.{Elements, Codeword, OrderAtLeast, indicator, count, unequal, wrong, nonzeros, errors, InReach}
use Rattle.reedsolomon.proofs.FieldFacts.{zero_mul, sum_cancel, no_divisor}
use Rattle.reedsolomon.proofs.Counting.{unequal_at_most_one, unequal_of_equal}
use Rattle.reedsolomon.proofs.Powers.{position_in, position_not_zero, positions_are_distinct}
use Rattle.reedsolomon.proofs.Deletion.{zero_power_sums_leave_no_weights}
use Rattle.reedsolomon.proofs.Syndromes.{syndrome_of_difference}

module _ {F : Type 0} (same : (a b : F) → Dec (a ≡ b)) (E : ℕ → Bool) where
  -- the errors depend only on the columns that are not erased
  pub errors_of_equals : (n : ℕ) (w v c d : ℕ → F) → ((j : ℕ) → j < n → E j ≡ false → w j ≡ v j)
      → ((j : ℕ) → j < n → E j ≡ false → c j ≡ d j) → errors same E n w c ≡ errors same E n v d
  unfolding errors
  errors_of_equals zero w v c d hw hc = refl
  errors_of_equals (suc n) w v c d hw hc =
      ap₂ ◌+◌ (errors_of_equals n w v c d (λ j l. hw j (le_trans l (le-suc n))) (λ j l. hc j (le_trans l (le-suc n))))
      (one_column (E n) (hw n (lt-suc_self n)) (hc n (lt-suc_self n)))
    where
      one_column : (b : Bool) → (b ≡ false → w n ≡ v n) → (b ≡ false → c n ≡ d n) → wrong b (same (w n) (c n)) ≡ wrong b (same (v n) (d n))
      one_column true hw hc = unfold wrong in refl
      one_column false hw hc = ap₂ (λ (x y : F). wrong false (same x y)) (hw refl) (hc refl)

  pub reach_of_equals : (N T : ℕ) (w v c d : ℕ → F) → ((j : ℕ) → j < N → E j ≡ false → w j ≡ v j)
      → ((j : ℕ) → j < N → E j ≡ false → c j ≡ d j)
      → InReach same E N T w c → InReach same E N T v d
  unfolding InReach
  reach_of_equals N T w v c d hw hc r = rw (← errors_of_equals N w v c d hw hc) r

  -- nothing is in reach where more than T columns are erased
  pub reach_bounds_erasures : (N T : ℕ) (w c : ℕ → F) → InReach same E N T w c → count E N ≤ T
  unfolding InReach
  reach_bounds_erasures N T w c r = omega arith

  -- what an erased column holds has no influence on what is in reach
  pub erased_symbols_have_no_influence : (N T : ℕ) (w v c : ℕ → F) → ((j : ℕ) → j < N → E j ≡ false → w j ≡ v j)
      → InReach same E N T w c ↔ InReach same E N T v c
  erased_symbols_have_no_influence N T w v c h =
      (reach_of_equals N T w v c c h (λ j l q. refl), reach_of_equals N T v w c c (λ j l q. sym (h j l q)) (λ j l q. refl))

module _ {F : Type 0} {In : F → Type 0} {◌⊕◌ ◌⊗◌ : F → F → F} {𝟘 𝟙 : F} {inv : F → F} (K : Field In ◌⊕◌ ◌⊗◌ 𝟘 𝟙 inv)
    (same : (a b : F) → Dec (a ≡ b)) where
  infixl 20 ◌⊕◌
  infixl 30 ◌⊗◌
  open K use {sum_self, in_sum, in_mul}

  -- two words differ at erased columns, and where one of them differs from w
  pub differences_are_errors : (X : ℕ → F) (E : ℕ → Bool) (w a b : ℕ → F) (n : ℕ)
      → nonzeros same 𝟘 n (λ j. (a j ⊕ b j) ⊗ X j) ≤ count E n + errors same E n w a + errors same E n w b
  unfolding count nonzeros errors
  differences_are_errors X E w a b zero = le_refl 0
  differences_are_errors X E w a b (suc n) =
      let before = differences_are_errors X E w a b n in
      let here = one_column (E n) (same ((a n ⊕ b n) ⊗ X n) 𝟘) (same (w n) (a n)) (same (w n) (b n)) alike in
      omega arith
    where
      alike : w n ≡ a n → w n ≡ b n → (a n ⊕ b n) ⊗ X n ≡ 𝟘
      alike p q = ap₂ (λ (x y : F). (x ⊕ y) ⊗ X n) (sym p) (sym q) ∙ ap (λ (t : F). t ⊗ X n) (sum_self (w n)) ∙ zero_mul K (X n)

      one_column : (e : Bool) {A B C : Type 0} (c : Dec C) (x : Dec A) (y : Dec B) → (A → B → C)
          → unequal c ≤ indicator e + wrong e x + wrong e y
      one_column true c x y h = unfold indicator wrong in omega (arith, unequal_at_most_one c)
      one_column false c (yes x) (yes y) h = unfold indicator wrong in omega (arith, unequal_of_equal c (h x y))
      one_column false c (yes x) (no y) h = unfold indicator wrong unequal in omega (arith, unequal_at_most_one c)
      one_column false c (no x) y h = unfold indicator wrong unequal in omega (arith, unequal_at_most_one c)

  -- two codewords whose difference has at most T symbols other than 0 are the same
  pub close_codewords_are_equal : (α : F) (N T : ℕ) → OrderAtLeast In ◌⊗◌ 𝟘 𝟙 N α → (a b : ℕ → F) → Elements In N a → Elements In N b
      → Codeword ◌⊕◌ ◌⊗◌ 𝟘 𝟙 α N T a → Codeword ◌⊕◌ ◌⊗◌ 𝟘 𝟙 α N T b → nonzeros same 𝟘 N (λ j. (a j ⊕ b j) ⊗ position ◌⊗◌ 𝟙 α N j) ≤ T
      → (j : ℕ) → j < N → a j ≡ b j
  close_codewords_are_equal α N T ord a b ha hb ca cb h j l =
      sum_cancel K (a j) (b j)
      (no_divisor K (a j ⊕ b j) (position ◌⊗◌ 𝟙 α N j) (in_sum (a j) (b j) (ha j l) (hb j l)) (position_in K α N j)
      (position_not_zero K N α ord j)
      (zero_power_sums_leave_no_weights K same N T (λ j. (a j ⊕ b j) ⊗ position ◌⊗◌ 𝟙 α N j) (position ◌⊗◌ 𝟙 α N)
      (λ j u. in_mul (a j ⊕ b j) (position ◌⊗◌ 𝟙 α N j)) (λ j u. position_in K α N j)
      (positions_are_distinct K N α ord) h (λ i u. sym (syndrome_of_difference K α N T a b ha hb cb i u) ∙ ca i u) j l))

  -- two codewords in reach of one word with the same columns erased are the same
  pub at_most_one_codeword_in_reach : (α : F) (N T : ℕ) → OrderAtLeast In ◌⊗◌ 𝟘 𝟙 N α → (E : ℕ → Bool) (w a b : ℕ → F) → Elements In N a
      → Elements In N b
      → Codeword ◌⊕◌ ◌⊗◌ 𝟘 𝟙 α N T a → Codeword ◌⊕◌ ◌⊗◌ 𝟘 𝟙 α N T b → InReach same E N T w a → InReach same E N T w b
      → (j : ℕ) → j < N → a j ≡ b j
  unfolding InReach
  at_most_one_codeword_in_reach α N T ord E w a b ha hb ca cb ra rb =
      close_codewords_are_equal α N T ord a b ha hb ca cb (omega (arith, differences_are_errors (position ◌⊗◌ 𝟙 α N) E w a b N))
