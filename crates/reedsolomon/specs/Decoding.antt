-- Theory: what a decoder works out from a received word, step by step. Assumes nothing.
use Rattle.std.specs.Prelude.{◌≡◌, Bool, true, false, ◌⊎◌, ℕ, suc, ◌+◌, ◌-◌, ◌/◌, ◌≤◌, ◌<◌}
use Rattle.reedsolomon.specs.Sums.{sum, value, position, reversed}
use Rattle.reedsolomon.specs.Words.{Elements, NonZero, syndrome, count}
use Rattle.reedsolomon.specs.ModifiedSyndromes.{Left}
use Rattle.reedsolomon.specs.Quotient.{magnitude}

module _ {F : Type 0} (In : F → Type 0) (◌⊕◌ ◌⊗◌ : F → F → F) (𝟘 𝟙 : F) (inv : F → F) (α : F) (N T : ℕ) (E : ℕ → Bool) (w : ℕ → F) where
  infixl 20 ◌⊕◌
  infixl 30 ◌⊗◌
  -- The received word w of N columns, the columns E erased: its syndromes S, and what is left of them once the erased columns are taken out, M;
  -- a locator p of d coefficients, the lowest first; the error locations U, k in number;
  -- their polynomial g, the highest coefficient first; and the corrected word v.
  pub record Correction (S M : ℕ → F) (d : ℕ) (p : ℕ → F) (U : ℕ → Bool) (k : ℕ) (g v : ℕ → F) : Type 0 where
    pub syndromes : (i : ℕ) → i < T → S i ≡ syndrome ◌⊕◌ ◌⊗◌ 𝟘 𝟙 α N w i
    pub left : Left ◌⊕◌ ◌⊗◌ (position ◌⊗◌ 𝟙 α N) E N T S M
    -- more coefficients than equations at most by one, not all of them 0, that meet (T - s) / 2 equations
    pub locator_in : Elements In d p
    pub locator_not_zero : NonZero 𝟘 d p
    pub locator_short : d ≤ suc ((T - count E N) / 2)
    pub locator_meets : (i : ℕ) → i < (T - count E N) / 2 → sum ◌⊕◌ 𝟘 d (λ j. p j ⊗ M (i + j)) ≡ 𝟘
    -- the error locations are the erased columns and the locator's roots
    pub locations : (j : ℕ) → j < N → U j ≡ true → (E j ≡ true) ⊎ (value ◌⊕◌ ◌⊗◌ 𝟘 d (reversed d p) (position ◌⊗◌ 𝟙 α N j) ≡ 𝟘)
    pub erased_is_location : (j : ℕ) → j < N → E j ≡ true → U j ≡ true
    pub root_is_location : (j : ℕ) → j < N → value ◌⊕◌ ◌⊗◌ 𝟘 d (reversed d p) (position ◌⊗◌ 𝟙 α N j) ≡ 𝟘 → U j ≡ true
    pub number : count U N ≡ k
    -- their polynomial has degree k and begins with 1
    pub polynomial_in : Elements In (suc k) g
    pub polynomial_monic : g 0 ≡ 𝟙
    pub polynomial_roots : (j : ℕ) → j < N → U j ≡ true → value ◌⊕◌ ◌⊗◌ 𝟘 (suc k) g (position ◌⊗◌ 𝟙 α N j) ≡ 𝟘
    -- each error location gets its magnitude, the other columns stay
    pub corrected : (j : ℕ) → j < N → U j ≡ true → v j ≡ w j ⊕ magnitude ◌⊕◌ ◌⊗◌ 𝟘 inv k S g (position ◌⊗◌ 𝟙 α N j)
    pub kept : (j : ℕ) → j < N → U j ≡ false → v j ≡ w j
