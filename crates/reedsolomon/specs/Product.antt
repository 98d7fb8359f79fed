-- Theory: a polynomial that is built in a sequence, one locator after the other, by the step that modifies syndromes. Assumes nothing.
use Rattle.std.specs.Prelude.{◌≡◌, Bool, ℕ, suc, ◌+◌, ◌≤◌, ◌<◌}
use Rattle.reedsolomon.specs.Sums.{value}
use Rattle.reedsolomon.specs.Words.{count}
use Rattle.reedsolomon.specs.ModifiedSyndromes.{times_distances}

module _ {F : Type 0} (In : F → Type 0) (◌⊕◌ ◌⊗◌ : F → F → F) (𝟘 𝟙 : F) where
  -- s holds the k + 1 coefficients of a polynomial, the highest, a 1, first and the lowest at the entry e, and 0 elsewhere; D gives its values.
  pub record Monic (e k : ℕ) (D : F → F) (s : ℕ → F) : Type 0 where
    pub inside : (i : ℕ) → In (s i)
    pub before : (i : ℕ) → i + k < e → s i ≡ 𝟘
    pub leading : (i : ℕ) → i + k ≡ e → s i ≡ 𝟙
    pub after : (i : ℕ) → e < i → s i ≡ 𝟘
    pub values : (i : ℕ) → i + k ≡ e → (x : F) → value ◌⊕◌ ◌⊗◌ 𝟘 (suc k) (λ j. s (i + j)) x ≡ D x

  -- the product of x + X m over the marked locators among the first n
  abbrev pub ProductPolynomial : (ℕ → F) → (ℕ → Bool) → ℕ → ℕ → (ℕ → F) → Type 0
  ProductPolynomial X E n e s = Monic e (count E n) (λ x. times_distances ◌⊕◌ ◌⊗◌ X E n x 𝟙) s

module _ {F : Type 0} (◌⊕◌ ◌⊗◌ : F → F → F) where
  infixl 20 ◌⊕◌
  infixl 30 ◌⊗◌
  -- s' is s with its entries up to e modified, the others as they were
  pub record ModifiedUpTo (e : ℕ) (y : F) (s s' : ℕ → F) : Type 0 where
    pub written : (i : ℕ) → i ≤ e → s' i ≡ s (suc i) ⊕ y ⊗ s i
    pub kept : (i : ℕ) → e < i → s' i ≡ s i
