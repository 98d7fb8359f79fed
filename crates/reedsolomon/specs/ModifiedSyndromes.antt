-- Theory: modified syndromes, locators taken out of a sequence of power sums, one after the other. Assumes nothing.
use Rattle.std.specs.Prelude.{◌≡◌, Bool, true, false, ℕ, zero, suc, ◌+◌, ◌<◌}
use Rattle.reedsolomon.specs.Words.{count}

module _ {F : Type 0} (◌⊕◌ ◌⊗◌ : F → F → F) where
  infixl 20 ◌⊕◌
  infixl 30 ◌⊗◌
  -- The locator y is taken out of the sequence S. Each weight is so multiplied by the distance of its locator to y.
  unfoldable pub modify : F → (ℕ → F) → ℕ → F
  modify y S i = S (suc i) ⊕ y ⊗ S i

  unfoldable pub modified_if : Bool → F → (ℕ → F) → ℕ → F
  modified_if true y S = modify y S
  modified_if false y S = S

  -- the marked locators among the first n are taken out
  unfoldable pub modified_syndromes : (ℕ → F) → (ℕ → Bool) → ℕ → (ℕ → F) → ℕ → F
  modified_syndromes X E zero S = S
  modified_syndromes X E (suc n) S = modified_if (E n) (X n) (modified_syndromes X E n S)

  -- M holds what is left of t entries of S once the marked locators among the first n are taken out: one entry fewer for each
  abbrev pub Left : (ℕ → F) → (ℕ → Bool) → ℕ → ℕ → (ℕ → F) → (ℕ → F) → Type 0
  Left X E n t S M = (i : ℕ) → i + count E n < t → M i ≡ modified_syndromes X E n S i

  unfoldable pub times_distance_if : Bool → F → F → F → F
  times_distance_if true y x c = c ⊗ (x ⊕ y)
  times_distance_if false y x c = c

  -- c times the distances x + X m of x to the marked locators among the first n
  unfoldable pub times_distances : (ℕ → F) → (ℕ → Bool) → ℕ → F → F → F
  times_distances X E zero x c = c
  times_distances X E (suc n) x c = times_distance_if (E n) (X n) x (times_distances X E n x c)
