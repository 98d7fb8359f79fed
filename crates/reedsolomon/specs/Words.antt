-- 01: "the codeword with 2·e + s ≤ T": codewords, erased columns, and the words in reach of a received word, over any field. Assumes nothing.
use Rattle.std.specs.Prelude.{◌≡◌, Bool, true, false, ℕ, zero, suc, ◌+◌, ◌*◌, ◌≤◌, ◌<◌}
use Rattle.reedsolomon.specs.Sums.{power, value}

-- A word is a function w : ℕ → F of which the first N symbols count.
module _ {F : Type 0} (◌⊕◌ ◌⊗◌ : F → F → F) (𝟘 𝟙 : F) where
  -- the value of w at α ^ (i + 1)
  unfoldable pub syndrome : F → ℕ → (ℕ → F) → ℕ → F
  syndrome α N w i = value ◌⊕◌ ◌⊗◌ 𝟘 N w (power ◌⊗◌ 𝟙 α (suc i))

  -- w has the value 0 at α ^ 1 .. α ^ T
  abbrev pub Codeword : F → ℕ → ℕ → (ℕ → F) → Type 0
  Codeword α N T w = (i : ℕ) → i < T → syndrome α N w i ≡ 𝟘

-- α is an element other than 0 of order N at least: none of α ^ 1 .. α ^ (N - 1) is 1. So the positions of N columns are distinct.
pub record OrderAtLeast {F : Type 0} (In : F → Type 0) (times : F → F → F) (none one : F) (N : ℕ) (α : F) : Type 0 where
  pub element : In α
  pub not_zero : α ≡ none → ⊥
  pub not_one : (k : ℕ) → 0 < k → k < N → power times one α k ≡ one → ⊥

-- the first n entries are elements of the field
abbrev pub Elements : {F : Type 0} → (F → Type 0) → ℕ → (ℕ → F) → Type 0
Elements In n w = (j : ℕ) → j < n → In (w j)

-- not all of the first k coefficients are 0
abbrev pub NonZero : {F : Type 0} → F → ℕ → (ℕ → F) → Type 0
NonZero none k p = ((j : ℕ) → j < k → p j ≡ none) → ⊥

-- the first n locators are distinct
abbrev pub Distinct : {F : Type 0} → ℕ → (ℕ → F) → Type 0
Distinct n X = (i j : ℕ) → i < n → j < n → X i ≡ X j → i ≡ j

-- 1 for true
unfoldable pub indicator : Bool → ℕ
indicator true = 1
indicator false = 0

-- how many of the first n are marked
unfoldable pub count : (ℕ → Bool) → ℕ → ℕ
count E zero = 0
count E (suc n) = count E n + indicator (E n)

-- 0 for two equal symbols, 1 for two others
unfoldable pub unequal : {A : Type 0} → Dec A → ℕ
unequal (yes p) = 0
unequal (no p) = 1

-- 1 for a column that is not erased and has two unequal symbols
unfoldable pub wrong : {A : Type 0} → Bool → Dec A → ℕ
wrong true d = 0
wrong false d = unequal d

module _ {F : Type 0} (same : (a b : F) → Dec (a ≡ b)) where
  -- how many of the first n of c are not z
  unfoldable pub nonzeros : F → ℕ → (ℕ → F) → ℕ
  nonzeros z zero c = 0
  nonzeros z (suc n) c = nonzeros z n c + unequal (same (c n) z)

  -- in how many of the first n columns that are not erased w and c differ
  unfoldable pub errors : (ℕ → Bool) → ℕ → (ℕ → F) → (ℕ → F) → ℕ
  errors E zero w c = 0
  errors E (suc n) w c = errors E n w c + wrong (E n) (same (w n) (c n))

  -- c is in reach of w with the columns E erased: twice the errors and the erased columns together are at most T
  unfoldable pub InReach : (ℕ → Bool) → ℕ → ℕ → (ℕ → F) → (ℕ → F) → Type 0
  InReach E N T w c = 2 * errors E N w c + count E N ≤ T
