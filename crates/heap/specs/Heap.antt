-- For the code's contracts: a heap of four children a place; the parent of place j is (j - 1) / 4. Assumes nothing.
use Rattle.std.specs.Prelude.{ℕ, zero, suc, ◌+◌, ◌-◌, ◌/◌, ◌<◌, ◌≡◌}

module _ {A : Type 0} where
  -- the weights of the first n, summed: two rows with the same sum for every weight hold the same elements
  unfoldable pub weigh : (A → ℕ) → (ℕ → A) → ℕ → ℕ
  weigh h f zero = 0
  weigh h f (suc n) = h (f n) + weigh h f n

  -- g is f with x at i
  pub record Put (f g : ℕ → A) (i : ℕ) (x : A) : Type 0 where
    pub here : g i ≡ x
    pub there : (k : ℕ) → (k ≡ i → ⊥) → g k ≡ f k

  -- each of the first n has a property
  abbrev pub Every : (A → Type 0) → (ℕ → A) → ℕ → Type 0
  Every P f n = (j : ℕ) → j < n → P (f j)

-- no place stands before the one above it
pub record Heap {A : Type 0} (R : A → A → Type 0) (f : ℕ → A) (n : ℕ) : Type 0 where
  pub order : (j : ℕ) → 0 < j → j < n → R (f ((j - 1) / 4)) (f j)
