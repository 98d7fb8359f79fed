-- For the code's contracts: an element on its way through a heap; one place is free for it. Assumes nothing.
use Rattle.std.specs.Prelude.{ℕ, suc, ◌+◌, ◌-◌, ◌/◌, ◌≤◌, ◌<◌, ◌≡◌}
use Rattle.heap.specs.Heap.{weigh}

module _ {A : Type 0} (R : A → A → Type 0) where
  -- x on its way up: the place i of the n + 1 is free for it
  pub record Rising (f₀ f : ℕ → A) (x : A) (i n : ℕ) : Type 0 where
    pub within : i ≤ n
    pub weight : (h : A → ℕ) → weigh h f (suc n) ≡ weigh h f₀ n + h (f i)
    pub order : (j : ℕ) → 0 < j → j ≤ n → (j ≡ i → ⊥) → ((j - 1) / 4 ≡ i → ⊥) → R (f ((j - 1) / 4)) (f j)
    pub under : (j : ℕ) → 0 < j → j ≤ n → (j - 1) / 4 ≡ i → R x (f j)
    pub above : (j : ℕ) → 0 < j → j ≤ n → (j - 1) / 4 ≡ i → 0 < i → R (f ((i - 1) / 4)) (f j)

  -- x on its way down: the place i of the n is free for it, the first of f₀ is gone
  pub record Sinking (f₀ f : ℕ → A) (x : A) (i n : ℕ) : Type 0 where
    pub within : i < n
    pub weight : (h : A → ℕ) → weigh h f n + h (f₀ 0) ≡ weigh h f₀ n + h (f i)
    pub order : (j : ℕ) → 0 < j → j < n → (j ≡ i → ⊥) → ((j - 1) / 4 ≡ i → ⊥) → R (f ((j - 1) / 4)) (f j)
    pub over : 0 < i → R (f ((i - 1) / 4)) x
    pub above : (j : ℕ) → 0 < j → j < n → (j - 1) / 4 ≡ i → 0 < i → R (f ((i - 1) / 4)) (f j)
