-- For the code's contracts: a heap that holds what a list in the order holds. Assumes nothing.
use Rattle.std.specs.Prelude.{ℕ, ◌+◌, List, [], ◌∷◌, ◌≡◌}
use Rattle.heap.specs.Heap.{weigh, Heap}

module _ {A : Type 0} where
  unfoldable pub weigh_list : (A → ℕ) → List A → ℕ
  weigh_list h [] = 0
  weigh_list h (x ∷ xs) = h x + weigh_list h xs

module _ {A : Type 0} (R : A → A → Type 0) where
  abbrev pub AllAfter : A → List A → Type 0
  AllAfter x [] = Unit {0}
  AllAfter x (y ∷ ys) = R x y × AllAfter x ys

  abbrev pub Ordered : List A → Type 0
  Ordered [] = Unit {0}
  Ordered (x ∷ xs) = AllAfter x xs × Ordered xs

  -- the heap of the first n holds the list
  pub record Holds (f : ℕ → A) (n : ℕ) (xs : List A) : Type 0 where
    pub heap : Heap R f n
    pub equal : (h : A → ℕ) → weigh h f n ≡ weigh_list h xs
    pub ordered : Ordered xs
