-- Theory: encoding divides the data by the generator, and the remainder follows them. Assumes nothing.
use Rattle.std.specs.Prelude.{◌≡◌, ℕ, suc, ◌≤◌, ◌<◌}
use Rattle.reedsolomon.specs.Sums.{power, value}

module _ {F : Type 0} (◌⊕◌ ◌⊗◌ : F → F → F) (𝟘 𝟙 : F) where
  infixl 20 ◌⊕◌
  infixl 30 ◌⊗◌
  -- g is a polynomial of degree T, the highest coefficient, a 1, first, with the roots α ^ 1 .. α ^ T
  pub record Generator (α : F) (T : ℕ) (g : ℕ → F) : Type 0 where
    pub monic : g 0 ≡ 𝟙
    pub roots : (i : ℕ) → i < T → value ◌⊕◌ ◌⊗◌ 𝟘 (suc T) g (power ◌⊗◌ 𝟙 α (suc i)) ≡ 𝟘

  -- One data symbol u more: with f = u + r 0, each of the T entries of the remainder takes the next one's place and f times the generator is added.
  pub record RegisterStep (T : ℕ) (g : ℕ → F) (u : F) (r r' : ℕ → F) : Type 0 where
    pub written : (i : ℕ) → i < T → r' i ≡ r (suc i) ⊕ (u ⊕ r 0) ⊗ g (suc i)
    pub kept : (i : ℕ) → T ≤ i → r' i ≡ r i

  -- r is the remainder of the first k data: at every root of g its value is theirs, shifted by T. Past its T entries it is 0.
  pub record Divided (In : F → Type 0) (T : ℕ) (g d : ℕ → F) (k : ℕ) (r : ℕ → F) : Type 0 where
    pub inside : (i : ℕ) → In (r i)
    pub ended : (i : ℕ) → T ≤ i → r i ≡ 𝟘
    pub values : (b : F) → value ◌⊕◌ ◌⊗◌ 𝟘 (suc T) g b ≡ 𝟘 → value ◌⊕◌ ◌⊗◌ 𝟘 T r b ≡ value ◌⊕◌ ◌⊗◌ 𝟘 k d b ⊗ power ◌⊗◌ 𝟙 b T
