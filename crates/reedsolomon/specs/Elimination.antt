-- Theory: the search for a locator by elimination. Each row carries its combinations along, and each equation has a slot for an earlier row. Assumes nothing.
use Rattle.std.specs.Prelude.{◌≡◌, ℕ, ◌+◌, ◌≤◌, ◌<◌}
use Rattle.reedsolomon.specs.Sums.{sum}
use Rattle.reedsolomon.specs.Words.{Elements}

-- Equation i asks that p combines the entries of M from i on to 0: Σ_{j < k} p_j * M_(i + j), the lowest coefficient first.
unfoldable pub combination : {F : Type 0} → (F → F → F) → (F → F → F) → F → ℕ → (ℕ → F) → (ℕ → F) → ℕ → F
combination plus times none k p M i = sum plus none k (λ j. times (p j) (M (i + j)))

-- k coefficients, n equations
module _ {F : Type 0} (In : F → Type 0) (◌⊕◌ ◌⊗◌ : F → F → F) (𝟘 𝟙 : F) (k n : ℕ) (M : ℕ → F) where
  infixl 20 ◌⊕◌
  infixl 30 ◌⊗◌
  -- The row of degree b in work: coefficients p that end at b with a 1, their combinations v, and the equations before i are met.
  pub record Reduced (p v : ℕ → F) (b i : ℕ) : Type 0 where
    pub degree : b < k
    pub inside : Elements In k p
    pub carried : (h : ℕ) → h < n → v h ≡ combination ◌⊕◌ ◌⊗◌ 𝟘 k p M h
    pub last : p b ≡ 𝟙
    pub ends : (j : ℕ) → b < j → j < k → p j ≡ 𝟘
    pub zeros : (h : ℕ) → h < i → v h ≡ 𝟘

  -- The row kept for equation i: its degree is below b, it meets the equations before i but not i, and q is the inverse of what it has there.
  pub record Slot (p v : ℕ → F) (q : F) (i b : ℕ) : Type 0 where
    pub inside : Elements In k p
    pub carried : (h : ℕ) → h < n → v h ≡ combination ◌⊕◌ ◌⊗◌ 𝟘 k p M h
    pub ends : (j : ℕ) → b ≤ j → j < k → p j ≡ 𝟘
    pub zeros : (h : ℕ) → h < i → v h ≡ 𝟘
    pub unit : v i ⊗ q ≡ 𝟙

  -- each equation whose entry in qs is not 0 has its row in ps with its combinations in vs
  abbrev pub Slots : (ℕ → ℕ → F) → (ℕ → ℕ → F) → (ℕ → F) → ℕ → Type 0
  Slots ps vs qs b = (i : ℕ) → i < n → (qs i ≡ 𝟘 → ⊥) → Slot (ps i) (vs i) (qs i) i b

  -- Where the row of degree b stopped: at an equation that it does not meet and whose slot is free, or at the end.
  pub record Stopped (qs p v : ℕ → F) (b stop : ℕ) : Type 0 where
    pub row : Reduced p v b stop
    pub within : stop ≤ n
    pub free : stop < n → qs stop ≡ 𝟘
    pub unmet : stop < n → v stop ≡ 𝟘 → ⊥
