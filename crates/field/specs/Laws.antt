-- Theory: what makes a field in which each element is its own opposite. Assumes nothing.
use Rattle.std.specs.Prelude.{◌≡◌}

module _ {F : Type 0} (In : F → Type 0) (◌⊕◌ ◌⊗◌ : F → F → F) (𝟘 𝟙 : F) (inv : F → F) where
  infixl 20 ◌⊕◌
  infixl 30 ◌⊗◌
  -- The laws of sum and product hold for all of F; 1 is neutral, and inverses exist, on the elements, which `In` tells.
  pub record Field : Type 0 where
    pub sum_assoc : (a b c : F) → a ⊕ b ⊕ c ≡ a ⊕ (b ⊕ c)
    pub sum_comm : (a b : F) → a ⊕ b ≡ b ⊕ a
    pub sum_zero : (a : F) → a ⊕ 𝟘 ≡ a
    pub sum_self : (a : F) → a ⊕ a ≡ 𝟘
    pub mul_assoc : (a b c : F) → a ⊗ b ⊗ c ≡ a ⊗ (b ⊗ c)
    pub mul_comm : (a b : F) → a ⊗ b ≡ b ⊗ a
    pub mul_sum : (a b c : F) → a ⊗ (b ⊕ c) ≡ a ⊗ b ⊕ a ⊗ c
    pub mul_one : (a : F) → In a → a ⊗ 𝟙 ≡ a
    pub mul_inv : (a : F) → In a → (a ≡ 𝟘 → ⊥) → a ⊗ inv a ≡ 𝟙
    pub in_zero : In 𝟘
    pub in_one : In 𝟙
    pub one_not_zero : 𝟙 ≡ 𝟘 → ⊥
    pub in_sum : (a b : F) → In a → In b → In (a ⊕ b)
    pub in_mul : (a b : F) → In (a ⊗ b)
