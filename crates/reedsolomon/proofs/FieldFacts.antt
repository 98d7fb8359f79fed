-- What follows at once from the laws of a field of characteristic 2. Assumes nothing.
use mathlib.Core.Path.{◌≡◌, sym, ap, ap₂, ◌∙◌}
use Rattle.field.specs.Laws.{Field}

module _ {F : Type 0} {In : F → Type 0} {◌⊕◌ ◌⊗◌ : F → F → F} {𝟘 𝟙 : F} {inv : F → F} (K : Field In ◌⊕◌ ◌⊗◌ 𝟘 𝟙 inv) where
  infixl 20 ◌⊕◌
  infixl 30 ◌⊗◌
  open K use {sum_assoc, sum_comm, sum_zero, sum_self, mul_assoc, mul_comm, mul_sum, mul_one, mul_inv}

  pub zero_sum : (a : F) → 𝟘 ⊕ a ≡ a
  zero_sum a = sum_comm 𝟘 a ∙ sum_zero a

  pub mul_zero : (a : F) → a ⊗ 𝟘 ≡ 𝟘
  mul_zero a = ap (λ (t : F). a ⊗ t) (sym (sum_self 𝟘)) ∙ mul_sum a 𝟘 𝟘 ∙ sum_self (a ⊗ 𝟘)

  pub zero_mul : (a : F) → 𝟘 ⊗ a ≡ 𝟘
  zero_mul a = mul_comm 𝟘 a ∙ mul_zero a

  pub one_mul : (a : F) → In a → 𝟙 ⊗ a ≡ a
  one_mul a h = mul_comm 𝟙 a ∙ mul_one a h

  pub sum_mul : (a b c : F) → (a ⊕ b) ⊗ c ≡ a ⊗ c ⊕ b ⊗ c
  sum_mul a b c = mul_comm (a ⊕ b) c ∙ mul_sum c a b ∙ ap₂ ◌⊕◌ (mul_comm c a) (mul_comm c b)

  pub sum_swap : (a b c d : F) → (a ⊕ b) ⊕ (c ⊕ d) ≡ (a ⊕ c) ⊕ (b ⊕ d)
  sum_swap a b c d =
      sum_assoc a b (c ⊕ d) ∙ ap (λ (t : F). a ⊕ t) (sym (sum_assoc b c d) ∙ ap (λ (t : F). t ⊕ d) (sum_comm b c) ∙ sum_assoc c b d)
      ∙ sym (sum_assoc a c (b ⊕ d))

  -- the last two factors change places
  pub mul_exchange : (a b c : F) → a ⊗ b ⊗ c ≡ a ⊗ c ⊗ b
  mul_exchange a b c = mul_assoc a b c ∙ ap (λ (t : F). a ⊗ t) (mul_comm b c) ∙ sym (mul_assoc a c b)

  -- adding twice is adding nothing
  pub sum_twice : (a b : F) → a ⊕ (a ⊕ b) ≡ b
  sum_twice a b = sym (sum_assoc a a b) ∙ ap (λ (t : F). t ⊕ b) (sum_self a) ∙ zero_sum b

  -- two elements are equal where their sum is 0
  pub sum_cancel : (a b : F) → a ⊕ b ≡ 𝟘 → a ≡ b
  sum_cancel a b h = sym (sum_zero a) ∙ ap (λ (t : F). a ⊕ t) (sym h) ∙ sum_twice a b

  -- there are no zero divisors
  pub no_divisor : (a b : F) → In a → In b → (b ≡ 𝟘 → ⊥) → a ⊗ b ≡ 𝟘 → a ≡ 𝟘
  no_divisor a b ha hb nz e =
      sym (mul_one a ha) ∙ ap (λ (t : F). a ⊗ t) (sym (mul_inv b hb nz)) ∙ sym (mul_assoc a b (inv b)) ∙ ap (λ (t : F). t ⊗ inv b) e
      ∙ zero_mul (inv b)

  -- an inverse is not 0
  pub inverse_not_zero : (a : F) → In a → (a ≡ 𝟘 → ⊥) → inv a ≡ 𝟘 → ⊥
  inverse_not_zero a h nz e = K.one_not_zero (sym (mul_inv a h nz) ∙ ap (λ (t : F). a ⊗ t) e ∙ mul_zero a)
