-- Polynomials by Horner's rule, the highest coefficient first. Assumes nothing.
use mathlib.Core.Path.{◌≡◌, refl, sym, ap, ap₂, ◌∙◌}
use Prim.Native.Nat.{ℕ, zero, suc, ◌+◌, ◌-◌, ◌<◌}
use native.Mathlib.Nat.{le_trans, le-suc, lt-suc_self}
use native.Mathlib.Omega.{arith}
use Rattle.field.specs.Laws.{Field}
use Rattle.reedsolomon.specs.Sums.{sum, power, value}
use Rattle.reedsolomon.specs.Words.{Elements}
use Rattle.reedsolomon.proofs.FieldFacts.{mul_zero, zero_mul, sum_mul, sum_swap}
use Rattle.reedsolomon.proofs.Sums.{sum_of_multiples, sum_of_equals}

module _ {F : Type 0} {In : F → Type 0} {◌⊕◌ ◌⊗◌ : F → F → F} {𝟘 𝟙 : F} {inv : F → F} (K : Field In ◌⊕◌ ◌⊗◌ 𝟘 𝟙 inv) where
  infixl 20 ◌⊕◌
  infixl 30 ◌⊗◌
  open K use {sum_assoc, sum_comm, sum_zero, mul_assoc, mul_comm, mul_sum, mul_one, in_zero, in_sum, in_mul}

  abbrev ◌^^◌ : F → ℕ → F
  a ^^ n = power ◌⊗◌ 𝟙 a n

  infixr 40 ◌^^◌
  abbrev value_of : ℕ → (ℕ → F) → F → F
  value_of k p x = value ◌⊕◌ ◌⊗◌ 𝟘 k p x

  pub value_in : (k : ℕ) (p : ℕ → F) (x : F) → Elements In k p → In (value_of k p x)
  unfolding value
  value_in zero p x hp = in_zero
  value_in (suc k) p x hp = in_sum (value_of k p x ⊗ x) (p k) (in_mul (value_of k p x) x) (hp k (lt-suc_self k))

  pub value_of_equals : (k : ℕ) (p q : ℕ → F) (b : F) → ((j : ℕ) → j < k → p j ≡ q j) → value_of k p b ≡ value_of k q b
  unfolding value
  value_of_equals zero p q b h = refl
  value_of_equals (suc k) p q b h =
      ap₂ (λ (x y : F). x ⊗ b ⊕ y) (value_of_equals k p q b (λ j l. h j (le_trans l (le-suc k)))) (h k (lt-suc_self k))

  pub value_of_zeros : (k : ℕ) (p : ℕ → F) (b : F) → ((j : ℕ) → j < k → p j ≡ 𝟘) → value_of k p b ≡ 𝟘
  unfolding value
  value_of_zeros zero p b h = refl
  value_of_zeros (suc k) p b h =
      ap₂ (λ (x y : F). x ⊗ b ⊕ y) (value_of_zeros k p b (λ j l. h j (le_trans l (le-suc k)))) (h k (lt-suc_self k)) ∙ sum_zero (𝟘 ⊗ b)
      ∙ zero_mul K b

  pub value_of_combination : (k : ℕ) (p q : ℕ → F) (f b : F) → value_of k (λ j. p j ⊕ f ⊗ q j) b ≡ value_of k p b ⊕ f ⊗ value_of k q b
  unfolding value
  value_of_combination zero p q f b = sym (ap (λ (t : F). 𝟘 ⊕ t) (mul_zero K f) ∙ sum_zero 𝟘)
  value_of_combination (suc k) p q f b =
      ap (λ (t : F). t ⊗ b ⊕ (p k ⊕ f ⊗ q k)) (value_of_combination k p q f b)
      ∙ ap (λ (t : F). t ⊕ (p k ⊕ f ⊗ q k))
      (sum_mul K (value_of k p b) (f ⊗ value_of k q b) b ∙ ap (λ (t : F). value_of k p b ⊗ b ⊕ t) (mul_assoc f (value_of k q b) b))
      ∙ sum_swap K (value_of k p b ⊗ b) (f ⊗ (value_of k q b ⊗ b)) (p k) (f ⊗ q k)
      ∙ ap (λ (t : F). value_of k p b ⊗ b ⊕ p k ⊕ t) (sym (mul_sum f (value_of k q b ⊗ b) (q k)))

  pub value_of_sum : (k : ℕ) (p q : ℕ → F) (b : F) → value_of k (λ j. p j ⊕ q j) b ≡ value_of k p b ⊕ value_of k q b
  unfolding value
  value_of_sum zero p q b = sym (sum_zero 𝟘)
  value_of_sum (suc k) p q b =
      ap (λ (t : F). t ⊗ b ⊕ (p k ⊕ q k)) (value_of_sum k p q b)
      ∙ ap (λ (t : F). t ⊕ (p k ⊕ q k)) (sum_mul K (value_of k p b) (value_of k q b) b)
      ∙ sum_swap K (value_of k p b ⊗ b) (value_of k q b ⊗ b) (p k) (q k)

  -- a polynomial in two parts: its first k coefficients and the t others
  pub value_in_parts : (k t : ℕ) (p : ℕ → F) (b : F) → Elements In k p
      → value_of (k + t) p b ≡ value_of k p b ⊗ b ^^ t ⊕ value_of t (λ i. p (k + i)) b
  unfolding value power
  value_in_parts k zero p b h =
      ap (λ (x : ℕ). value_of x p b) (native.Mathlib.Nat.add-zero k)
      ∙ sym (sum_zero (value_of k p b ⊗ 𝟙) ∙ mul_one (value_of k p b) (value_in k p b h))
  value_in_parts k (suc t) p b h =
      ap (λ (x : ℕ). value_of x p b) (native.Mathlib.Nat.add-suc k t) ∙ ap (λ (x : F). x ⊗ b ⊕ p (k + t)) (value_in_parts k t p b h)
      ∙ ap (λ (x : F). x ⊕ p (k + t)) (sum_mul K (value_of k p b ⊗ b ^^ t) (value_of t (λ i. p (k + i)) b) b)
      ∙ sum_assoc (value_of k p b ⊗ b ^^ t ⊗ b) (value_of t (λ i. p (k + i)) b ⊗ b) (p (k + t))
      ∙ ap (λ (x : F). x ⊕ (value_of t (λ i. p (k + i)) b ⊗ b ⊕ p (k + t)))
      (mul_assoc (value_of k p b) (b ^^ t) b ∙ ap (λ (x : F). value_of k p b ⊗ x) (mul_comm (b ^^ t) b))

  -- the first coefficient apart
  pub value_first : (k : ℕ) (p : ℕ → F) (b : F) → In (p 0) → value_of (suc k) p b ≡ p 0 ⊗ b ^^ k ⊕ value_of k (λ i. p (suc i)) b
  unfolding value power
  value_first zero p b h = ap (λ (t : F). t ⊕ p 0) (zero_mul K b) ∙ sum_comm 𝟘 (p 0) ∙ ap (λ (t : F). t ⊕ 𝟘) (sym (mul_one (p 0) h))
  value_first (suc k) p b h =
      ap (λ (t : F). t ⊗ b ⊕ p (suc k)) (value_first k p b h)
      ∙ ap (λ (t : F). t ⊕ p (suc k))
      (sum_mul K (p 0 ⊗ b ^^ k) (value_of k (λ i. p (suc i)) b) b ∙ ap (λ (t : F). t ⊕ value_of k (λ i. p (suc i)) b ⊗ b)
      (mul_assoc (p 0) (b ^^ k) b ∙ ap (λ (t : F). p 0 ⊗ t) (mul_comm (b ^^ k) b)))
      ∙ sum_assoc (p 0 ⊗ (b ⊗ b ^^ k)) (value_of k (λ i. p (suc i)) b ⊗ b) (p (suc k))

  -- the value as a sum over the coefficients
  pub value_is_sum : (n : ℕ) (w : ℕ → F) (b : F) → Elements In n w → value_of n w b ≡ sum ◌⊕◌ 𝟘 n (λ j. w j ⊗ b ^^ (n - suc j))
  unfolding value sum power
  value_is_sum zero w b hw = refl
  value_is_sum (suc n) w b hw =
      ap₂ ◌⊕◌
      (ap (λ (t : F). t ⊗ b) (value_is_sum n w b (λ j l. hw j (le_trans l (le-suc n)))) ∙ mul_comm (sum ◌⊕◌ 𝟘 n (λ j. w j ⊗ b ^^ (n - suc j))) b ∙ sym
      (sum_of_multiples K n b (λ j. w j ⊗ b ^^ (n - suc j)))
      ∙ sum_of_equals K n (λ j. b ⊗ (w j ⊗ b ^^ (n - suc j))) (λ j. w j ⊗ b ^^ (suc n - suc j))
      (λ j l.
      let e : suc (n - suc j) ≡ suc n - suc j = omega arith in
      sym (mul_assoc b (w j) (b ^^ (n - suc j))) ∙ ap (λ (t : F). t ⊗ b ^^ (n - suc j)) (mul_comm b (w j))
      ∙ mul_assoc (w j) b (b ^^ (n - suc j))
      ∙ ap (λ (t : ℕ). w j ⊗ b ^^ t) e))
      (sym (mul_one (w n) (hw n (lt-suc_self n))) ∙ ap (λ (t : ℕ). w n ⊗ b ^^ t) (none n))
    where
      none : (n : ℕ) → 0 ≡ suc n - suc n
      none n = omega arith
