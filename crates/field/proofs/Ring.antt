-- Sum and product make a commutative ring, for every modulus of degree m. Assumes nothing.
use mathlib.Core.Path.{◌≡◌, refl, sym, ap, ap₂, ◌∙◌}
use Prim.Native.Nat.{ℕ, zero, suc, ◌+◌, ◌*◌, ◌%◌, ◌^◌, ◌<◌}
use native.Mathlib.Nat
use native.Mathlib.Nat.{mod-lt, mod-eq_of_lt, mod-mod}
use native.Mathlib.Omega.{arith}
use lib.Pow.{pow_pos, pow-lt}
use Rattle.poly.specs.Polynomial.{scale, product, reduced, remainder, Degree}
use Rattle.poly.proofs.Sum.{Linear, linear_zero, add_mod}
use Rattle.poly.proofs.Product.{product_comm, product_assoc, product_one_r, product_add_r, product_double_r}
use Rattle.poly.proofs.Remainder.{remainder_add, remainder_lt, remainder_small, remainder_factor, remainder_double}
use Rattle.field.specs.Element.{mul, power, next}

module _ (m g : ℕ) where
  pub mul_comm : (a b : ℕ) → mul m g a b ≡ mul m g b a
  unfolding mul
  mul_comm a b = ap (remainder m g) (product_comm (a % 2 ^ m) (b % 2 ^ m))

  pub mul_add_r : (a : ℕ) → Linear (mul m g a)
  unfolding mul
  mul_add_r a b c =
      ap (λ (t : ℕ). remainder m g (product (a % 2 ^ m) t)) (add_mod b c m)
      ∙ ap (remainder m g) (product_add_r (a % 2 ^ m) (b % 2 ^ m) (c % 2 ^ m))
      ∙ remainder_add m g (product (a % 2 ^ m) (b % 2 ^ m)) (product (a % 2 ^ m) (c % 2 ^ m))

  pub mul_zero_r : (a : ℕ) → mul m g a 0 ≡ 0
  mul_zero_r a = linear_zero (mul m g a) (mul_add_r a)

  pub mul_zero_l : (b : ℕ) → mul m g 0 b ≡ 0
  mul_zero_l b = mul_comm 0 b ∙ mul_zero_r b

  -- the product of two elements is the remainder of their product as polynomials
  pub mul_elements : (a b : ℕ) → a < 2 ^ m → b < 2 ^ m → mul m g a b ≡ remainder m g (product a b)
  unfolding mul
  mul_elements a b ha hb = ap₂ (λ (s t : ℕ). remainder m g (product s t)) (mod-eq_of_lt ha) (mod-eq_of_lt hb)

  -- the product reads the m low digits
  pub mul_mod_l : (a b : ℕ) → mul m g (a % 2 ^ m) b ≡ mul m g a b
  unfolding mul
  mul_mod_l a b = ap (λ (t : ℕ). remainder m g (product t (b % 2 ^ m))) (mod-mod a (2 ^ m))

  pub mul_mod_r : (a b : ℕ) → mul m g a (b % 2 ^ m) ≡ mul m g a b
  mul_mod_r a b = mul_comm a (b % 2 ^ m) ∙ mul_mod_l b a ∙ mul_comm b a

  module _ (deg : Degree m g) where
    pub mul_lt : (a b : ℕ) → mul m g a b < 2 ^ m
    unfolding mul
    mul_lt a b = remainder_lt m g deg (product (a % 2 ^ m) (b % 2 ^ m))

    pub mul_assoc : (a b c : ℕ) → mul m g (mul m g a b) c ≡ mul m g a (mul m g b c)
    unfolding mul
    mul_assoc a b c =
        let x : ℕ = a % 2 ^ m in
        let y : ℕ = b % 2 ^ m in
        let z : ℕ = c % 2 ^ m in
        left a b c ∙ ap (remainder m g) (product_assoc x y z ∙ product_comm x (product y z)) ∙ sym (left b c a) ∙ mul_comm (mul m g b c) a
      where
        left : (a b c : ℕ) → mul m g (mul m g a b) c ≡ remainder m g (product (product (a % 2 ^ m) (b % 2 ^ m)) (c % 2 ^ m))
        left a b c =
            ap (λ (t : ℕ). remainder m g (product t (c % 2 ^ m))) (mod-eq_of_lt (mul_lt a b))
            ∙ remainder_factor m g deg (product (a % 2 ^ m) (b % 2 ^ m)) (c % 2 ^ m)

    module _ (wide : 1 < m) where
      pub one_lt : 1 < 2 ^ m
      one_lt = pow-lt {i = 0} (Nat.le_trans (Nat.le-suc 1) wide)

      pub two_lt : 2 < 2 ^ m
      two_lt = pow-lt {i = 1} wide

      pub mul_one_r : (a : ℕ) → a < 2 ^ m → mul m g a 1 ≡ a
      mul_one_r a h = mul_elements a 1 h one_lt ∙ ap (remainder m g) (product_one_r a) ∙ remainder_small m g a h

      pub mul_one_l : (a : ℕ) → a < 2 ^ m → mul m g 1 a ≡ a
      mul_one_l a h = mul_comm 1 a ∙ mul_one_r a h

      -- times a digit
      pub mul_digit : (a c : ℕ) → a < 2 ^ m → c < 2 → mul m g a c ≡ scale c a
      unfolding scale
      mul_digit a zero h hc = mul_zero_r a
      mul_digit a (suc zero) h hc = mul_one_r a h
      mul_digit a (suc (suc c)) h hc = absurd (omega arith)

      -- α times an element, by the step that the table of powers is tested by
      pub mul_α : (a : ℕ) → a < 2 ^ m → mul m g 2 a ≡ next m g a
      unfolding next
      mul_α a h =
          mul_comm 2 a ∙ mul_elements a 2 h two_lt ∙ ap (remainder m g) (product_double_r a 1 ∙ ap (λ (t : ℕ). t * 2) (product_one_r a))
          ∙ remainder_double m g a ∙ ap (λ (t : ℕ). reduced m g (t * 2)) (remainder_small m g a h)

      -- α times an element that is not too long is that element shifted
      pub mul_shift : (a : ℕ) → a * 2 < 2 ^ m → mul m g 2 a ≡ a * 2
      mul_shift a h =
          let less : a < 2 ^ m = omega arith in
          mul_comm 2 a ∙ mul_elements a 2 less two_lt ∙ ap (remainder m g) (product_double_r a 1 ∙ ap (λ (t : ℕ). t * 2) (product_one_r a)) ∙ remainder_small m g (a * 2) h

      -- ---- powers

      pub power_lt : (a k : ℕ) → power m g a k < 2 ^ m
      unfolding power
      power_lt a zero = one_lt
      power_lt a (suc k) = mul_lt a (power m g a k)

      pub power_one : (a : ℕ) → a < 2 ^ m → power m g a 1 ≡ a
      unfolding power
      power_one a h = mul_one_r a h

      pub power_add : (a i j : ℕ) → power m g a (i + j) ≡ mul m g (power m g a i) (power m g a j)
      unfolding power
      power_add a zero j = ap (power m g a) (Nat.zero-add j) ∙ sym (mul_one_l (power m g a j) (power_lt a j))
      power_add a (suc i) j = ap (power m g a) (Nat.suc-add i j) ∙ ap (mul m g a) (power_add a i j) ∙ sym (mul_assoc a (power m g a i) (power m g a j))

      pub one_power : (k : ℕ) → power m g 1 k ≡ 1
      unfolding power
      one_power zero = refl
      one_power (suc k) = ap (mul m g 1) (one_power k) ∙ mul_one_r 1 one_lt

      pub power_power : (a i j : ℕ) → power m g (power m g a i) j ≡ power m g a (i * j)
      unfolding power
      power_power a i zero = ap (power m g a) (sym (Nat.mul-zero i))
      power_power a i (suc j) =
          ap (mul m g (power m g a i)) (power_power a i j) ∙ sym (power_add a i (i * j)) ∙ ap (power m g a) (Nat.add_comm i (i * j) ∙ sym (Nat.mul-suc i j))

      -- ---- powers by products, as the code of the inverse makes them

      pub power_square : (a r : ℕ) → r ≡ mul m g a a → r ≡ power m g a 2
      unfolding power
      power_square a r e =
          e ∙ sym (mul_mod_r a a) ∙ ap (mul m g a) (sym (sym (mul_mod_l a 1) ∙ mul_one_r (a % 2 ^ m) (mod-lt a (pow_pos m))))

      pub power_next : (a i p r : ℕ) → p ≡ power m g a i → r ≡ mul m g p a → r ≡ power m g a (suc i)
      unfolding power
      power_next a i p r ep e = e ∙ mul_comm p a ∙ ap (mul m g a) ep

      pub power_join : (a i j p q r : ℕ) → p ≡ power m g a i → q ≡ power m g a j → r ≡ mul m g p q → r ≡ power m g a (i + j)
      power_join a i j p q r ep eq e = e ∙ ap₂ (mul m g) ep eq ∙ sym (power_add a i j)
