-- The product is commutative and associative, has 1, and distributes over the sum. Assumes nothing.
use mathlib.Core.Path.{◌≡◌, refl, sym, ap, ap₂, ◌∙◌}
use Prim.Native.Nat.{ℕ, zero, suc, ◌*◌, ◌/◌, ◌%◌, ◌^◌, ◌≤◌, ◌<◌}
use native.Mathlib.Nat
use native.Mathlib.Nat.{le_refl, not-suc-le-zero, mod-lt, zero-lt-suc, pow-suc}
use native.Mathlib.Decide.{le_ind}
use native.Mathlib.Omega.{arith}
use lib.Arith.{bin_ind, half_le}
use Rattle.poly.specs.Polynomial.{add, scale, product_in, product}
use Rattle.poly.proofs.Sum.{Linear, linear_zero, add_zero_l, add_zero_r, add_swap, add_half, add_double, add_digit, scale_add, scale_odd, scale_double}

-- more room for digits changes nothing
product_more : (n a b : ℕ) → b ≤ n → product_in (suc n) a b ≡ product_in n a b
unfolding product_in
product_more zero a zero h = refl
product_more zero a (suc b) h = absurd (not-suc-le-zero h)
product_more (suc n) a zero h = refl
product_more (suc n) a (suc b) h = ap (λ (t : ℕ). add (t * 2) (scale (suc b % 2) a)) (product_more n a (suc b / 2) (half_le h))

product_enough : (n a b : ℕ) → b ≤ n → product_in n a b ≡ product_in b a b
product_enough n a b h = le_ind (λ (m : ℕ). product_in m a b ≡ product_in b a b) refl (λ m k e. product_more m a b k ∙ e) n h

pub product_zero_r : (a : ℕ) → product a 0 ≡ 0
unfolding product product_in
product_zero_r a = refl

-- one digit of b more, the lowest
pub product_step : (a b : ℕ) → product a b ≡ add (product a (b / 2) * 2) (scale (b % 2) a)
unfolding product product_in scale
product_step a zero = sym (add_zero_r 0)
product_step a (suc b) = ap (λ (t : ℕ). add (t * 2) (scale (suc b % 2) a)) (product_enough b a (suc b / 2) (half_le (le_refl (suc b))))

pub product_add_r : (a : ℕ) → Linear (product a)
product_add_r a =
    bin_ind (λ (b : ℕ). (c : ℕ) → product a (add b c) ≡ add (product a b) (product a c))
    (λ c. ap (product a) (add_zero_l c) ∙ sym (ap (λ (t : ℕ). add t (product a c)) (product_zero_r a) ∙ add_zero_l (product a c)))
    (λ b ih c.
    product_step a (add b c)
    ∙ ap₂ add (ap (λ (t : ℕ). product a t * 2) (add_half b c) ∙ ap (λ (t : ℕ). t * 2) (ih (c / 2)) ∙ add_double (product a (b / 2)) (product a (c / 2))) (scale_odd b c a)
    ∙ add_swap (product a (b / 2) * 2) (product a (c / 2) * 2) (scale (b % 2) a) (scale (c % 2) a)
    ∙ ap₂ add (sym (product_step a b)) (sym (product_step a c)))

pub product_add_l : (c : ℕ) → Linear (λ a. product a c)
product_add_l =
    bin_ind (λ (c : ℕ). (a b : ℕ) → product (add a b) c ≡ add (product a c) (product b c))
    (λ a b. product_zero_r (add a b) ∙ sym (ap₂ add (product_zero_r a) (product_zero_r b) ∙ add_zero_r 0))
    (λ c ih a b.
    product_step (add a b) c
    ∙ ap₂ add (ap (λ (t : ℕ). t * 2) (ih a b) ∙ add_double (product a (c / 2)) (product b (c / 2))) (scale_add (c % 2) a b)
    ∙ add_swap (product a (c / 2) * 2) (product b (c / 2) * 2) (scale (c % 2) a) (scale (c % 2) b)
    ∙ ap₂ add (sym (product_step a c)) (sym (product_step b c)))

pub product_zero_l : (b : ℕ) → product 0 b ≡ 0
product_zero_l b = linear_zero (λ a. product a b) (product_add_l b)

pub half : (b : ℕ) → b * 2 / 2 ≡ b
half b = omega arith

pub even : (b : ℕ) → b * 2 % 2 ≡ 0
even b = omega arith

-- x times b
pub product_double_r : (a b : ℕ) → product a (b * 2) ≡ product a b * 2
unfolding scale
product_double_r a b =
    product_step a (b * 2)
    ∙ ap₂ (λ (s t : ℕ). add (product a s * 2) (scale t a)) (half b) (even b)
    ∙ add_zero_r (product a b * 2)

pub product_double_l : (a b : ℕ) → product (a * 2) b ≡ product a b * 2
product_double_l a =
    bin_ind (λ (b : ℕ). product (a * 2) b ≡ product a b * 2)
    (product_zero_r (a * 2) ∙ ap (λ (t : ℕ). t * 2) (sym (product_zero_r a)))
    (λ b ih.
    product_step (a * 2) b ∙ ap₂ (λ (s t : ℕ). add (s * 2) t) ih (sym (scale_double (b % 2) a))
    ∙ sym (add_double (product a (b / 2) * 2) (scale (b % 2) a)) ∙ ap (λ (t : ℕ). t * 2) (sym (product_step a b)))

-- times a digit
pub product_digit_r : (a c : ℕ) → c < 2 → product a c ≡ scale c a
product_digit_r a c h =
    product_step a c
    ∙ ap₂ (λ (s t : ℕ). add (product a s * 2) (scale t a)) (none c h) (same c h)
    ∙ ap (λ (t : ℕ). add (t * 2) (scale c a)) (product_zero_r a) ∙ add_zero_l (scale c a)
  where
    none : (c : ℕ) → c < 2 → c / 2 ≡ 0
    none c h = omega arith

    same : (c : ℕ) → c < 2 → c % 2 ≡ c
    same c h = omega arith

pub product_one_r : (a : ℕ) → product a 1 ≡ a
unfolding scale
product_one_r a = product_digit_r a 1 (omega arith)

-- a digit times 1
pub scale_one : (c : ℕ) → c < 2 → scale c 1 ≡ c
unfolding scale
scale_one zero h = refl
scale_one (suc zero) h = refl
scale_one (suc (suc c)) h = absurd (omega arith)

pub product_one_l : (b : ℕ) → product 1 b ≡ b
unfolding scale
product_one_l =
    bin_ind (λ (b : ℕ). product 1 b ≡ b) (product_zero_r 1)
    (λ b ih. product_step 1 b ∙ ap₂ (λ (s t : ℕ). add (s * 2) t) ih (scale_one (b % 2) (mod-lt b (zero-lt-suc 1))) ∙ add_digit b)

product_digit_l : (c b : ℕ) → c < 2 → product c b ≡ scale c b
unfolding scale
product_digit_l zero b h = product_zero_l b
product_digit_l (suc zero) b h = product_one_l b
product_digit_l (suc (suc c)) b h = absurd (omega arith)

pub product_comm : (a b : ℕ) → product a b ≡ product b a
product_comm =
    bin_ind (λ (a : ℕ). (b : ℕ) → product a b ≡ product b a) (λ b. product_zero_l b ∙ sym (product_zero_r b))
    (λ a ih b.
    ap (λ (t : ℕ). product t b) (sym (add_digit a)) ∙ product_add_l b (a / 2 * 2) (a % 2)
    ∙ ap₂ add (product_double_l (a / 2) b ∙ ap (λ (t : ℕ). t * 2) (ih b)) (product_digit_l (a % 2) b (mod-lt a (zero-lt-suc 1)))
    ∙ sym (product_step b a))

product_scale : (a c b : ℕ) → product a (scale c b) ≡ scale c (product a b)
unfolding scale
product_scale a zero b = product_zero_r a
product_scale a (suc c) b = refl

pub product_assoc : (a b c : ℕ) → product (product a b) c ≡ product a (product b c)
product_assoc a b =
    bin_ind (λ (c : ℕ). product (product a b) c ≡ product a (product b c))
    (product_zero_r (product a b) ∙ sym (ap (product a) (product_zero_r b) ∙ product_zero_r a))
    (λ c ih.
    product_step (product a b) c ∙ ap₂ (λ (s t : ℕ). add (s * 2) t) ih (sym (product_scale a (c % 2) b))
    ∙ ap (λ (t : ℕ). add t (product a (scale (c % 2) b))) (sym (product_double_r a (product b (c / 2))))
    ∙ sym (product_add_r a (product b (c / 2) * 2) (scale (c % 2) b)) ∙ ap (product a) (sym (product_step b c)))

-- (a · b) · c as (a · c) · b
pub product_right_comm : (a b c : ℕ) → product (product a b) c ≡ product (product a c) b
product_right_comm a b c = product_assoc a b c ∙ ap (product a) (product_comm b c) ∙ sym (product_assoc a c b)

-- times x ^ k
pub product_pow : (a k : ℕ) → product a (2 ^ k) ≡ a * 2 ^ k
product_pow a zero = product_one_r a ∙ sym (Nat.mul-one a)
product_pow a (suc k) =
    ap (product a) (pow-suc 2 k) ∙ product_double_r a (2 ^ k) ∙ ap (λ (t : ℕ). t * 2) (product_pow a k) ∙ Nat.mul_assoc a (2 ^ k) 2
    ∙ ap (λ (t : ℕ). a * t) (sym (pow-suc 2 k))
