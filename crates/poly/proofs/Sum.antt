-- The sum is a commutative group in which each element is its own inverse; it keeps halves, shifts and low digits. Assumes nothing.
use mathlib.Core.Path.{◌≡◌, refl, sym, ap, ap₂, ◌∙◌}
use mathlib.Core.Logic.{◌⊎◌, inl, inr, ⊎_elim}
use Prim.Native.Nat.{ℕ, zero, suc, ◌+◌, ◌-◌, ◌*◌, ◌/◌, ◌%◌, ◌^◌, ◌≤◌, ◌<◌}
use native.Mathlib.Nat
use native.Mathlib.Nat.{mod-lt, zero-lt-suc, pow-suc}
use native.Mathlib.Omega.{arith}
use lib.Arith.{bin_ind}
use lib.Bits.{bit_xor, differ, xor_step, xor_zero_l, xor_zero_r, xor_comm, xor_self, xor_lt, xor_shr, xor_mod, xor_block, xor_shifted}
use Rattle.poly.specs.Polynomial.{add, scale}

-- ---- one digit

differ_assoc : (x y z : ℕ) → x < 2 → y < 2 → z < 2 → differ (differ x y) z ≡ differ x (differ y z)
differ_assoc zero y z hx hy hz = refl
differ_assoc (suc zero) zero z hx hy hz = refl
differ_assoc (suc zero) (suc zero) zero hx hy hz = refl
differ_assoc (suc zero) (suc zero) (suc zero) hx hy hz = refl
differ_assoc (suc zero) (suc zero) (suc (suc z)) hx hy hz = absurd (omega arith)
differ_assoc (suc zero) (suc (suc y)) z hx hy hz = absurd (omega arith)
differ_assoc (suc (suc x)) y z hx hy hz = absurd (omega arith)

differ_lt : (x y : ℕ) → x < 2 → y < 2 → differ x y < 2
differ_lt zero y hx hy = hy
differ_lt (suc x) zero hx hy = hx
differ_lt (suc zero) (suc zero) hx hy = zero-lt-suc 1
differ_lt (suc zero) (suc (suc y)) hx hy = absurd (omega arith)
differ_lt (suc (suc x)) (suc y) hx hy = absurd (omega arith)

two_pos : 0 < 2
two_pos = zero-lt-suc 1

-- the lowest digit of a sum
pub xor_odd : (a b : ℕ) → bit_xor a b % 2 ≡ differ (a % 2) (b % 2)
xor_odd a b =
    let h : differ (a % 2) (b % 2) < 2 = differ_lt (a % 2) (b % 2) (mod-lt a two_pos) (mod-lt b two_pos) in
    omega (arith, xor_step a b)

xor_assoc : (a b c : ℕ) → bit_xor (bit_xor a b) c ≡ bit_xor a (bit_xor b c)
xor_assoc =
    bin_ind (λ (a : ℕ). (b c : ℕ) → bit_xor (bit_xor a b) c ≡ bit_xor a (bit_xor b c))
    (λ b c. ap (λ (t : ℕ). bit_xor t c) (xor_zero_l b) ∙ sym (xor_zero_l (bit_xor b c)))
    (λ a ih b c.
    xor_step (bit_xor a b) c
    ∙ ap₂ (λ (p q : ℕ). p * 2 + q)
    (ap (λ (t : ℕ). bit_xor t (c / 2)) (xor_shr a b 1) ∙ ih (b / 2) (c / 2) ∙ ap (bit_xor (a / 2)) (sym (xor_shr b c 1)))
    (ap (λ (t : ℕ). differ t (c % 2)) (xor_odd a b)
    ∙ differ_assoc (a % 2) (b % 2) (c % 2) (mod-lt a two_pos) (mod-lt b two_pos) (mod-lt c two_pos)
    ∙ ap (differ (a % 2)) (sym (xor_odd b c)))
    ∙ sym (xor_step a (bit_xor b c)))

-- ---- the group

pub add_assoc : (a b c : ℕ) → add (add a b) c ≡ add a (add b c)
unfolding add
add_assoc a b c = xor_assoc a b c

pub add_comm : (a b : ℕ) → add a b ≡ add b a
unfolding add
add_comm a b = xor_comm a b

pub add_zero_l : (a : ℕ) → add 0 a ≡ a
unfolding add
add_zero_l a = xor_zero_l a

pub add_zero_r : (a : ℕ) → add a 0 ≡ a
unfolding add
add_zero_r a = xor_zero_r a

pub add_self : (a : ℕ) → add a a ≡ 0
unfolding add
add_self a = xor_self a

pub add_swap : (a b c d : ℕ) → add (add a b) (add c d) ≡ add (add a c) (add b d)
add_swap a b c d =
    add_assoc a b (add c d)
    ∙ ap (add a) (sym (add_assoc b c d) ∙ ap (λ (t : ℕ). add t d) (add_comm b c) ∙ add_assoc c b d)
    ∙ sym (add_assoc a c (add b d))

-- a sum taken off again
pub add_again : (a b : ℕ) → add a (add a b) ≡ b
add_again a b = sym (add_assoc a a b) ∙ ap (λ (t : ℕ). add t b) (add_self a) ∙ add_zero_l b

-- two numbers are equal where their sum is 0
pub add_cancel : (a b : ℕ) → add a b ≡ 0 → a ≡ b
add_cancel a b h = sym (add_zero_r a) ∙ ap (add a) (sym h) ∙ add_again a b

-- ---- digits

pub add_lt : (k a b : ℕ) → a < 2 ^ k → b < 2 ^ k → add a b < 2 ^ k
unfolding add
add_lt k a b = xor_lt k a b

pub add_shr : (a b k : ℕ) → add a b / 2 ^ k ≡ add (a / 2 ^ k) (b / 2 ^ k)
unfolding add
add_shr a b k = xor_shr a b k

pub add_half : (a b : ℕ) → add a b / 2 ≡ add (a / 2) (b / 2)
add_half a b = add_shr a b 1

pub add_mod : (a b k : ℕ) → add a b % 2 ^ k ≡ add (a % 2 ^ k) (b % 2 ^ k)
unfolding add
add_mod a b k = xor_mod a b k

pub add_odd : (a b : ℕ) → add a b % 2 ≡ add (a % 2) (b % 2)
add_odd a b = add_mod a b 1

-- a number whose k low digits are 0, and one of k digits
pub add_high : (a k b : ℕ) → b < 2 ^ k → add (a * 2 ^ k) b ≡ a * 2 ^ k + b
unfolding add
add_high a k b h = xor_shifted a k b h

pub add_shl : (a b k : ℕ) → add a b * 2 ^ k ≡ add (a * 2 ^ k) (b * 2 ^ k)
unfolding add
add_shl a b k =
    sym (ap₂ bit_xor (sym (Nat.add-zero (a * 2 ^ k))) (sym (Nat.add-zero (b * 2 ^ k))) ∙ xor_block k a b 0 0 (lib.Pow.pow_pos k) (lib.Pow.pow_pos k) ∙ Nat.add-zero (bit_xor a b * 2 ^ k))

pub add_double : (a b : ℕ) → add a b * 2 ≡ add (a * 2) (b * 2)
add_double a b = add_shl a b 1

-- a number is its half, doubled, and its lowest digit
pub add_digit : (a : ℕ) → add (a / 2 * 2) (a % 2) ≡ a
add_digit a = add_high (a / 2) 1 (a % 2) (mod-lt a two_pos) ∙ Nat.div-add-mod' a 2

-- ---- multiples by a digit

pub scale_add : (c a b : ℕ) → scale c (add a b) ≡ add (scale c a) (scale c b)
unfolding scale
scale_add zero a b = sym (add_zero_l 0)
scale_add (suc c) a b = refl

scale_differ : (c d a : ℕ) → c < 2 → d < 2 → scale (differ c d) a ≡ add (scale c a) (scale d a)
unfolding scale
scale_differ zero d a hc hd = sym (add_zero_l _)
scale_differ (suc c) zero a hc hd = sym (add_zero_r a)
scale_differ (suc zero) (suc zero) a hc hd = sym (add_self a)
scale_differ (suc zero) (suc (suc d)) a hc hd = absurd (omega arith)
scale_differ (suc (suc c)) (suc d) a hc hd = absurd (omega arith)

pub scale_odd : (b c a : ℕ) → scale (add b c % 2) a ≡ add (scale (b % 2) a) (scale (c % 2) a)
unfolding add
scale_odd b c a = ap (λ (t : ℕ). scale t a) (xor_odd b c) ∙ scale_differ (b % 2) (c % 2) a (mod-lt b two_pos) (mod-lt c two_pos)

pub scale_lt : (k c a : ℕ) → a < 2 ^ k → scale c a < 2 ^ k
unfolding scale
scale_lt k zero a h = lib.Pow.pow_pos k
scale_lt k (suc c) a h = h

pub scale_set : (c a : ℕ) → c ≡ 1 → a ≡ scale c a
unfolding scale
scale_set c a e = sym (ap (λ (t : ℕ). scale t a) e)

pub scale_unset : (c a : ℕ) → c ≡ 0 → 0 ≡ scale c a
unfolding scale
scale_unset c a e = sym (ap (λ (t : ℕ). scale t a) e)

pub scale_zero : (c : ℕ) → scale c 0 ≡ 0
unfolding scale
scale_zero zero = refl
scale_zero (suc c) = refl

pub scale_double : (c a : ℕ) → scale c a * 2 ≡ scale c (a * 2)
unfolding scale
scale_double zero a = refl
scale_double (suc c) a = refl

-- ---- maps that keep sums

abbrev pub Linear : (ℕ → ℕ) → Type 0
Linear f = (a b : ℕ) → f (add a b) ≡ add (f a) (f b)

pub linear_zero : (f : ℕ → ℕ) → Linear f → f 0 ≡ 0
linear_zero f h = ap f (sym (add_self 0)) ∙ h 0 0 ∙ add_self (f 0)

pub lt_or_le : (a b : ℕ) → (a < b) ⊎ (b ≤ a)
lt_or_le a b = elim (native.Mathlib.Decide.dec_le b a) [ yes p ↦ inr p | no p ↦ inl (Nat.lt_of_not-le p) ]

-- two maps that keep sums and agree at the powers of 2 below 2 ^ n agree below 2 ^ n
pub linear_ext : (f g : ℕ → ℕ) → Linear f → Linear g → (n : ℕ) → ((k : ℕ) → k < n → f (2 ^ k) ≡ g (2 ^ k)) → (a : ℕ) → a < 2 ^ n → f a ≡ g a
linear_ext f g hf hg zero h a ha =
    let e : a ≡ 0 = omega arith in
    ap f e ∙ linear_zero f hf ∙ sym (linear_zero g hg) ∙ ap g (sym e)
linear_ext f g hf hg (suc n) h a ha =
    ⊎_elim
    (λ l. linear_ext f g hf hg n (λ k hk. h k (omega arith)) a l)
    (λ r.
    let e : a ≡ add (1 * 2 ^ n) (a - 2 ^ n) = sym (add_high 1 n (a - 2 ^ n) (small r) ∙ ap (λ (t : ℕ). t + (a - 2 ^ n)) (Nat.one-mul (2 ^ n)) ∙ Nat.add-sub_of_le r) in
    let one : f (1 * 2 ^ n) ≡ g (1 * 2 ^ n) = ap f (Nat.one-mul (2 ^ n)) ∙ h n (omega arith) ∙ ap g (sym (Nat.one-mul (2 ^ n))) in
    ap f e ∙ hf (1 * 2 ^ n) (a - 2 ^ n)
    ∙ ap₂ add one (linear_ext f g hf hg n (λ k hk. h k (omega arith)) (a - 2 ^ n) (small r))
    ∙ sym (ap g e ∙ hg (1 * 2 ^ n) (a - 2 ^ n)))
    (lt_or_le a (2 ^ n))
  where
    small : 2 ^ n ≤ a → a - 2 ^ n < 2 ^ n
    small r = omega (arith, pow-suc 2 n)
