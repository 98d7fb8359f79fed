-- Parity keeps sums, and at a power of 2 it is the mask's digit. Assumes nothing.
use mathlib.Core.Path.{◌≡◌, refl, sym, ap, ap₂, ◌∙◌}
use Prim.Native.Nat.{ℕ, zero, suc, ◌+◌, ◌/◌, ◌%◌, ◌^◌, ◌<◌, min}
use native.Mathlib.Nat.{mod-lt, mod-mod, zero-lt-suc, pow-suc, div-one}
use native.Mathlib.Omega.{arith}
use lib.Arith.{bin_ind}
use lib.Bits.{bit_and, and_step, and_shr, and_zero_l, and_zero_r}
use lib.Count.{ones, ones_in, ones_step}
use lib.Pow.{shr-shr}
use Rattle.poly.specs.Polynomial.{add, scale}
use Rattle.poly.proofs.Product.{scale_one}
use Rattle.poly.proofs.Sum.{Linear, add_zero_l, add_zero_r, add_swap, add_half, add_odd, scale_add, scale_zero}
use Rattle.column.specs.Mask.{parity}

two_pos : 0 < 2
two_pos = zero-lt-suc 1

-- the lowest digit of a sum of numbers
pub odd_sum : (x y : ℕ) → (x + y) % 2 ≡ add (x % 2) (y % 2)
unfolding add
odd_sum x y = digits (x % 2) (y % 2) refl refl (mod-lt x two_pos) (mod-lt y two_pos)
  where
    digits : (b c : ℕ) → x % 2 ≡ b → y % 2 ≡ c → b < 2 → c < 2 → (x + y) % 2 ≡ add b c
    digits zero c e f hb hc = let same : (x + y) % 2 ≡ c = omega arith in same ∙ sym (add_zero_l c)
    digits (suc zero) zero e f hb hc = omega arith
    digits (suc zero) (suc zero) e f hb hc = omega arith
    digits (suc zero) (suc (suc c)) e f hb hc = absurd (omega arith)
    digits (suc (suc b)) c e f hb hc = absurd (omega arith)

and_odd : (p m : ℕ) → bit_and p m % 2 ≡ scale (m % 2) (p % 2)
unfolding scale
and_odd p m = lowest ∙ digits (p % 2) (m % 2) (mod-lt p two_pos) (mod-lt m two_pos)
  where
    lowest : bit_and p m % 2 ≡ min (p % 2) (m % 2)
    lowest = let h : min (p % 2) (m % 2) < 2 = omega arith in omega (arith, and_step p m)

    digits : (b c : ℕ) → b < 2 → c < 2 → min b c ≡ scale c b
    digits b zero hb hc = omega arith
    digits b (suc zero) hb hc = omega arith
    digits b (suc (suc c)) hb hc = absurd (omega arith)

-- one bit more, the lowest
parity_step : (m p : ℕ) → parity m p ≡ add (scale (m % 2) (p % 2)) (parity (m / 2) (p / 2))
unfolding parity
parity_step m p =
    ap (λ (t : ℕ). t % 2) (ones_step (bit_and p m)) ∙ odd_sum (bit_and p m % 2) (ones (bit_and p m / 2))
    ∙ ap₂ (λ (s t : ℕ). add s (ones t % 2)) (mod-mod (bit_and p m) 2 ∙ and_odd p m) (and_shr p m 1)

pub parity_no_mask : (p : ℕ) → parity 0 p ≡ 0
unfolding parity ones ones_in
parity_no_mask p = ap (λ (t : ℕ). ones t % 2) (and_zero_r p)

parity_no_path : (m : ℕ) → parity m 0 ≡ 0
unfolding parity ones ones_in
parity_no_path m = ap (λ (t : ℕ). ones t % 2) (and_zero_l m)

pub parity_linear : (m : ℕ) → Linear (parity m)
parity_linear m a b = both a m b
  where
    both : (a m b : ℕ) → parity m (add a b) ≡ add (parity m a) (parity m b)
    both =
        bin_ind (λ (a : ℕ). (m b : ℕ) → parity m (add a b) ≡ add (parity m a) (parity m b))
        (λ m b. ap (parity m) (add_zero_l b) ∙ sym (ap (λ (t : ℕ). add t (parity m b)) (parity_no_path m) ∙ add_zero_l (parity m b)))
        (λ a ih m b.
        parity_step m (add a b)
        ∙ ap₂ add (ap (scale (m % 2)) (add_odd a b) ∙ scale_add (m % 2) (a % 2) (b % 2)) (ap (parity (m / 2)) (add_half a b) ∙ ih (m / 2) (b / 2))
        ∙ add_swap (scale (m % 2) (a % 2)) (scale (m % 2) (b % 2)) (parity (m / 2) (a / 2)) (parity (m / 2) (b / 2))
        ∙ ap₂ add (sym (parity_step m a)) (sym (parity_step m b)))

pub parity_at : (m k : ℕ) → parity m (2 ^ k) ≡ m / 2 ^ k % 2
unfolding scale
parity_at m zero =
    parity_step m 1 ∙ ap₂ add (scale_one (m % 2) (mod-lt m two_pos)) (parity_no_path (m / 2)) ∙ add_zero_r (m % 2)
    ∙ ap (λ (t : ℕ). t % 2) (sym (div-one m))
parity_at m (suc k) =
    parity_step m (2 ^ suc k) ∙ ap₂ (λ (s t : ℕ). add (scale (m % 2) s) (parity (m / 2) t)) even half
    ∙ ap (λ (t : ℕ). add t (parity (m / 2) (2 ^ k))) (scale_zero (m % 2)) ∙ add_zero_l (parity (m / 2) (2 ^ k)) ∙ parity_at (m / 2) k
    ∙ ap (λ (t : ℕ). t % 2) (shr-shr m 1 k ∙ ap (λ (t : ℕ). m / 2 ^ t) (native.Mathlib.Numerals.one-add k))
  where
    even : 2 ^ suc k % 2 ≡ 0
    even = omega (arith, pow-suc 2 k)

    half : 2 ^ suc k / 2 ≡ 2 ^ k
    half = omega (arith, pow-suc 2 k)
