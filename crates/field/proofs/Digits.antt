-- The product by shifting and reducing, a digit of the second operand at a time, as the code does it: for every m and modulus. Assumes nothing.
use mathlib.Core.Path.{◌≡◌, sym, ap, ap₂, ◌∙◌}
use Prim.Native.Nat.{ℕ, zero, suc, ◌+◌, ◌*◌, ◌/◌, ◌%◌, ◌^◌, ◌≤◌, ◌<◌}
use native.Mathlib.Nat
use native.Mathlib.Nat.{mod-lt, zero-lt-suc, pow-suc}
use native.Mathlib.Omega.{arith}
use lib.Bits.{bit_xor}
use lib.Pow.{pow_pos}
use Rattle.poly.specs.Polynomial.{add, scale, reduced, Degree}
use Rattle.poly.proofs.Sum.{add_zero_l, add_zero_r, add_self, add_swap, add_high, add_comm}
use Rattle.field.specs.Element.{mul, α, next}
use Rattle.field.proofs.Ring

-- a times the k low digits of b
unfoldable pub digits_product : ℕ → ℕ → ℕ → ℕ → ℕ → ℕ
digits_product m g zero a b = 0
digits_product m g (suc k) a b = add (scale (b % 2) a) (digits_product m g k (mul m g α a) (b / 2))

-- the last digit
pub last : (m g p q r : ℕ) → r ≡ scale (q % 2) p → r ≡ digits_product m g 1 p q
unfolding digits_product
last m g p q r e = e ∙ sym (add_zero_r (scale (q % 2) p))

-- one digit more, the lowest
pub more : (m g k p q p' r s : ℕ) → r ≡ scale (q % 2) p → p' ≡ mul m g α p → s ≡ digits_product m g k p' (q / 2) → bit_xor r s ≡ digits_product m g (suc k) p q
unfolding digits_product add
more m g k p q p' r s er ep es = ap₂ add er (es ∙ ap (λ (t : ℕ). digits_product m g k t (q / 2)) ep)

module _ (m g : ℕ) (deg : Degree m g) (wide : 1 < m) where
  digits_mul : (k a b : ℕ) → a < 2 ^ m → k ≤ m → digits_product m g k a b ≡ mul m g a (b % 2 ^ k)
  unfolding digits_product
  digits_mul zero a b ha hk = sym (ap (mul m g a) (Nat.mod-one b) ∙ Ring.mul_zero_r m g a)
  digits_mul (suc k) a b ha hk =
      let c : ℕ = b / 2 % 2 ^ k in
      let low : c < 2 ^ k = mod-lt (b / 2) (pow_pos k) in
      let short : 2 ^ suc k ≤ 2 ^ m = lib.Pow.pow_mono hk in
      let fits : c * 2 < 2 ^ m = omega (arith, pow-suc 2 k) in
      let digits : b % 2 ^ suc k ≡ add (c * 2) (b % 2) =
      ap (λ (t : ℕ). b % 2 ^ t) (sym (native.Mathlib.Numerals.add-one k)) ∙ lib.Pow.mod-pow-add b k 1 ∙ sym (add_high c 1 (b % 2) (mod-lt b (zero-lt-suc 1))) in
      ap (add (scale (b % 2) a)) (digits_mul k (mul m g α a) (b / 2) (Ring.mul_lt m g deg α a) (Nat.le_trans (Nat.le-suc k) hk))
      ∙ ap₂ add (sym (Ring.mul_digit m g deg wide a (b % 2) ha (mod-lt b (zero-lt-suc 1))))
      (ap (λ (t : ℕ). mul m g t c) (Ring.mul_comm m g α a) ∙ Ring.mul_assoc m g deg a α c ∙ ap (mul m g a) (Ring.mul_shift m g deg wide c fits))
      ∙ add_comm (mul m g a (b % 2)) (mul m g a (c * 2))
      ∙ sym (Ring.mul_add_r m g a (c * 2) (b % 2)) ∙ ap (mul m g a) (sym digits)

  -- all m digits
  pub whole : (a b r : ℕ) → r ≡ digits_product m g m (a % 2 ^ m) b → r ≡ mul m g a b
  whole a b r e =
      e ∙ digits_mul m (a % 2 ^ m) b (mod-lt a (pow_pos m)) (Nat.le_refl m) ∙ Ring.mul_mod_l m g a (b % 2 ^ m) ∙ Ring.mul_mod_r m g a b

  -- one step of the division by g = x ^ m + low, of a number with one digit more
  reduced_low : (low w c : ℕ) → g ≡ 1 * 2 ^ m + low → low < 2 ^ m → c < 2 → w / 2 ^ m ≡ c → reduced m g w ≡ add (w % 2 ^ m) (scale c low)
  unfolding reduced scale
  reduced_low low w zero eg hl hc e =
      ap (λ (t : ℕ). add w (scale (t % 2) g)) e
      ∙ ap (λ (t : ℕ). add t 0) (sym (ap (λ (t : ℕ). t * 2 ^ m + w % 2 ^ m) (sym e) ∙ lib.Pow.split w m) ∙ ap (λ (t : ℕ). t + w % 2 ^ m) (Nat.zero-mul (2 ^ m)) ∙ Nat.zero-add (w % 2 ^ m))
  reduced_low low w (suc zero) eg hl hc e =
      let l : ℕ = w % 2 ^ m in
      let high : w ≡ add (1 * 2 ^ m) l = sym (add_high 1 m l (mod-lt w (pow_pos m)) ∙ ap (λ (t : ℕ). t * 2 ^ m + l) (sym e) ∙ lib.Pow.split w m) in
      ap (λ (t : ℕ). add w (scale (t % 2) g)) e
      ∙ ap₂ add high (eg ∙ sym (add_high 1 m low hl)) ∙ add_swap (1 * 2 ^ m) l (1 * 2 ^ m) low
      ∙ ap (λ (t : ℕ). add t (add l low)) (add_self (1 * 2 ^ m)) ∙ add_zero_l (add l low)
  reduced_low low w (suc (suc c)) eg hl hc e = absurd (omega arith)

  -- α times a number: shifted, and the digit that leaves decides whether the rest of g is added
  pub times_α : (low a s c r : ℕ) → g ≡ 1 * 2 ^ m + low → low < 2 ^ m → s ≡ a % 2 ^ m * 2 % 2 ^ m → c % 2 ≡ a % 2 ^ m * 2 / 2 ^ m → r ≡ scale (c % 2) low
      → bit_xor s r ≡ mul m g α a
  unfolding add next
  times_α low a s c r eg hl es ec er =
      ap₂ add es er ∙ sym (reduced_low low (a % 2 ^ m * 2) (c % 2) eg hl (mod-lt c (zero-lt-suc 1)) (sym ec))
      ∙ sym (Ring.mul_α m g deg wide (a % 2 ^ m) (mod-lt a (pow_pos m))) ∙ Ring.mul_mod_r m g α a
