-- `((a & mask) << k) | b` as a sum: the digits that are masked and shifted lie above those of b. Assumes nothing.
use mathlib.Core.Path.{◌≡◌, ap, ◌∙◌}
use Prim.Native.Nat.{ℕ, ◌+◌, ◌*◌, ◌%◌, ◌-◌, ◌^◌, ◌<◌}
use native.Mathlib.Nat
use native.Mathlib.Nat.{mod-lt, mod-eq_of_lt}
use native.Mathlib.Omega.{arith}
use lib.Dec.{lit<, lit≤}
use lib.Bits.{bit_or, bit_and, or_shifted, and_mask}

-- (a << k) | b at a width w, where the shift loses nothing
pub shifted_or : (w k a b : ℕ) → a * 2 ^ k < 2 ^ w → b < 2 ^ k → bit_or (a * 2 ^ k % 2 ^ w) b ≡ a * 2 ^ k + b
shifted_or w k a b ha hb = ap (λ (x : ℕ). bit_or x b) (mod-eq_of_lt ha) ∙ or_shifted a k b hb

-- ((a & (2 ^ m - 1)) << k) | b
pub masked_shifted_or : (w k m a b : ℕ) → a % 2 ^ m * 2 ^ k < 2 ^ w → b < 2 ^ k → bit_or (bit_and a (2 ^ m - 1) * 2 ^ k % 2 ^ w) b ≡ a % 2 ^ m * 2 ^ k + b
masked_shifted_or w k m a b ha hb = ap (λ (x : ℕ). bit_or (x * 2 ^ k % 2 ^ w) b) (and_mask a m) ∙ shifted_or w k (a % 2 ^ m) b ha hb

-- the six low bits and two zeros, as the lowest byte of the shifted column
pub lowest_byte : (x : ℕ) → bit_and x 63 * 4 % 2 ^ 64 ≡ x * 4 % 256
lowest_byte x =
    let low : x % 64 < 64 = mod-lt x (lit< tt) in
    let fits : x % 64 * 4 < 2 ^ 64 = Nat.lt_of_lt_of_le (small low) (lit≤ tt) in
    ap (λ (y : ℕ). y * 4 % 2 ^ 64) (and_mask x 6) ∙ mod-eq_of_lt fits ∙ sums x
  where
    small : {y : ℕ} → y < 64 → y * 4 < 256
    small {y} h = omega arith

    sums : (x : ℕ) → x % 64 * 4 ≡ x * 4 % 256
    sums x = omega arith
