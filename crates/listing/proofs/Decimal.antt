-- The digits that `io::decimal` gives are the decimal number. Assumes nothing.
use mathlib.Core.Path.{◌≡◌, ap, ◌∙◌, subst}
use mathlib.Core.List.{List, [], ◌∷◌, ◌++◌}
use Prim.Native.Nat.{ℕ, zero, suc, ◌-◌, ◌*◌, ◌/◌, ◌%◌, ◌^◌, ◌<◌, ◌≤◌}
use native.Mathlib.Nat.{pow-suc, pow-le-pow_right}
use native.Mathlib.Omega.{arith}
use borrow.Author.Tests.{lt-ltb, le-ltb}
use Rattle.io.specs.Digits.{hex_digit_ascii, last_digits, IsDigitCount}
use Rattle.listing.specs.Text.{decimal_in}

pow_positive : (k : ℕ) → 1 ≤ 10 ^ k
pow_positive zero = omega arith
pow_positive (suc k) = rw (pow-suc 10 k) (omega (arith, pow_positive k))

pow_before : (k : ℕ) → 10 ^ (suc k - 1) ≡ 10 ^ k
pow_before k = ap (λ (j : ℕ). 10 ^ j) (omega arith)

-- a number of 64 bits has at most 20
pub at_most_20 : (k n : ℕ) → n < 2 ^ 64 → IsDigitCount 10 1 n k → k ≤ 20
at_most_20 k n small few =
    let more : 20 ≤ k - 1 → 10 ^ 20 ≤ 10 ^ (k - 1) = λ h. pow-le-pow_right {n = 10} (omega arith) {i = 20} {j = k - 1} h in
    grind (arith, few, more, small)

pub digits_are_decimal : (k f n : ℕ) → k ≤ f → IsDigitCount 10 1 n k → last_digits 10 k n ≡ decimal_in f n
unfolding decimal_in
digits_are_decimal zero f n room few = absurd (omega (arith, few.0))
digits_are_decimal (suc k) zero n room few = absurd (omega arith)
digits_are_decimal (suc zero) (suc f) n room few =
    let one : n % 10 ≡ n = omega (arith, few.1) in
    rw (one, lt-ltb n 10 few.1)
digits_are_decimal (suc (suc k)) (suc f) n room few =
    let least : 10 ^ k * 10 ≤ n = subst (λ (x : ℕ). x ≤ n) (pow_before (suc k) ∙ pow-suc 10 k) (few.2 (omega arith)) in
    let most : n < 10 ^ suc k * 10 = rw (← pow-suc 10 (suc k)) few.1 in
    let two : 10 ≤ n = omega (arith, pow_positive k, least) in
    rw (le-ltb n 10 two)
    (ap (λ (l : List ℕ). l ++ (hex_digit_ascii (n % 10) ∷ []))
    (digits_are_decimal (suc k) f (n / 10) (omega arith) (omega arith, omega (arith, most), λ h. rw (pow_before k) (omega (arith, least)))))
