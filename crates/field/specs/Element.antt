-- 01: "The field has 64 elements, powers of α with α^6 = α + 1", which is m = 6, g = x ^ 6 + x + 1. The field of 2 ^ m elements by a modulus g of degree m:
-- an element is a number below 2 ^ m, its bit k the coefficient of α ^ k; the sum is the bitwise sum. Assumes nothing.
use Rattle.std.specs.Prelude.{Bool, true, false, ℕ, zero, suc, ◌-◌, ◌*◌, ◌%◌, ◌^◌, ◌<◌, T, eqb}
use Rattle.poly.specs.Polynomial.{product, reduced, remainder, Degree}

-- the product of two elements; of a larger number it reads the m low digits, so that its laws hold for all numbers
unfoldable pub mul : ℕ → ℕ → ℕ → ℕ → ℕ
mul m g a b = remainder m g (product (a % 2 ^ m) (b % 2 ^ m))

-- a to the power k
unfoldable pub power : ℕ → ℕ → ℕ → ℕ → ℕ
power m g a zero = 1
power m g a (suc k) = mul m g a (power m g a k)

-- 01: "α", the element x
abbrev pub α : ℕ
α = 2

-- the inverse of an element that is not 0
unfoldable pub inverse : ℕ → ℕ → ℕ → ℕ
inverse m g a = power m g a (2 ^ m - 2)

-- α times the element a: shifted, and reduced where that has degree m
unfoldable pub next : ℕ → ℕ → ℕ → ℕ
next m g a = reduced m g (a * 2)

-- of a, f a, f (f a), .. the first that is 1 has n before it
unfoldable pub first_one : (ℕ → ℕ) → ℕ → ℕ → Bool
first_one f zero a = eqb a 1
first_one f (suc n) a = elim (eqb a 1) [ true ↦ false | false ↦ first_one f n (f a) ]

-- the test of a modulus: its degree is m, and α ^ (2 ^ m - 1) is the first of α ^ 1, α ^ 2, .. that is 1
pub record Primitive (m g : ℕ) : Type 0 where
  pub wide : 1 < m
  pub degree : Degree m g
  pub order : T (first_one (next m g) (2 ^ m - 2) α)
