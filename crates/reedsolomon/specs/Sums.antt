-- Theory: sums, powers and polynomials over any sum and product. Assumes nothing.
use Rattle.std.specs.Prelude.{ℕ, zero, suc, ◌-◌}

-- f 0 + .. + f (n - 1)
unfoldable pub sum : {F : Type 0} → (F → F → F) → F → ℕ → (ℕ → F) → F
sum plus none zero f = none
sum plus none (suc n) f = plus (sum plus none n f) (f n)

-- a to the power n
unfoldable pub power : {F : Type 0} → (F → F → F) → F → F → ℕ → F
power times one a zero = one
power times one a (suc n) = times a (power times one a n)

-- The value at b of the polynomial whose n coefficients are w 0 .. w (n - 1), the highest first (Horner).
-- For a word of n symbols: symbol j is the coefficient of x ^ (n - 1 - j).
unfoldable pub value : {F : Type 0} → (F → F → F) → (F → F → F) → F → ℕ → (ℕ → F) → F → F
value plus times none zero w b = none
value plus times none (suc n) w b = plus (times (value plus times none n w b) b) (w n)

-- the power sum with index i of n weights c at the locators X: c 0 * X 0 ^ i + .. + c (n - 1) * X (n - 1) ^ i
abbrev pub power_sum : {F : Type 0} → (F → F → F) → (F → F → F) → F → F → ℕ → (ℕ → F) → (ℕ → F) → ℕ → F
power_sum plus times none one n c X i = sum plus none n (λ j. times (c j) (power times one (X j) i))

-- the locator of column j of n: a ^ (n - 1 - j)
unfoldable pub position : {F : Type 0} → (F → F → F) → F → F → ℕ → ℕ → F
position times one a n j = power times one a (n - suc j)

-- coefficients in the other order: the last of k becomes the first
abbrev pub reversed : {F : Type 0} → ℕ → (ℕ → F) → ℕ → F
reversed k p j = p (k - suc j)
