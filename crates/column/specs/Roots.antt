-- 01: which element of the field is a root of a factor. Assumes nothing.
use Rattle.std.specs.Prelude.{◌≡◌, ℕ, zero, suc, ◌/◌, ◌%◌}
use Rattle.poly.specs.Polynomial.{add}
use Rattle.field.specs.Element.{mul, power, α}

-- the value at b of the polynomial f, by its digits, the highest first; the first argument only bounds their number
unfoldable pub value_in : ℕ → ℕ → ℕ → ℕ → ℕ → ℕ
value_in zero m g f b = 0
value_in (suc n) m g f b = add (mul m g (value_in n m g (f / 2) b) b) (f % 2)

-- α ^ k is a root of f in the field of 64 elements, f having at most seven digits
abbrev pub Root : ℕ → ℕ → Type 0
Root f k = value_in 7 6 67 f (power 6 67 α k) ≡ 0
