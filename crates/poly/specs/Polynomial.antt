-- Theory: a natural number as a polynomial over two elements, bit k the coefficient of x ^ k. Assumes nothing.
use Rattle.std.specs.Prelude.{◌≡◌, ℕ, zero, suc, ◌*◌, ◌/◌, ◌%◌, ◌^◌}
use Rattle.std.specs.Int.Bits.{bit_xor}

-- 01: "bitwise sum"
unfoldable pub add : ℕ → ℕ → ℕ
add a b = bit_xor a b

-- a where the digit c is set, else 0
unfoldable pub scale : ℕ → ℕ → ℕ
scale zero a = zero
scale (suc c) a = a

-- a times b, by b's digits, the highest first; the first argument only bounds the number of digits
unfoldable pub product_in : ℕ → ℕ → ℕ → ℕ
product_in zero a b = zero
product_in (suc n) a zero = zero
product_in (suc n) a (suc b) = add (product_in n a (suc b / 2) * 2) (scale (suc b % 2) a)

-- the product
unfoldable pub product : ℕ → ℕ → ℕ
product a b = product_in b a b

-- 01: "multiples of g"
abbrev pub Multiple : ℕ → ℕ → Type 0
Multiple g w = (q : ℕ) × (product q g ≡ w)

-- g has degree d: x ^ d is its highest term
abbrev pub Degree : ℕ → ℕ → Type 0
Degree d g = g / 2 ^ d ≡ 1

-- w where its coefficient of x ^ d is 0, else w with g taken off
unfoldable pub reduced : ℕ → ℕ → ℕ → ℕ
reduced d g w = add w (scale (w / 2 ^ d % 2) g)

-- long division of w by g, of degree d, the highest digit first: what is left; the first argument only bounds the number of digits
unfoldable pub remainder_in : ℕ → ℕ → ℕ → ℕ → ℕ
remainder_in zero d g w = zero
remainder_in (suc n) d g zero = zero
remainder_in (suc n) d g (suc w) = reduced d g (add (remainder_in n d g (suc w / 2) * 2) (suc w % 2))

-- 01: "remainder" of w by g, of degree d
unfoldable pub remainder : ℕ → ℕ → ℕ → ℕ
remainder d g w = remainder_in w d g w
