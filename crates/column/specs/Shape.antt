-- 01: nested column codes; the codewords of level i are the multiples of its generator. Assumes nothing.
use Rattle.std.specs.Prelude.{List, [], ◌∷◌, ℕ, zero, suc, ◌*◌, ◌-◌, ◌^◌, ◌≤◌, ◌<◌, length, get_or}
use Rattle.poly.specs.Polynomial.{product, Multiple, Degree}

-- a cyclic code, by its generator and the degree of that
pub record Code : Type 0 where
  pub degree : ℕ
  pub generator : ℕ

abbrev pub code : ℕ → ℕ → Code
code d g = record { degree = d; generator = g }

-- 01: "codewords the multiples of g": a word of n bits
abbrev pub Word : ℕ → Code → ℕ → Type 0
Word n C w = (w < 2 ^ n) × Multiple C.generator w

-- the two supercodes of a level
pub record Supercodes : Type 0 where
  pub left : Code
  pub right : Code

-- a family of nested codes
pub record Shape : Type 0 where
  -- bits of a column; position j is the coefficient of x ^ (bits - 1 - j), so that position 0 is the top bit
  pub bits : ℕ
  -- bits of a symbol
  pub symbol : ℕ
  -- what each level adds to the generator, level 0 first
  pub factors : List ℕ
  -- the supercodes of each level
  pub supercodes : ℕ → Supercodes

abbrev pub levels : Shape → ℕ
levels S = length S.factors

-- 01: "where g is f1, f1·f3, f1·f3·f5, f1·f3·f5·f7"
unfoldable pub generator : Shape → ℕ → ℕ
generator S zero = get_or S.factors 0 1
generator S (suc i) = product (generator S i) (get_or S.factors (suc i) 1)

-- the bits of a level's word after its symbol: each level above has a symbol before it
unfoldable pub degree : Shape → ℕ → ℕ
degree S i = S.bits - S.symbol * (levels S - i)

-- the code of level i
abbrev pub level_code : Shape → ℕ → Code
level_code S i = code (degree S i) (generator S i)

-- what the numbers of a family have to keep to
pub record Sound (S : Shape) : Type 0 where
  pub room : S.symbol * levels S ≤ S.bits
  pub degrees : (i : ℕ) → i < levels S → Degree (degree S i) (generator S i)

-- ---- the short page

-- 01: the factors, with roots α, α^3, α^5, α^7
abbrev pub f1 : ℕ
f1 = 67

abbrev pub f3 : ℕ
f3 = 87

abbrev pub f5 : ℕ
f5 = 103

abbrev pub f7 : ℕ
f7 = 73

-- 01: "level 1 f1 and f3; level 2 f1·f3 and f5; level 3 f1·f3 and f5·f7; level 0 has only its code": the other one there is the code of all words
abbrev pub short_supercodes : ℕ → Supercodes
short_supercodes zero = record { left = code 6 f1; right = code 0 1 }
short_supercodes (suc zero) = record { left = code 6 f1; right = code 6 f3 }
short_supercodes (suc (suc zero)) = record { left = code 12 (product f1 f3); right = code 6 f5 }
short_supercodes (suc (suc (suc i))) = record { left = code 12 (product f1 f3); right = code 12 (product f5 f7) }

-- 01: "A column has 30 bits", "four 6-bit symbols"
abbrev pub short : Shape
short = record { bits = 30; symbol = 6; factors = f1 ∷ f3 ∷ f5 ∷ f7 ∷ []; supercodes = short_supercodes }
