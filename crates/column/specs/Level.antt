-- 01: level words, the column of a list of symbols, and re-imaging. Assumes nothing.
use Rattle.std.specs.Prelude.{List, ℕ, zero, suc, ◌+◌, ◌*◌, ◌-◌, ◌/◌, ◌^◌, Bool, eqb, get_or}
use Rattle.poly.specs.Polynomial.{add, remainder}
use Rattle.column.specs.Shape.{Shape, levels, generator, degree}

-- 01: "The level-i word has 6·(3−i) zeros, then the symbol (top bit first), then the remainder bits."
unfoldable pub level_word : Shape → ℕ → ℕ → ℕ
level_word S i s = s * 2 ^ degree S i + remainder (degree S i) (generator S i) (s * 2 ^ degree S i)

-- the sum of the words of the k highest levels, where level i has the symbol s i
unfoldable pub highest : Shape → (ℕ → ℕ) → ℕ → ℕ
highest S s zero = 0
highest S s (suc k) = add (highest S s k) (level_word S (levels S - suc k) (s (levels S - suc k)))

-- 01: "The column is the bitwise sum of the four words": symbols in the order of the levels, level 0's first
unfoldable pub column_of : Shape → List ℕ → ℕ
column_of S s = highest S (λ i. get_or s i 0) (levels S)

-- w with the words of the k highest levels taken off, the highest first
unfoldable pub taken_off : Shape → ℕ → ℕ → ℕ
taken_off S zero w = w
taken_off S (suc k) w = add (taken_off S k w) (level_word S (levels S - suc k) (taken_off S k w / 2 ^ degree S (levels S - suc k)))

-- 01: "Re-imaging a word of level i reads the level-3 symbol from positions 0..5, takes off its word, reads level 2 from positions 6..11, and so on
-- down to level i, whose symbol it gives."
unfoldable pub reimaged : Shape → ℕ → ℕ → ℕ
reimaged S i w = taken_off S (levels S - suc i) w / 2 ^ degree S i

-- whether w is a word of level i, by its remainder; `word_exactly` says that this is 01's "multiples of g"
unfoldable pub is_word : Shape → ℕ → ℕ → Bool
is_word S i w = eqb (remainder (degree S i) (generator S i) w) 0
