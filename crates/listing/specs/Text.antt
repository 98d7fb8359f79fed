-- 01: "The station's interface", text as the bytes of its ASCII characters: words, decimal numbers, "lower-case hexadecimal". Assumes nothing.
use Rattle.std.specs.Prelude.{cond, List, [], ◌∷◌, ◌++◌, ◌≡◌, ℕ, zero, suc, ◌+◌, ◌/◌, ◌%◌, ◌≤◌, eqb, ltb, length, take}
use Prim.Native.Char.{code}
use Prim.Native.String.{String}
use Rattle.std.specs.Prelude.{Option}
use Rattle.std.specs.Io.KnownBytes.{Appends}
use Rattle.io.specs.Digits.{hex_digit_ascii, last_digits}

unfoldable pub ascii : String → List ℕ
ascii String.[] = []
ascii (String.◌∷◌ c s) = code c ∷ ascii s

-- a number of at most k decimal digits, without zeros in front
unfoldable pub decimal_in : ℕ → ℕ → List ℕ
decimal_in zero n = []
decimal_in (suc k) n = cond (ltb n 10) (hex_digit_ascii n ∷ []) (decimal_in k (n / 10) ++ (hex_digit_ascii (n % 10) ∷ []))

-- a number of 64 bits has at most 20
abbrev pub decimal : ℕ → List ℕ
decimal n = decimal_in 20 n

-- two digits a byte, the letters in lower case
unfoldable pub hex_of : List ℕ → List ℕ
hex_of [] = []
hex_of (b ∷ bs) = hex_digit_ascii (b / 16) ∷ hex_digit_ascii (b % 16) ∷ hex_of bs

-- 02, point 6: "16 lower-case hexadecimal digits"
abbrev pub hex_mark : ℕ → List ℕ
hex_mark mark = last_digits 16 16 mark

-- For the code's contracts: how long the first line of a text is, its newline included
unfoldable pub line_length : List ℕ → ℕ
line_length [] = 0
line_length (x ∷ xs) = cond (eqb x 10) 1 (suc (line_length xs))

-- For the code's contracts: in a buffer a text was put behind the first `at` bytes, of at most `most` bytes; it ends at r
pub record Appended (at : ℕ) (text : List ℕ) (most : ℕ) (old : List ℕ) (r : ℕ) (new : List ℕ) : Type 0 where
  pub bytes : take r new ≡ take at old ++ text
  pub reach : r ≤ at + most
  pub size : length new ≡ length old

-- For the code's contracts: what a writer holds, where that is known, grew by a beginning of the text
abbrev pub AppendsBeginning : Option (List ℕ) → Option (List ℕ) → List ℕ → Type 0
AppendsBeginning old new text = (n : ℕ) × (n ≤ length text) × Appends old new (take n text)
