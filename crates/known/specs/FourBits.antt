-- 01: source document 001's code of four bits and its two trellises. Assumes nothing.
use Rattle.std.specs.Prelude.{Bool, true, false, ◌&&◌, ◌||◌, List, [], ◌∷◌, ℕ, ◌-◌, ◌/◌, ◌^◌, eqb, leb, pos, negsuc, length, replicate}
use Rattle.column.specs.Mask.{parity}
use Rattle.paths.specs.Lists.{filter}
use Rattle.paths.specs.Paths.{Path}
use Rattle.paths.specs.Tree.{Tree}
use Rattle.trellis.specs.Values.{Values}
use Rattle.trellis.specs.Order.{number, sum, before}

-- the rows 1101 and 0111
abbrev pub top_row : ℕ
top_row = 13

abbrev pub low_row : ℕ
low_row = 7

-- the word has an even number of ones under the row
abbrev pub fits : ℕ → ℕ → Bool
fits row w = eqb (parity row w) 0

abbrev pub four_bit_words : List ℕ
four_bit_words = 0 ∷ 1 ∷ 2 ∷ 3 ∷ 4 ∷ 5 ∷ 6 ∷ 7 ∷ 8 ∷ 9 ∷ 10 ∷ 11 ∷ 12 ∷ 13 ∷ 14 ∷ 15 ∷ []

-- the code's words: 0000 0101 1011 1110
abbrev pub whole_words : List ℕ
whole_words = filter (λ w. fits top_row w && fits low_row w) four_bit_words

-- the words of each row's supercode
abbrev pub top_words : List ℕ
top_words = filter (fits top_row) four_bit_words

abbrev pub low_words : List ℕ
low_words = filter (fits low_row) four_bit_words

-- a path of at most four bits begins some word of the list
unfoldable pub begins_some : List ℕ → Path → Bool
begins_some [] p = false
begins_some (w ∷ words) p = leb (length p) 4 && eqb (w / 2 ^ (4 - length p)) (number p) || begins_some words p

abbrev pub four_bit_whole : Values → List ℕ → Tree
four_bit_whole vs soft = record { size = 4; sum = sum vs soft; before = before vs soft; exists = begins_some whole_words }

abbrev pub four_bit_supercode : Values → List ℕ → Tree
four_bit_supercode vs soft = record { size = 4; sum = sum vs soft; before = before vs soft; exists = λ p. begins_some top_words p && begins_some low_words p }

-- 01: "reading 0010, values +3 and −28", at every sureness
abbrev pub values_of_001 : Values
values_of_001 = record { agree = replicate 4 (pos 3); disagree = replicate 4 (negsuc 27) }

abbrev pub soft_of_001 : List ℕ
soft_of_001 = 0 ∷ 0 ∷ 7 ∷ 0 ∷ []

-- 01: "all values 0"
abbrev pub no_values : Values
no_values = record { agree = replicate 4 (pos 0); disagree = replicate 4 (pos 0) }

-- the path 001; the newest bit stands first
abbrev pub path001 : Path
path001 = true ∷ false ∷ false ∷ []
