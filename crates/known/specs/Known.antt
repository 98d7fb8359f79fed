-- 01: "Known values", the cases marked P, in one table. Assumes nothing.
use Rattle.std.specs.Prelude.{Bool, true, false, List, [], ◌∷◌, get_or, ◌≡◌, ℕ, ◌+◌, ◌*◌, ◌<◌, ℤ, pos, negsuc, replicate}
use Rattle.field.specs.Element.{power, α}
use Rattle.column.specs.Shape.{short}
use Rattle.column.specs.Level.{column_of}
use Rattle.packing.specs.Packing.{bytes_of}
use Rattle.concatenated.specs.Soft.{taken_off_by}
use Rattle.paths.specs.Paths.{Path}
use Rattle.paths.specs.Low.{low_point}
use Rattle.paths.specs.Search.{SearchResult, answer, spent}
use Rattle.trellis.specs.Values.{Values, values}
use Rattle.trellis.specs.Order.{sum, before}
use Rattle.trellis.specs.Demand.{Search, whole, supercode}
use Rattle.trellis.specs.TwoWords.{off}
use Rattle.trellis.specs.Trellis.{WordFound, searched}
use Rattle.searches.specs.Searches.{SearchAnswer, Is, search_answer}
use Rattle.known.specs.FourBits.{four_bit_whole, four_bit_supercode, values_of_001, soft_of_001, no_values, path001}

-- what the definitions give, and what 01 says of it
pub data Case : Type 0 where
  number : ℕ → ℕ → Case
  integer : ℤ → ℤ → Case
  truth : Bool → Bool → Case
  outcome : SearchResult WordFound → SearchResult WordFound → Case
  -- of all paths, those with the one sum stand before those with the other
  sums : ℤ → ℤ → Case
  -- a call's number, place, word, count and low point, at each level
  levels : (ℕ → SearchAnswer) → ℕ → ℕ → ℕ → ℕ → (ℕ → ℤ) → Case

abbrev pub Holds : Case → Type 0
Holds (number found known) = found ≡ known
Holds (integer found known) = found ≡ known
Holds (truth found known) = found ≡ known
Holds (outcome found known) = found ≡ known
Holds (sums x y) = (vs : Values) (soft : List ℕ) (p q : Path) → sum vs soft p ≡ x → sum vs soft q ≡ y → (before vs soft p q ≡ true) × (before vs soft q p ≡ false)
Holds (levels call n p w c low) = (i : ℕ) → i < 4 → Is (call i) n p w c (low i)

abbrev pub AllHold : List Case → Type 0
AllHold [] = Unit {0}
AllHold (c ∷ cs) = Holds c × AllHold cs

-- the word 0, found with a low point
abbrev pub zero_with : ℤ → WordFound
zero_with z = record { column = 0; low = z }

-- the call on the all-zero column
abbrev pub zero_column : Search → ℕ → ℕ → SearchAnswer
zero_column s limit i = search_answer off s i (replicate 30 0) limit

-- three zeros that are the least sure, and a sure one
abbrev pub unsure : List ℕ
unsure = 3 ∷ 3 ∷ 3 ∷ 0 ∷ []

-- the newest bit stands first
abbrev pub path11 : Path
path11 = true ∷ true ∷ []

abbrev pub path1010 : Path
path1010 = false ∷ true ∷ false ∷ true ∷ []

abbrev pub cases : List Case
cases =
    -- α^6 is 3
    number (power 6 67 α 6) 3
    -- symbol 1 at level 0 alone gives column 67; at level 1 alone 5,433
    ∷ number (column_of short (1 ∷ 0 ∷ 0 ∷ 0 ∷ [])) 67
    ∷ number (column_of short (0 ∷ 1 ∷ 0 ∷ 0 ∷ [])) 5433
    -- symbols 0, 0, 0, 1 pack to bytes 0, 0, 1
    ∷ number (get_or (bytes_of (0 ∷ 0 ∷ 0 ∷ 1 ∷ [])) 0 0) 0
    ∷ number (get_or (bytes_of (0 ∷ 0 ∷ 0 ∷ 1 ∷ [])) 1 0) 0
    ∷ number (get_or (bytes_of (0 ∷ 0 ∷ 0 ∷ 1 ∷ [])) 2 0) 1
    -- soft 0 taken off by a one is 7; 3 becomes 4
    ∷ number (taken_off_by 1 0) 7
    ∷ number (taken_off_by 1 3) 4
    -- the four-bit code of source document 001, reading 0010, values +3 and −28: answer 0000; count 4 whole, 5 with the rows as supercodes; 001 is dead.
    -- 02, point 8: of the sums 3, 6, −22, −19 the lowest is that of the third prefix
    ∷ outcome (searched (four_bit_whole values_of_001 soft_of_001) 4) (answer (zero_with (negsuc 21)) 4)
    ∷ outcome (searched (four_bit_whole values_of_001 soft_of_001) 3) (spent 3)
    ∷ outcome (searched (four_bit_supercode values_of_001 soft_of_001) 5) (answer (zero_with (negsuc 21)) 5)
    ∷ outcome (searched (four_bit_supercode values_of_001 soft_of_001) 4) (spent 4)
    ∷ truth ((four_bit_supercode values_of_001 soft_of_001).exists path001) true
    ∷ truth ((four_bit_whole values_of_001 soft_of_001).exists path001) false
    -- the same code, all values 0: 0000, count 4 both ways
    ∷ outcome (searched (four_bit_whole no_values soft_of_001) 4) (answer (zero_with (pos 0)) 4)
    ∷ outcome (searched (four_bit_supercode no_values soft_of_001) 4) (answer (zero_with (pos 0)) 4)
    -- a sum of −22 stands before −25; by 01's values the path 11 with −22 before the longer path 1010 with −25
    ∷ sums (negsuc 21) (negsuc 24)
    ∷ integer (sum values unsure path11) (negsuc 21)
    ∷ integer (sum values unsure path1010) (negsuc 24)
    ∷ truth (before values unsure path11 path1010) true
    -- 02, point 8: the low point of 11 is its last sum, of 1010 that of its third prefix, −27
    ∷ integer (low_point (sum values unsure) path11) (negsuc 21)
    ∷ integer (low_point (sum values unsure) path1010) (negsuc 26)
    -- the all-zero column, each level, both searches: limit 30 gives 0 in 30 steps, with the low point 2, 4, 6, 8, that of its first bit; limit 29 gives 9
    ∷ levels (zero_column whole 30) 0 0 0 30 (λ i. pos (2 + 2 * i))
    ∷ levels (zero_column supercode 30) 0 0 0 30 (λ i. pos (2 + 2 * i))
    ∷ levels (zero_column whole 29) 9 0 0 0 (λ i. pos 0)
    ∷ levels (zero_column supercode 29) 9 0 0 0 (λ i. pos 0)
    ∷ []
