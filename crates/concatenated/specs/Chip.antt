-- 02, point 5: page decoding as the chip makes it: the reader of columns by a search with a number of places, and whether any search made pushed a path out. Assumes nothing.
use Rattle.std.specs.Prelude.{Bool, false, ◌||◌, List, [], ◌∷◌, ℕ, zero, suc}
use Rattle.column.specs.Shape.{Shape, levels, short}
use Rattle.paths.specs.Search.{SearchResult, answer}
use Rattle.paths.specs.Search
use Rattle.paths.specs.Bounded.{BoundedResult}
use Rattle.trellis.specs.Values.{Values, level_values}
use Rattle.trellis.specs.Trellis.{WordFound}
use Rattle.trellis.specs.Demand.{supercode_trellis}
use Rattle.trellis.specs.Bounded.{searched_within}
use Rattle.concatenated.specs.Outer.{RowDecoder}
use Rattle.concatenated.specs.Decode.{Reading, found, spent, Reader, State, going, stopped, run}

-- 02: "in a page it is an erasure, counting the steps taken, and the column is unread"; a search that is spent has taken the limit
unfoldable pub reading_within : SearchResult WordFound → Reading
reading_within (answer w n) = found w n
reading_within (Search.spent n) = spent n

-- the supercode search of a column with a number of places
abbrev pub column_within : ℕ → Shape → (ℕ → Values) → ℕ → ℕ → List ℕ → BoundedResult WordFound
column_within places S vs limit i c = searched_within places (supercode_trellis S (vs i) c i) limit

unfoldable pub reader_within : ℕ → Shape → (ℕ → Values) → ℕ → Reader
reader_within places S vs limit i c = reading_within (column_within places S vs limit i c).result

-- whether a column of the list passes a test
unfoldable pub some_column : (List ℕ → Bool) → List (List ℕ) → Bool
some_column test [] = false
some_column test (c ∷ cs) = test c || some_column test cs

-- whether a column of a state does
unfoldable pub some_of : (List ℕ → Bool) → State → Bool
some_of test (going cs ls n) = some_column test cs
some_of test (stopped l) = false

-- whether a column of the levels below i does, in the decoder's run; a level whose row was refused was searched too
unfoldable pub some_below : Shape → RowDecoder → Reader → List (List ℕ) → (ℕ → List ℕ → Bool) → ℕ → Bool
some_below S outer read page test zero = false
some_below S outer read page test (suc i) = some_below S outer read page test i || some_of (test i) (run S outer read page i)

-- 02: "a page's answer and its 10 say it of all searches made"
abbrev pub pushed_out : ℕ → Shape → (ℕ → Values) → ℕ → RowDecoder → List (List ℕ) → Bool
pushed_out places S vs limit outer page = some_below S outer (reader_within places S vs limit) page (λ i c. (column_within places S vs limit i c).any_pushed_out) (levels S)

-- ---- the short page

-- 02: "holds 64 paths"
abbrev pub chip_places : ℕ
chip_places = 64

-- the search of a column, the reader of columns, and whether a path was pushed out
abbrev pub chip_column : ℕ → ℕ → List ℕ → BoundedResult WordFound
chip_column = column_within chip_places short level_values

abbrev pub chip_reader : ℕ → Reader
chip_reader = reader_within chip_places short level_values

abbrev pub chip_pushed_out : ℕ → RowDecoder → List (List ℕ) → Bool
chip_pushed_out = pushed_out chip_places short level_values
