-- For the code's contracts: the outcome of a search as the code gives it, what the short page's search is lent, and which search a flag names. Assumes nothing.
use Rattle.std.specs.Prelude.{Bool, true, false, List, [], Option, None, Some, ◌≡◌, ℕ, ◌+◌, ◌≤◌, ◌<◌, ℤ, pos, nat_abs, length, get_or}
use Rattle.column.specs.Shape.{short}
use Rattle.paths.specs.Search.{SearchResult, answer, spent}
use Rattle.paths.specs.Keys.{WithLow}
use Rattle.trellis.specs.Values.{level_values}
use Rattle.trellis.specs.Trellis.{WordFound}
use Rattle.trellis.specs.Keys.{Key, MasksFor}
use Rattle.trellis.specs.Demand.{Search, whole, supercode}
use Rattle.extension.specs.Steps.{ZeroOrOdd, table_of}
use Rattle.search.specs.declared.Found.{Found}

unfoldable pub outcome_of : SearchResult (WithLow Key) → Option Found
outcome_of (answer k c) = Some (record { word = k.key.bits; count = c; low = k.low })
outcome_of (spent c) = None

-- a word as a column's number, with its count and its low point; or none, where it is spent
unfoldable pub code_outcome : SearchResult WordFound → Option Found
code_outcome (answer w c) = Some (record { word = w.column; count = c; low = w.low })
code_outcome (spent c) = None

-- the tables of a search at a level: its two tables of masks, and the level's branch values
pub record TablesFor (s : Search) (i : ℕ) (left right : List ℕ) (table : List ℤ) : Type 0 where
  pub masks : MasksFor s short i left right
  pub lefts : length left ≡ 30
  pub rights : length right ≡ 30
  pub values : table ≡ table_of (level_values i)

-- the two tables of masks of the supercode search at a level
pub record SupercodesAt (i : ℕ) (left right : List ℕ) : Type 0 where
  pub masks : MasksFor supercode short i left right
  pub lefts : length left ≡ 30
  pub rights : length right ≡ 30

-- those of the levels below n: of a level's first supercode at the level, of its second four places on
pub record SupercodesBelow (n : ℕ) (tables : List (List ℕ)) : Type 0 where
  pub many : length tables ≡ 8
  pub each : (i : ℕ) → i < n → SupercodesAt i (get_or tables i []) (get_or tables (i + 4) [])

-- a soft column of 30 values 0..7, two tables of masks, each 0 or odd, and a table of branch values within 60 of zero
pub record Searchable30 (soft left right : List ℕ) (table : List ℤ) : Type 0 where
  pub softs : length soft ≡ 30
  pub lefts : length left ≡ 30
  pub rights : length right ≡ 30
  pub entries : length table ≡ 16
  pub soft_range : (k : ℕ) → k < 30 → get_or soft k 0 < 8
  pub left_odd : (k : ℕ) → k < 30 → ZeroOrOdd (get_or left k 0)
  pub right_odd : (k : ℕ) → k < 30 → ZeroOrOdd (get_or right k 0)
  pub near : (k : ℕ) → k < 16 → nat_abs (get_or table k (pos 0)) ≤ 60

-- the search that a flag of the code names
abbrev pub search_of : Bool → Search
search_of true = supercode
search_of false = whole
