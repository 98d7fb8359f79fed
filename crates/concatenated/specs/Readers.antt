-- 01: the two decoders, by their readers of columns; 02, point 1: the same with list of two; the premise and the conclusion of demand 3 for pages. Assumes nothing.
use Rattle.std.specs.Prelude.{false, List, map, ◌≡◌, ℕ, zero, suc, ◌+◌, ◌<◌}
use Rattle.column.specs.Shape.{Shape, short}
use Rattle.paths.specs.Paths.{Path}
use Rattle.paths.specs.Search.{SearchResult, answer, limited_search}
use Rattle.paths.specs.Search
use Rattle.paths.specs.Dead.{dead_paths_ahead}
use Rattle.paths.specs.TwoWords.{ended_by_limit, dead_of_ending}
use Rattle.trellis.specs.Values.{Values, level_values}
use Rattle.trellis.specs.Trellis.{WordFound}
use Rattle.trellis.specs.Demand.{Search as Kind, supercode, whole_trellis, supercode_trellis}
use Rattle.trellis.specs.TwoWords.{Choice, off, on, two_words, searched_by}
use Rattle.concatenated.specs.Lists.{All, sum}
use Rattle.concatenated.specs.Outer.{RowDecoder}
use Rattle.concatenated.specs.Decode.{Reading, found, spent, Reader, mark, State, going, stopped, PageAnswer, answered, refused, run, AtEveryLevel}

-- 01: "a spent column counting the limit"
unfoldable pub reading_of : ℕ → SearchResult WordFound → Reading
reading_of limit (answer w n) = found w n
reading_of limit (Search.spent n) = spent limit

-- 01: "with the whole search, or with the supercode search, for every column at every level"; 02, point 1: with list of two or without; the branch values may depend on the level
unfoldable pub reader_of : Choice → Kind → Shape → (ℕ → Values) → ℕ → Reader
reader_of choice kind S vs limit i c = reading_of limit (searched_by choice kind S (vs i) limit c i)

-- the dead paths ahead of the word that was found
unfoldable pub dead_of : (Path → ℕ) → SearchResult Path → ℕ
dead_of dead (answer w n) = dead w
dead_of dead (Search.spent n) = 0

-- demand 3: the dead paths ahead of the codeword that the supercode search of the column returns
-- 02, point 1: with list of two, those ahead of the second word where one was sought, of the first where none was; none for a hard reading returned unsearched
unfoldable pub dead_ahead : Choice → Shape → (ℕ → Values) → ℕ → ℕ → List ℕ → ℕ
dead_ahead off S vs limit i c =
    dead_of (dead_paths_ahead (whole_trellis S (vs i) c i) (supercode_trellis S (vs i) c i)) (limited_search (supercode_trellis S (vs i) c i) limit)
dead_ahead (on threshold) S vs limit i c =
    dead_of_ending (dead_paths_ahead (whole_trellis S (vs i) c i) (supercode_trellis S (vs i) c i)) (two_words supercode S (vs i) threshold limit c i)

-- two searches of a column with the same word and low point, or both spent; the second takes d more paths
abbrev pub Apart : ℕ → Reading → Reading → Type 0
Apart d (found w m) (found v n) = (w ≡ v) × (n ≡ m + d)
Apart d (found w m) (spent n) = ⊥
Apart d (spent m) (found v n) = ⊥
Apart d (spent m) (spent n) = n ≡ m + d

-- demand 3: both answer with the same rows, changed and erased columns and low points at each level, the second with d more steps; or both refuse with the same level
abbrev pub Agree : ℕ → PageAnswer → PageAnswer → Type 0
Agree d (answered ls m) (answered ks n) = (ls ≡ ks) × (n ≡ m + d)
Agree d (answered ls m) (refused l) = ⊥
Agree d (refused l) (answered ks n) = ⊥
Agree d (refused l) (refused k) = l ≡ k

-- what the columns of a state come to
unfoldable pub sum_over : (List ℕ → ℕ) → State → ℕ
sum_over f (going cs ls n) = sum (map f cs)
sum_over f (stopped l) = 0

-- no column of level i is unread
abbrev pub AllRead : Reader → ℕ → List (List ℕ) → Type 0
AllRead read i = All (λ c. mark (read i c) ≡ false)

module _ (S : Shape) (outer : RowDecoder) (read : Reader) (page : List (List ℕ)) where
  -- 02, point 12: "no column is spent"
  abbrev pub NoColumnSpent : Type 0
  NoColumnSpent = AtEveryLevel S outer read page (AllRead read)

  -- of every column at the levels above 0 that the decoder comes to, which are those of two supercode trellises
  abbrev pub AboveLevel0 : (ℕ → List ℕ → Type 0) → Type 0
  AboveLevel0 P = AtEveryLevel S outer read page (λ i cs. 0 < i → All (P i) cs)

  -- demand 3: "no column spends its limit over two supercode trellises"
  abbrev pub NoneSpent : Type 0
  NoneSpent = AboveLevel0 (λ i c. mark (read i c) ≡ false)

  -- what the columns of the levels below i come to, in the decoder's run
  unfoldable pub sum_below : (ℕ → List ℕ → ℕ) → ℕ → ℕ
  sum_below f zero = 0
  sum_below f (suc i) = sum_below f i + sum_over (f i) (run S outer read page i)

-- the limit did not end the supercode search of a column; with list of two neither the first nor the second
abbrev pub Unended : Choice → Shape → (ℕ → Values) → ℕ → ℕ → List ℕ → Type 0
Unended off S vs limit i c = mark (reader_of off supercode S vs limit i c) ≡ false
Unended (on threshold) S vs limit i c = ended_by_limit (two_words supercode S (vs i) threshold limit c i) ≡ false

-- 02, point 1: "no supercode search, first or second, met its limit", of the supercode decoder's own run; without list of two this is `NoneSpent`
abbrev pub NoneEnded : Choice → Shape → RowDecoder → (ℕ → Values) → ℕ → List (List ℕ) → Type 0
NoneEnded choice S outer vs limit page = AboveLevel0 S outer (reader_of choice supercode S vs limit) page (Unended choice S vs limit)

-- ---- the short page

-- 02, point 3: "Every branch value at level i now rises by 2·i."
abbrev pub short_reader : Choice → Kind → ℕ → Reader
short_reader choice kind = reader_of choice kind short level_values
