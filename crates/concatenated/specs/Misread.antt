-- 01: which columns of a written page a decoder misreads or leaves unread; the premise of demand 2. Assumes nothing.
use Rattle.std.specs.Prelude.{Bool, false, not, List, [], ◌∷◌, map, ℕ, ◌+◌, ◌*◌, ◌≤◌, eqb}
use Rattle.column.specs.Shape.{Shape}
use Rattle.concatenated.specs.Lists.{total}
use Rattle.concatenated.specs.Format.{Format}
use Rattle.concatenated.specs.Outer.{RowDecoder}
use Rattle.concatenated.specs.Decode.{Reading, found, spent, Reader, marks, AtEveryLevel}
use Rattle.concatenated.specs.Written.{written_sum}

-- the word returned is another than v; a spent search returns none
unfoldable pub other_than : ℕ → Reading → Bool
other_than v (found w n) = not (eqb w.column v)
other_than v (spent n) = false

-- the columns whose word is another than the one in its place of vs
unfoldable pub others_than : List ℕ → List Reading → List Bool
others_than [] rs = []
others_than (v ∷ vs) [] = []
others_than (v ∷ vs) (r ∷ rs) = other_than v r ∷ others_than vs rs

-- 01: "misread at level i if the word returned for it is another than the sum of its written words of levels i to 3"; ws has the written symbols of each column
abbrev pub misread : Shape → ℕ → List (List ℕ) → List Reading → List Bool
misread S i ws = others_than (map (written_sum S i) ws)

-- 01: "unread if the search is spent"
abbrev pub unread : List Reading → List Bool
unread = marks

-- demand 2: "twice the misread columns plus the unread ones stay within 30, 12, 6 and 4": level i, its columns being cs
abbrev pub LevelWithinReach : Format → Reader → List (List ℕ) → ℕ → List (List ℕ) → Type 0
LevelWithinReach P read ws i cs = 2 * total (misread P.shape i ws (map (read i) cs)) + total (unread (map (read i) cs)) ≤ P.roots i

-- demand 2: "at each level"
abbrev pub WithinReach : Format → RowDecoder → Reader → List (List ℕ) → List (List ℕ) → Type 0
WithinReach P outer read ws page = AtEveryLevel P.shape outer read page (LevelWithinReach P read ws)
