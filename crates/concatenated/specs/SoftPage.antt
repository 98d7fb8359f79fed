-- 01: soft columns and soft pages. Assumes nothing.
use Rattle.std.specs.Prelude.{cond, ◌&&◌, List, [], ◌∷◌, map, ℕ, ◌*◌, ◌≤◌, eqb, ltb, length, take, drop}
use Rattle.trellis.specs.Values.{reading}
use Rattle.packing.specs.Packing.{joined, digit}
use Rattle.concatenated.specs.Soft.{taken_off_by}
use Rattle.concatenated.specs.Lists.{All, listed}
use Rattle.concatenated.specs.Format.{Format}

-- 01: soft values are 0..7
abbrev pub Soft : List ℕ → Type 0
Soft = All (λ q. q ≤ 7)

-- 01: "0..3 read as bit 0, 4..7 as bit 1": the column as a number, position 0 its top bit
unfoldable pub hard_reading : List ℕ → ℕ
hard_reading c = joined 2 0 (map reading c)

-- 01: "taken off: where it has a one, soft value q becomes 7 − q": a word off a soft column, position 0 the top bit
unfoldable pub column_off : ℕ → List ℕ → List ℕ
column_off w [] = []
column_off w (q ∷ c) = taken_off_by (digit 2 (length c) w) q ∷ column_off w c

-- 01: the part of a soft page that is column j; "For a column above 62 or a page of another length the part is empty"
unfoldable pub column_part : Format → List ℕ → ℕ → List ℕ
column_part P page j = cond (eqb (length page) (P.columns * P.shape.bits) && ltb j P.columns) (take P.shape.bits (drop (j * P.shape.bits) page)) []

-- the columns of a soft page
unfoldable pub soft_columns : Format → List ℕ → List (List ℕ)
soft_columns P page = listed (column_part P page) P.columns
