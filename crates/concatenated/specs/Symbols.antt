-- 02, point 7: "252 corrected symbols, row after row": a buffer of symbols, the rows that it holds, and the lowest that is no word of its outer code. Assumes nothing.
use Rattle.std.specs.Prelude.{Bool, true, false, cond, ◌≡◌, ℕ, suc, ◌*◌, ◌≤◌, ◌<◌, length, get_or, take, drop}
use mathlib.Core.List.{List, [], ◌∷◌, flat_map}
use Rattle.column.specs.Shape.{levels}
use Rattle.concatenated.specs.Lists.{listed}
use Rattle.concatenated.specs.Format.{Format}

-- the rows, one behind the other
unfoldable pub row_after_row : List (List ℕ) → List ℕ
row_after_row rs = flat_map (λ r. r) rs

-- row i of a buffer
unfoldable pub row_in : Format → List ℕ → ℕ → List ℕ
row_in P symbols i = take P.columns (drop (i * P.columns) symbols)

unfoldable pub rows_in : Format → List ℕ → List (List ℕ)
rows_in P symbols = listed (row_in P symbols) (levels P.shape)

-- whether a row is a word of the outer code of its level
abbrev pub RowTest : Type 0
RowTest = ℕ → List ℕ → Bool

-- 02, point 7: "a row that is no word of its outer code, place the lowest such level": the rows are those of the levels from i on; the level past the last where each is a word
unfoldable pub lowest_no_word : RowTest → ℕ → List (List ℕ) → ℕ
lowest_no_word is_word i [] = i
lowest_no_word is_word i (r ∷ rs) = cond (is_word i r) (lowest_no_word is_word (suc i) rs) i

-- what that says of the rows of all levels: the rows below n are words, and row n, if there is one, is none
pub record LowestNoWord (is_word : RowTest) (rs : List (List ℕ)) (n : ℕ) : Type 0 where
  pub within : n ≤ length rs
  pub words_below : (i : ℕ) → i < n → is_word i (get_or rs i []) ≡ true
  pub no_word : n < length rs → is_word n (get_or rs n []) ≡ false
