-- 01: page decoding, level by level, over any reader of columns. Assumes nothing.
use Rattle.std.specs.Prelude.{Bool, true, false, cond, not, ◌≡◌, ℕ, zero, suc, ◌+◌, ◌<◌, eqb, ℤ}
use mathlib.Core.List.{List, [], ◌∷◌, ◌++◌, map, flat_map}
use Rattle.column.specs.Shape.{Shape, levels}
use Rattle.column.specs.Level.{level_word, reimaged}
use Rattle.paths.specs.Low.{lowest}
use Rattle.trellis.specs.Trellis.{WordFound}
use Rattle.reedsolomon.specs.Search.{OuterAnswer, Found, NoneInReach}
use Rattle.concatenated.specs.Lists.{sum}
use Rattle.concatenated.specs.SoftPage.{column_off}
use Rattle.concatenated.specs.Outer.{RowDecoder}

-- what the search of a column gives: a word, with its low point and its count, or only its count
pub data Reading : Type 0 where
  found : WordFound → ℕ → Reading
  spent : ℕ → Reading

-- a way to read columns: from the level and the soft column
abbrev pub Reader : Type 0
Reader = ℕ → List ℕ → Reading

-- 01: "marked erased if its search was spent"
unfoldable pub mark : Reading → Bool
mark (found w n) = false
mark (spent n) = true

-- 01: "re-imaged", "an erased column enters with symbol 0"
unfoldable pub symbol : Shape → ℕ → Reading → ℕ
symbol S i (found w n) = reimaged S i w.column
symbol S i (spent n) = 0

unfoldable pub count : Reading → ℕ
count (found w n) = n
count (spent n) = n

abbrev pub symbols : Shape → ℕ → List Reading → List ℕ
symbols S i = map (symbol S i)

abbrev pub marks : List Reading → List Bool
marks = map mark

-- 02, point 8: the low points of a level's unerased columns, of the words that their searches returned
unfoldable pub lows : List Reading → List ℤ
lows [] = []
lows (found w n ∷ rs) = w.low ∷ lows rs
lows (spent n ∷ rs) = lows rs

-- the counts of a level together
abbrev pub steps : List Reading → ℕ
steps rs = sum (map count rs)

-- 01: "Changed columns are unerased ones whose symbol the row altered.": a column with mark m and symbol x, y being the row's
abbrev pub is_changed : Bool → ℕ → ℕ → Bool
is_changed m x y = cond m false (not (eqb x y))

unfoldable pub changed : List ℕ → List Bool → List ℕ → List Bool
changed [] ms r = []
changed (x ∷ xs) [] r = []
changed (x ∷ xs) (m ∷ ms) [] = []
changed (x ∷ xs) (m ∷ ms) (y ∷ r) = is_changed m x y ∷ changed xs ms r

-- 01: "each column's level word is taken off": that of the row's symbol, off erased columns too
unfoldable pub row_off : Shape → ℕ → List ℕ → List (List ℕ) → List (List ℕ)
row_off S i [] cs = []
row_off S i (s ∷ r) [] = []
row_off S i (s ∷ r) (c ∷ cs) = column_off (level_word S i s) c ∷ row_off S i r cs

-- what a level gives: its row, the sets of its changed and erased columns, and the low points of the unerased ones
pub record Level : Type 0 where
  pub symbols : List ℕ
  pub changed : List Bool
  pub erased : List Bool
  pub lows : List ℤ

unfoldable pub level : Shape → ℕ → List Reading → List ℕ → Level
level S i rs r = record { symbols = r; changed = changed (symbols S i rs) (marks rs) r; erased = marks rs; lows = lows rs }

-- before a level: the columns, what the lower levels gave, and their steps; or decoding stopped, at a level
pub data State : Type 0 where
  going : List (List ℕ) → List Level → ℕ → State
  stopped : ℕ → State

-- what page decoding gives: the levels and the steps; or refused, by number 10, with the level as the place
pub data PageAnswer : Type 0 where
  answered : List Level → ℕ → PageAnswer
  refused : ℕ → PageAnswer

module _ (S : Shape) (outer : RowDecoder) where
  -- 01: "The row is decoded"
  unfoldable pub decoded_row : ℕ → List Reading → OuterAnswer
  decoded_row i rs = outer i (symbols S i rs) (marks rs)

  unfoldable pub settle : ℕ → List (List ℕ) → List Reading → List Level → ℕ → OuterAnswer → State
  settle i cs rs ls n NoneInReach = stopped i
  settle i cs rs ls n (Found r) = going (row_off S i r cs) (ls ++ (level S i rs r ∷ [])) (n + steps rs)

  module _ (read : Reader) where
    -- a level: "Each column is searched, re-imaged and marked", the row decoded and taken off
    unfoldable pub onward : ℕ → State → State
    onward i (stopped l) = stopped l
    onward i (going cs ls n) = settle i cs (map (read i) cs) ls n (decoded_row i (map (read i) cs))

    -- the run of the decoder up to level i, which is not yet read
    unfoldable pub run : List (List ℕ) → ℕ → State
    run page zero = going page [] 0
    run page (suc i) = onward i (run page i)

    -- the decoder comes to level i, and its columns there are cs
    abbrev pub Reaches : List (List ℕ) → ℕ → List (List ℕ) → Type 0
    Reaches page i cs = (ls : List Level) × (n : ℕ) × (run page i ≡ going cs ls n)

    -- at every level that the decoder comes to, on its columns there
    abbrev pub AtEveryLevel : List (List ℕ) → (ℕ → List (List ℕ) → Type 0) → Type 0
    AtEveryLevel page P = (i : ℕ) → i < levels S → (cs : List (List ℕ)) → Reaches page i cs → P i cs

unfoldable pub outcome : State → PageAnswer
outcome (going cs ls n) = answered ls n
outcome (stopped l) = refused l

-- 01: "Page decoding goes level by level."
unfoldable pub decoded : Shape → RowDecoder → Reader → List (List ℕ) → PageAnswer
decoded S outer read page = outcome (run S outer read page (levels S))

-- the low points of all levels together
unfoldable pub all_lows : List Level → List ℤ
all_lows ls = flat_map (λ l. l.lows) ls

-- 02, point 8: "a page gives the lowest over its unerased columns at all levels"
unfoldable pub page_low : List Level → ℤ
page_low ls = lowest (all_lows ls)

-- the rows of an answer
unfoldable pub rows : List Level → List (List ℕ)
rows ls = map (λ l. l.symbols) ls
