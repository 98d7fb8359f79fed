-- Laws of the columns of a page, side by side with the written ones. Assumes nothing.
use mathlib.Core.Bool.{Bool, true, false, cond, not}
use mathlib.Core.List.{List, [], ◌∷◌, ◌++◌, map}
use mathlib.Core.Path.{◌≡◌, refl, sym, ap, ◌∙◌}
use Prim.Native.Nat.{ℕ, zero, suc, ◌≤◌}
use native.Mathlib.Omega.{arith}
use lib.ListN.{length, length-map, get_or}
use lib.Dec.{eqb}
use borrow.Author.Tests.{eqb-true, eq-eqb}
use Rattle.column.specs.Shape.{Shape}
use Rattle.column.specs.Level.{level_word, reimaged}
use Rattle.concatenated.specs.Lists.{All, total}
use Rattle.concatenated.specs.SoftPage.{column_off}
use Rattle.concatenated.specs.Decode.{Reading, found, spent, Reader, mark, marks, symbol, symbols, changed, row_off, Level, rows}
use Rattle.concatenated.specs.Written.{row_at, written_sum}
use Rattle.concatenated.specs.Misread.{other_than, others_than, misread}
use Rattle.concatenated.proofs.Counting.{at_most_one}

pub row_off_length : (S : Shape) (i : ℕ) (r : List ℕ) (cs : List (List ℕ)) → length r ≡ length cs → length (row_off S i r cs) ≡ length cs
unfolding row_off
row_off_length S i [] [] e = refl
row_off_length S i [] (c ∷ cs) e = e
row_off_length S i (s ∷ r) [] e = refl
row_off_length S i (s ∷ r) (c ∷ cs) e = ap suc (row_off_length S i r cs (omega arith))

-- what taking off keeps of each column
pub row_off_all : (S : Shape) (P : List ℕ → Type 0) → ((w : ℕ) (c : List ℕ) → P c → P (column_off w c)) → (i : ℕ) (r : List ℕ) (cs : List (List ℕ)) → All P cs → All P (row_off S i r cs)
unfolding row_off
row_off_all S P f i [] cs h = tt
row_off_all S P f i (s ∷ r) [] h = tt
row_off_all S P f i (s ∷ r) (c ∷ cs) h = (f (level_word S i s) c h.0, row_off_all S P f i r cs h.1)

pub row_length : (i : ℕ) (ws : List (List ℕ)) → length (row_at i ws) ≡ length ws
unfolding row_at
row_length i ws = length-map ws (λ s. get_or s i 0)

pub rows_more : (ls : List Level) (l : Level) → rows (ls ++ (l ∷ [])) ≡ rows ls ++ (l.symbols ∷ [])
unfolding rows
rows_more [] l = refl
rows_more (k ∷ ls) l = ap (λ (t : List (List ℕ)). k.symbols ∷ t) (rows_more ls l)

-- the page's columns with the written words of the levels below i taken off
unfoldable pub cleared : Shape → List (List ℕ) → List (List ℕ) → ℕ → List (List ℕ)
cleared S ws page zero = page
cleared S ws page (suc i) = row_off S i (row_at i ws) (cleared S ws page i)

pub cleared_length : (S : Shape) (ws page : List (List ℕ)) → length ws ≡ length page → (i : ℕ) → length (cleared S ws page i) ≡ length page
unfolding cleared
cleared_length S ws page e zero = refl
cleared_length S ws page e (suc i) =
    row_off_length S i (row_at i ws) (cleared S ws page i) (row_length i ws ∙ e ∙ sym (cleared_length S ws page e i)) ∙ cleared_length S ws page e i

-- a level's symbols and marks are as many as its columns
pub symbols_and_marks_length : (S : Shape) (read : Reader) (N i : ℕ) (cs : List (List ℕ)) → length cs ≡ N → (length (symbols S i (map (read i) cs)) ≡ N) × (length (marks (map (read i) cs)) ≡ N)
symbols_and_marks_length S read N i cs e =
    (length-map (map (read i) cs) (symbol S i) ∙ length-map cs (read i) ∙ e, length-map (map (read i) cs) mark ∙ length-map cs (read i) ∙ e)

-- the unerased columns whose symbol is not the written one are among the misread ones
pub altered_columns_are_misread : (S : Shape) (i : ℕ) (rs : List Reading) (ws : List (List ℕ)) → All (λ s. reimaged S i (written_sum S i s) ≡ get_or s i 0) ws
    → total (changed (symbols S i rs) (marks rs) (row_at i ws)) ≤ total (misread S i ws rs)
unfolding total changed symbol mark row_at others_than other_than
altered_columns_are_misread S i [] ws h = omega arith
altered_columns_are_misread S i (r ∷ rs) [] h = omega arith
altered_columns_are_misread S i (found w n ∷ rs) (s ∷ ws) h = omega (arith, go (eqb w.column (written_sum S i s)) refl, altered_columns_are_misread S i rs ws h.1)
  where
    go : (t : Bool) → eqb w.column (written_sum S i s) ≡ t → cond (not (eqb (reimaged S i w.column) (get_or s i 0))) 1 0 ≤ cond (not (eqb w.column (written_sum S i s))) 1 0
    go true e =
        let z : eqb (reimaged S i w.column) (get_or s i 0) ≡ true = eq-eqb _ _ (ap (reimaged S i) (eqb-true w.column (written_sum S i s) e) ∙ h.0) in
        rw (z, e) (omega arith)
    go false e = rw e (at_most_one (not (eqb (reimaged S i w.column) (get_or s i 0))))
altered_columns_are_misread S i (spent n ∷ rs) (s ∷ ws) h = omega (arith, altered_columns_are_misread S i rs ws h.1)
