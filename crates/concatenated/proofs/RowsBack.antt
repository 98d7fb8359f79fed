-- The written rows come back wherever, at each level, twice the misread columns plus the unread ones stay within the roots; no row is given where more are unread than that: for any reader. Assumes nothing.
use mathlib.Core.List.{List, [], ◌∷◌, ◌++◌, map}
use mathlib.Core.Logic.{◌⊎◌, inl, inr}
use mathlib.Core.Path.{◌≡◌, refl, sym, ap, ◌∙◌}
use Prim.Native.Nat.{ℕ, zero, suc, ◌+◌, ◌≤◌, ◌<◌}
use native.Mathlib.Decide.{dec_le}
use native.Mathlib.Omega.{arith}
use lib.ListN.{length, get_or}
use Rattle.column.specs.Shape.{Shape, levels}
use Rattle.column.specs.Level.{reimaged}
use Rattle.reedsolomon.specs.Words.{count, InReach}
use Rattle.reedsolomon.specs.Search.{OuterAnswer, Found, NoneInReach}
use Rattle.concatenated.specs.Lists.{All, total, listed}
use Rattle.concatenated.specs.Format.{Format}
use Rattle.concatenated.specs.Outer.{RowDecoder, RowEncoder, is_in, OuterLaws}
use Rattle.concatenated.specs.Decode.{Reading, Reader, marks, symbols, steps, row_off, Level, level, going, stopped, answered, decoded_row, settle, onward, run, Reaches, outcome, decoded, rows}
use Rattle.concatenated.specs.Written.{row_at, written_sum}
use Rattle.concatenated.specs.Misread.{unread, LevelWithinReach, WithinReach}
use Rattle.concatenated.proofs.Lists.{all_map}
use Rattle.concatenated.proofs.Counting.{erased_total_is_s, in_reach_by_totals}
use Rattle.concatenated.proofs.Columns.{row_length, rows_more, cleared, cleared_length, symbols_and_marks_length, altered_columns_are_misread}

-- a level whose row is known
pub level_with_row : (S : Shape) (outer : RowDecoder) (read : Reader) (page : List (List ℕ)) (i : ℕ) (cs : List (List ℕ)) (ls : List Level) (n : ℕ) (r : List ℕ)
    → run S outer read page i ≡ going cs ls n → decoded_row S outer i (map (read i) cs) ≡ Found r
    → run S outer read page (suc i) ≡ going (row_off S i r cs) (ls ++ (level S i (map (read i) cs) r ∷ [])) (n + steps (map (read i) cs))
unfolding run onward settle
level_with_row S outer read page i cs ls n r e o = ap (onward S outer read i) e ∙ ap (settle S outer i cs (map (read i) cs) ls n) o

-- and one that has no row
level_without_row : (S : Shape) (outer : RowDecoder) (read : Reader) (page : List (List ℕ)) (i : ℕ) (cs : List (List ℕ)) (ls : List Level) (n : ℕ)
    → run S outer read page i ≡ going cs ls n → decoded_row S outer i (map (read i) cs) ≡ NoneInReach → run S outer read page (suc i) ≡ stopped i
unfolding run onward settle
level_without_row S outer read page i cs ls n e o = ap (onward S outer read i) e ∙ ap (settle S outer i cs (map (read i) cs) ls n) o

-- ---- a decoder that gets each row right

module _ (S : Shape) (read : Reader) (ws page : List (List ℕ)) where
  -- what it reads at level i
  abbrev pub readings : ℕ → List Reading
  readings i = map (read i) (cleared S ws page i)

  -- what it gives at level i
  unfoldable pub written_level : ℕ → Level
  written_level i = level S i (readings i) (row_at i ws)

  -- its steps below level i
  unfoldable pub written_steps : ℕ → ℕ
  written_steps zero = 0
  written_steps (suc i) = written_steps i + steps (readings i)

  pub rows_are_written : (n : ℕ) → rows (listed written_level n) ≡ listed (λ i. row_at i ws) n
  unfolding rows listed written_level level
  rows_are_written zero = refl
  rows_are_written (suc n) = rows_more (listed written_level n) (written_level n) ∙ ap (λ (t : List (List ℕ)). t ++ (row_at n ws ∷ [])) (rows_are_written n)

module _ (P : Format) (outer : RowDecoder) (encoded : RowEncoder) (Codeword : ℕ → List ℕ → Type 0) (laws : OuterLaws P outer encoded Codeword) (read : Reader)
    (ws page : List (List ℕ)) (as_many : length ws ≡ P.columns) (wide : length page ≡ P.columns)
    (codewords : (i : ℕ) → i < levels P.shape → Codeword i (row_at i ws))
    (images : All (λ s. (i : ℕ) → i < levels P.shape → reimaged P.shape i (written_sum P.shape i s) ≡ get_or s i 0) ws) where
  abbrev S : Shape
  S = P.shape

  -- as `WithinReach`, asked only of the columns with the written words of the lower levels taken off
  abbrev pub TrueWithinReach : Type 0
  TrueWithinReach =
      (i : ℕ) → i < levels S → Reaches S outer read page i (cleared S ws page i) → LevelWithinReach P read ws i (cleared S ws page i)

  -- the symbols and the marks that enter the row of such a level
  entered : (i : ℕ) → (length (symbols S i (readings S read ws page i)) ≡ P.columns) × (length (marks (readings S read ws page i)) ≡ P.columns)
  entered i = symbols_and_marks_length S read P.columns i (cleared S ws page i) (cleared_length S ws page (as_many ∙ sym wide) i ∙ wide)

  -- within reach the written row is given
  row_is_written : (i : ℕ) → i < levels S → LevelWithinReach P read ws i (cleared S ws page i) → decoded_row S outer i (readings S read ws page i) ≡ Found (row_at i ws)
  unfolding decoded_row
  row_is_written i h within =
      let rs = readings S read ws page i in
      let close = altered_columns_are_misread S i rs ws (all_map ws (λ s f. f i h) images) in
      laws.gives i (symbols S i rs) (marks rs) (row_at i ws) h (entered i).0 (entered i).1 (codewords i h)
      (in_reach_by_totals P.columns (P.roots i) (symbols S i rs) (marks rs) (row_at i ws) (entered i).0 (entered i).1 (row_length i ws ∙ as_many) (omega (arith, close, within)))

  -- and with more unread columns than roots none
  no_row_with_too_many_unread : (i : ℕ) → i < levels S → P.roots i < total (unread (readings S read ws page i)) → decoded_row S outer i (readings S read ws page i) ≡ NoneInReach
  unfolding decoded_row InReach
  no_row_with_too_many_unread i h many = go (outer i (symbols S i rs) (marks rs)) refl
    where
      rs : List Reading
      rs = readings S read ws page i

      go : (o : OuterAnswer) → outer i (symbols S i rs) (marks rs) ≡ o → outer i (symbols S i rs) (marks rs) ≡ NoneInReach
      go NoneInReach e = e
      go (Found r) e =
          let s : total (marks rs) ≡ count (is_in (marks rs)) P.columns = erased_total_is_s (marks rs) ∙ ap (count (is_in (marks rs))) (entered i).1 in
          absurd (omega (arith, (laws.given i (symbols S i rs) (marks rs) r h (entered i).0 (entered i).1 e).1, s, many))

  -- the decoder comes to level i with the written words of the lower ones taken off
  abbrev pub ComesTo : ℕ → Type 0
  ComesTo i = run S outer read page i ≡ going (cleared S ws page i) (listed (written_level S read ws page) i) (written_steps S read ws page i)

  one_level_more : (i : ℕ) → ComesTo i → decoded_row S outer i (readings S read ws page i) ≡ Found (row_at i ws) → ComesTo (suc i)
  unfolding cleared listed written_level written_steps
  one_level_more i before row = level_with_row S outer read page i (cleared S ws page i) (listed (written_level S read ws page) i) (written_steps S read ws page i) (row_at i ws) before row

  pub comes_to : TrueWithinReach → (i : ℕ) → i ≤ levels S → ComesTo i
  unfolding run cleared listed written_steps
  comes_to within zero h = refl
  comes_to within (suc i) h =
      let before = comes_to within i (omega arith) in
      one_level_more i before (row_is_written i (omega arith) (within i (omega arith) (listed (written_level S read ws page) i, written_steps S read ws page i, before)))

  -- or it stopped, at a level with more unread columns than roots
  pub record StopsAt (i l : ℕ) : Type 0 where
    pub level_exists : l < levels S
    pub comes_there : ComesTo l
    pub too_many : P.roots l < total (unread (readings S read ws page l))
    pub stops : run S outer read page i ≡ stopped l

  -- as it does, where all that is asked of a level's reach is that no more columns are unread
  pub comes_to_or_stops : ((i : ℕ) → i < levels S → total (unread (readings S read ws page i)) ≤ P.roots i → LevelWithinReach P read ws i (cleared S ws page i))
      → (i : ℕ) → i ≤ levels S → ComesTo i ⊎ ((l : ℕ) × StopsAt i l)
  unfolding run onward cleared listed written_steps
  comes_to_or_stops within zero h = inl refl
  comes_to_or_stops within (suc i) h = go (comes_to_or_stops within i (omega arith)) (dec_le (total (unread (readings S read ws page i))) (P.roots i))
    where
      below : i < levels S
      below = omega arith

      go : ComesTo i ⊎ ((l : ℕ) × StopsAt i l) → Dec (total (unread (readings S read ws page i)) ≤ P.roots i) → ComesTo (suc i) ⊎ ((l : ℕ) × StopsAt (suc i) l)
      go (inr (l, stop)) few =
          inr (l, record { level_exists = stop.level_exists; comes_there = stop.comes_there; too_many = stop.too_many; stops = ap (onward S outer read i) stop.stops })
      go (inl before) (yes few) = inl (one_level_more i before (row_is_written i below (within i below few)))
      go (inl before) (no many) =
          let more : P.roots i < total (unread (readings S read ws page i)) = omega arith in
          inr (i, record { level_exists = below; comes_there = before; too_many = more; stops = level_without_row S outer read page i _ _ _ before (no_row_with_too_many_unread i below more) })

  -- what is answered, with sets and steps
  answer_is_written : TrueWithinReach → decoded S outer read page ≡ answered (listed (written_level S read ws page) (levels S)) (written_steps S read ws page (levels S))
  unfolding decoded outcome
  answer_is_written within = ap outcome (comes_to within (levels S) (omega arith))

  pub written_rows_come_back : WithinReach P outer read ws page
      → (ls : List Level) × (n : ℕ) × (decoded S outer read page ≡ answered ls n) × (rows ls ≡ listed (λ i. row_at i ws) (levels S))
  written_rows_come_back within =
      (_, _, answer_is_written (λ i h at. within i h (cleared S ws page i) at), rows_are_written S read ws page (levels S))
