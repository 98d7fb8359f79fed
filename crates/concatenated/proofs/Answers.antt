-- What an answer is made of: at each level the row is the codeword in reach, the totals of changed and erased columns are e and s of the outer rule, and no column is both. Assumes nothing.
use mathlib.Core.Bool.{Bool, true, false}
use mathlib.Core.List.{List, [], ◌∷◌, ◌++◌, map}
use mathlib.Core.Logic.{⊎_elim}
use mathlib.Core.Path.{◌≡◌, refl, sym, ap, ◌∙◌, subst, subst⁻¹}
use Prim.Native.Nat.{ℕ, zero, suc, ◌≤◌, ◌<◌}
use native.Mathlib.Nat.{eq-or-lt_of_le, suc_inj, le_of_suc-le-suc}
use native.Mathlib.Decide.{ℕ_discrete}
use native.Mathlib.Omega.{arith}
use lib.ListN.{length, length-map, length-append, get_or, get_or-append}
use lib.Seq.{get_or_at}
use Rattle.column.specs.Shape.{Shape, levels}
use Rattle.column.proofs.Tabulated.{map_at}
use Rattle.reedsolomon.specs.Words.{count, errors, InReach}
use Rattle.reedsolomon.specs.Search.{OuterAnswer, Found, NoneInReach}
use Rattle.reedsolomon.specs.Row
use Rattle.concatenated.specs.Lists.{total}
use Rattle.concatenated.specs.Format.{Format}
use Rattle.concatenated.specs.Outer.{RowDecoder, RowEncoder, is_in, OuterLaws}
use Rattle.concatenated.specs.Decode.{Reader, marks, symbols, row_off, Level, level, State, going, stopped, answered, refused, decoded_row, settle, onward, run, Reaches, outcome, decoded, rows}
use Rattle.concatenated.proofs.Counting.{changed_total_is_e, erased_total_is_s}
use Rattle.concatenated.proofs.Columns.{row_off_length, symbols_and_marks_length}
use Rattle.concatenated.proofs.Entries.{changed_length, erased_is_not_changed}

stopped_is_not_going : {X : Type 0} (l : ℕ) (cs : List (List ℕ)) (ls : List Level) (n : ℕ) → stopped l ≡ going cs ls n → X
stopped_is_not_going l cs ls n e = let z : ◌≡◌ {A = ℕ} 0 1 = cc in absurd (omega arith)

refused_is_not_answered : {X : Type 0} (l : ℕ) (ls : List Level) (n : ℕ) → refused l ≡ answered ls n → X
refused_is_not_answered l ls n e = let z : ◌≡◌ {A = ℕ} 0 1 = cc in absurd (omega arith)

pub going_inj : (cs ds : List (List ℕ)) (ls ks : List Level) (m n : ℕ) → going cs ls m ≡ going ds ks n → (cs ≡ ds) × (ls ≡ ks)
going_inj cs ds ls ks m n e = (cc, cc)

answered_inj : (ls ks : List Level) (m n : ℕ) → answered ls m ≡ answered ks n → ls ≡ ks
answered_inj ls ks m n e = cc

-- the level that none is
pub no_level : Level
no_level = record { symbols = []; changed = []; erased = []; lows = [] }

-- l is what level i gave, in the decoder's run
pub record LevelOf (S : Shape) (outer : RowDecoder) (read : Reader) (page : List (List ℕ)) (i : ℕ) (l : Level) : Type 0 where
  pub columns : List (List ℕ)
  pub reached : Reaches S outer read page i columns
  pub row_given : decoded_row S outer i (map (read i) columns) ≡ Found l.symbols
  pub is_level : l ≡ level S i (map (read i) columns) l.symbols

module _ (S : Shape) (outer : RowDecoder) (read : Reader) (page : List (List ℕ)) where
  -- what a run to level k has given
  pub record LevelsBelow (k : ℕ) (ls : List Level) : Type 0 where
    pub as_many : length ls ≡ k
    pub each : (i : ℕ) → i < k → (d : Level) → LevelOf S outer read page i (get_or ls i d)

  one_more : (k : ℕ) (ls : List Level) (l : Level) → LevelsBelow k ls → LevelOf S outer read page k l → LevelsBelow (suc k) (ls ++ (l ∷ []))
  one_more k ls l below new = record { as_many = length-append ls (l ∷ []) ∙ omega (arith, below.as_many); each = at }
    where
      at : (i : ℕ) → i < suc k → (d : Level) → LevelOf S outer read page i (get_or (ls ++ (l ∷ [])) i d)
      at i h d =
          ⊎_elim (λ e. let same : i ≡ k = suc_inj e in subst⁻¹ (λ (t : ℕ). LevelOf S outer read page t (get_or (ls ++ (l ∷ [])) t d)) same (subst⁻¹ (LevelOf S outer read page k) (get_or_at ls l [] d k below.as_many) new))
          (λ u. let lower : i < k = le_of_suc-le-suc u in
          subst⁻¹ (LevelOf S outer read page i) (get_or-append ls (l ∷ []) d i (subst⁻¹ (λ (t : ℕ). i < t) below.as_many lower)) (below.each i lower d))
          (eq-or-lt_of_le h)

  abbrev RunGives : ℕ → Type 0
  RunGives k = (ds : List (List ℕ)) (ks : List Level) (m : ℕ) → run S outer read page k ≡ going ds ks m → LevelsBelow k ks

  pub run_gives_levels : (k : ℕ) (cs : List (List ℕ)) (ls : List Level) (n : ℕ) → run S outer read page k ≡ going cs ls n → LevelsBelow k ls
  unfolding run onward settle level
  run_gives_levels zero cs ls n e =
      subst (LevelsBelow 0) (going_inj page cs [] ls 0 n e).1 (record { as_many = refl; each = λ i h d. absurd (omega arith) })
  run_gives_levels (suc k) cs ls n e = before (run_gives_levels k) (run S outer read page k) refl e
    where
      after : RunGives k → (ds : List (List ℕ)) (ks : List Level) (m : ℕ) → run S outer read page k ≡ going ds ks m → (o : OuterAnswer) → decoded_row S outer k (map (read k) ds) ≡ o
          → settle S outer k ds (map (read k) ds) ks m o ≡ going cs ls n → LevelsBelow (suc k) ls
      after below ds ks m at NoneInReach o f = stopped_is_not_going k cs ls n f
      after below ds ks m at (Found r) o f =
          subst (LevelsBelow (suc k)) (going_inj _ cs _ ls _ n f).1
          (one_more k ks (level S k (map (read k) ds) r) (below ds ks m at) (record { columns = ds; reached = (ks, m, at); row_given = o; is_level = refl }))

      before : RunGives k → (x : State) → run S outer read page k ≡ x → onward S outer read k x ≡ going cs ls n → LevelsBelow (suc k) ls
      before below (stopped l) at f = stopped_is_not_going l cs ls n f
      before below (going ds ks m) at f = after below ds ks m at (decoded_row S outer k (map (read k) ds)) refl f

  -- an answer has what each level of the run gave
  pub answer_is_of_levels : (ls : List Level) (n : ℕ) → decoded S outer read page ≡ answered ls n → LevelsBelow (levels S) ls
  unfolding decoded outcome
  answer_is_of_levels ls n e = go (run S outer read page (levels S)) refl e
    where
      go : (x : State) → run S outer read page (levels S) ≡ x → outcome x ≡ answered ls n → LevelsBelow (levels S) ls
      go (stopped l) at f = refused_is_not_answered l ls n f
      go (going cs ks m) at f = subst (LevelsBelow (levels S)) (answered_inj ks ls m n f) (run_gives_levels (levels S) cs ks m at)

-- ---- with the laws of the outer code

module _ (P : Format) (outer : RowDecoder) (encoded : RowEncoder) (Codeword : ℕ → List ℕ → Type 0) (laws : OuterLaws P outer encoded Codeword) (read : Reader)
    (page : List (List ℕ)) (wide : length page ≡ P.columns) where
  abbrev S : Shape
  S = P.shape

  abbrev AllColumns : ℕ → Type 0
  AllColumns k = (cs : List (List ℕ)) → Reaches S outer read page k cs → length cs ≡ P.columns

  -- no column is lost on the way
  pub reached_columns_are_all : (k : ℕ) → k ≤ levels S → (cs : List (List ℕ)) → Reaches S outer read page k cs → length cs ≡ P.columns
  unfolding run onward settle decoded_row
  reached_columns_are_all zero h cs at = ap length (sym (going_inj page cs [] at.0 0 at.1 at.2).0) ∙ wide
  reached_columns_are_all (suc k) h cs at = before (reached_columns_are_all k (omega arith)) (run S outer read page k) refl at.2
    where
      after : AllColumns k → (ds : List (List ℕ)) (ks : List Level) (m : ℕ) → run S outer read page k ≡ going ds ks m → (o : OuterAnswer) → decoded_row S outer k (map (read k) ds) ≡ o
          → settle S outer k ds (map (read k) ds) ks m o ≡ going cs at.0 at.1 → length cs ≡ P.columns
      after all ds ks m to NoneInReach o f = stopped_is_not_going k cs at.0 at.1 f
      after all ds ks m to (Found r) o f =
          let before_all : length ds ≡ P.columns = all ds (ks, m, to) in
          let long = symbols_and_marks_length S read P.columns k ds before_all in
          let code = (laws.given k (symbols S k (map (read k) ds)) (marks (map (read k) ds)) r (omega arith) long.0 long.1 o).0 in
          ap length (sym (going_inj (row_off S k r ds) cs _ at.0 _ at.1 f).0) ∙ row_off_length S k r ds ((laws.word k r (omega arith) code).0 ∙ sym before_all) ∙ before_all

      before : AllColumns k → (x : State) → run S outer read page k ≡ x → onward S outer read k x ≡ going cs at.0 at.1 → length cs ≡ P.columns
      before all (stopped l) to f = stopped_is_not_going l cs at.0 at.1 f
      before all (going ds ks m) to f = after all ds ks m to (decoded_row S outer k (map (read k) ds)) refl f

  -- the symbols and the erased columns that entered a level's row
  abbrev symbols_of : (i : ℕ) {l : Level} → LevelOf S outer read page i l → ℕ → ℕ
  symbols_of i of = Row.symbol (symbols S i (map (read i) of.columns))

  abbrev erased_of : (i : ℕ) {l : Level} → LevelOf S outer read page i l → ℕ → Bool
  erased_of i of = is_in (marks (map (read i) of.columns))

  -- what the outer rule says of a level: its row is the codeword in reach of the symbols and marks that entered, and the totals are its e and s
  pub record OuterRule (i : ℕ) (l : Level) : Type 0 where
    pub comes_from : LevelOf S outer read page i l
    pub is_a_codeword : Codeword i l.symbols
    pub is_in_reach : InReach ℕ_discrete (erased_of i comes_from) P.columns (P.roots i) (symbols_of i comes_from) (Row.symbol l.symbols)
    pub changed_is_e : total l.changed ≡ errors ℕ_discrete (erased_of i comes_from) P.columns (symbols_of i comes_from) (Row.symbol l.symbols)
    pub erased_is_s : total l.erased ≡ count (erased_of i comes_from) P.columns

  -- the sets of a level say of each column whether it is in, and no erased column is a changed one
  pub record LevelSets (l : Level) : Type 0 where
    pub changed_long : length l.changed ≡ P.columns
    pub erased_long : length l.erased ≡ P.columns
    pub apart : (j : ℕ) → is_in l.erased j ≡ true → is_in l.changed j ≡ false

  -- the symbols, the marks and the row of a level are as many as the columns
  module _ (i : ℕ) (l : Level) (h : i < levels S) (of : LevelOf S outer read page i l) where
    entered : (length (symbols S i (map (read i) of.columns)) ≡ P.columns) × (length (marks (map (read i) of.columns)) ≡ P.columns)
    entered = symbols_and_marks_length S read P.columns i of.columns (reached_columns_are_all i (omega arith) of.columns of.reached)

    in_rule : Codeword i l.symbols × InReach ℕ_discrete (erased_of i of) P.columns (P.roots i) (symbols_of i of) (Row.symbol l.symbols)
    unfolding decoded_row
    in_rule = laws.given i (symbols S i (map (read i) of.columns)) (marks (map (read i) of.columns)) l.symbols h entered.0 entered.1 of.row_given

    row_long : length l.symbols ≡ P.columns
    row_long = (laws.word i l.symbols h in_rule.0).0

    level_keeps_the_rule : OuterRule i l
    unfolding level
    level_keeps_the_rule =
        let xs = symbols S i (map (read i) of.columns) in
        let ms = marks (map (read i) of.columns) in
        let c = l.symbols in
        record {
          comes_from = of;
          is_a_codeword = in_rule.0;
          is_in_reach = in_rule.1;
          changed_is_e =
              ap (λ (k : Level). total k.changed) of.is_level ∙ changed_total_is_e xs ms c (entered.1 ∙ sym entered.0) (row_long ∙ sym entered.0)
              ∙ ap (λ (n : ℕ). errors ℕ_discrete (is_in ms) n (Row.symbol xs) (Row.symbol c)) entered.0;
          erased_is_s = ap (λ (k : Level). total k.erased) of.is_level ∙ erased_total_is_s ms ∙ ap (count (is_in ms)) entered.1;
        }

    level_has_sets : LevelSets l
    unfolding level
    level_has_sets =
        let xs = symbols S i (map (read i) of.columns) in
        let ms = marks (map (read i) of.columns) in
        subst⁻¹ LevelSets of.is_level
        (record {
          changed_long = changed_length xs ms l.symbols (entered.1 ∙ sym entered.0) (row_long ∙ sym entered.0) ∙ entered.0;
          erased_long = entered.1;
          apart = erased_is_not_changed xs ms l.symbols;
        })

  -- at each level of an answered page the number of changed columns is e, and of erased ones s
  pub changed_and_erased_are_e_and_s : (ls : List Level) (n : ℕ) → decoded S outer read page ≡ answered ls n → (i : ℕ) → i < levels S → (d : Level) → OuterRule i (get_or ls i d)
  changed_and_erased_are_e_and_s ls n e i h d = level_keeps_the_rule i (get_or ls i d) h ((answer_is_of_levels S outer read page ls n e).each i h d)

  pub sets_of_levels : (ls : List Level) (n : ℕ) → decoded S outer read page ≡ answered ls n → (i : ℕ) → i < levels S → (d : Level) → LevelSets (get_or ls i d)
  sets_of_levels ls n e i h d = level_has_sets i (get_or ls i d) h ((answer_is_of_levels S outer read page ls n e).each i h d)

  -- the rows of an answered page: one a level, each a codeword
  module _ (ls : List Level) (n : ℕ) (e : decoded S outer read page ≡ answered ls n) where
    pub as_many_rows : length (rows ls) ≡ levels S
    unfolding rows
    as_many_rows = length-map ls (λ l. l.symbols) ∙ (answer_is_of_levels S outer read page ls n e).as_many

    pub rows_are_codewords : (i : ℕ) → i < levels S → Codeword i (get_or (rows ls) i [])
    unfolding rows
    rows_are_codewords i h =
        let inside : i < length ls = omega (arith, (answer_is_of_levels S outer read page ls n e).as_many, h) in
        subst⁻¹ (Codeword i) (map_at (λ l. l.symbols) ls i no_level [] inside) (changed_and_erased_are_e_and_s ls n e i h no_level).is_a_codeword
