-- Page decoding with a number of places on the stack of each search: on pages where no search pushed a path out it is the supercode decoder's. Assumes nothing.
use mathlib.Core.Bool.{Bool, false}
use mathlib.Core.List.{List, [], ◌∷◌, map}
use mathlib.Core.Path.{◌≡◌, refl, sym, ap, ap₂, ◌∙◌, subst⁻¹}
use Prim.Native.Nat.{ℕ, zero, suc, ◌≤◌, ◌<◌}
use native.Mathlib.Omega.{arith}
use native.Mathlib.Decide.{dec_le, ℕ_discrete}
use Rattle.column.specs.Shape.{Shape, levels, generator, short}
use Rattle.paths.specs.Search.{SearchResult, answer}
use Rattle.paths.specs.Search
use Rattle.paths.proofs.Booleans.{not_both, or_neither}
use Rattle.trellis.specs.Values.{Values, level_values}
use Rattle.trellis.specs.Trellis.{WordFound}
use Rattle.trellis.specs.Demand.{whole, supercode, supercode_trellis}
use Rattle.trellis.specs.TwoWords.{off}
use Rattle.trellis.proofs.Demand.{Searchable, trellis_sound}
use Rattle.trellis.proofs.Short.{searchable}
use Rattle.trellis.proofs.Bounded.{none_pushed_out_is_the_search, emptied_has_pushed_out, spent_within_the_limit, answer_within_is_codeword}
use Rattle.concatenated.specs.Lists.{All}
use Rattle.concatenated.specs.Outer.{RowDecoder}
use Rattle.concatenated.specs.Decode
use Rattle.concatenated.specs.Decode.{Reading, found, mark, Reader, State, going, stopped, decoded_row, settle, onward, run, outcome, decoded}
use Rattle.concatenated.specs.Readers.{reading_of, reader_of, dead_ahead, Agree, NoneSpent, sum_below}
use Rattle.concatenated.specs.Chip.{reading_within, column_within, reader_within, some_column, some_of, some_below, pushed_out, chip_places, chip_reader}
use Rattle.concatenated.proofs.Readings.{ReadsWords, ShortReadsWords}
use Rattle.concatenated.proofs.DecodersAgree.{decoders_agree}

module _ (places : ℕ) (S : Shape) (vs : ℕ → Values) (limit : ℕ) where
  abbrev within : Reader
  within = reader_within places S vs limit

  abbrev by_supercode : Reader
  by_supercode = reader_of off supercode S vs limit

  abbrev pushes : ℕ → List ℕ → Bool
  pushes i c = (column_within places S vs limit i c).any_pushed_out

  -- ---- a column

  module _ (i : ℕ) (given : Searchable S i) where
    -- what is found is a word of the level, and no count is above the limit
    pub reads_words_within : ReadsWords S vs limit within i
    unfolding reader_within reading_within
    reads_words_within = record {
      of_word = λ c x n e.
          let r = answer_within_is_codeword S i given (vs i) c supercode places limit x n (answered (column_within places S vs limit i c).result x n e) in
          (r.0, r.2, sym r.1, r.4);
      spent_at = λ c n e. spent_within_the_limit (supercode_trellis S (vs i) c i) (trellis_sound S i given (vs i) c supercode) places limit n (ended (column_within places S vs limit i c).result n e);
    }
      where
        answered : (o : SearchResult WordFound) (x : WordFound) (n : ℕ) → reading_within o ≡ found x n → o ≡ answer x n
        answered (answer y m) x n e = ap₂ (λ (z : WordFound) (k : ℕ). answer z k) (cc e) (cc e)
        answered (Search.spent m) x n e = let z : ◌≡◌ {A = ℕ} 0 1 = cc e in absurd (omega arith)

        ended : (o : SearchResult WordFound) (n : ℕ) → reading_within o ≡ Decode.spent n → o ≡ Search.spent n
        ended (answer y m) n e = let z : ◌≡◌ {A = ℕ} 0 1 = cc e in absurd (omega arith)
        ended (Search.spent m) n e = let same : m ≡ n = cc e in ap (λ (k : ℕ). Search.spent k) same

    -- where none was pushed out it is read as by the supercode search
    column_read : (c : List ℕ) → pushes i c ≡ false → within i c ≡ by_supercode i c
    unfolding reader_within reader_of reading_within reading_of
    column_read c e =
        exact (column_within places S vs limit i c).result refl
        ∙ ap (reading_of limit) (none_pushed_out_is_the_search (supercode_trellis S (vs i) c i) (trellis_sound S i given (vs i) c supercode) places limit e)
      where
        spent_all : (n : ℕ) → (column_within places S vs limit i c).result ≡ Search.spent n → Dec (limit ≤ n) → n ≡ limit
        spent_all n k (yes h) = omega (arith, spent_within_the_limit (supercode_trellis S (vs i) c i) (trellis_sound S i given (vs i) c supercode) places limit n k)
        spent_all n k (no h) =
            absurd (not_both (pushes i c) e (emptied_has_pushed_out (supercode_trellis S (vs i) c i) (trellis_sound S i given (vs i) c supercode) places limit n k (omega arith)))

        exact : (o : SearchResult WordFound) → (column_within places S vs limit i c).result ≡ o → reading_within (column_within places S vs limit i c).result ≡ reading_of limit (column_within places S vs limit i c).result
        exact (answer w n) k = ap reading_within k ∙ sym (ap (reading_of limit) k)
        exact (Search.spent n) k = ap reading_within k ∙ ap (λ (m : ℕ). Decode.spent m) (spent_all n k (dec_le limit n)) ∙ sym (ap (reading_of limit) k)

    columns_read : (cs : List (List ℕ)) → some_column (pushes i) cs ≡ false → map (within i) cs ≡ map (by_supercode i) cs
    unfolding some_column
    columns_read [] e = refl
    columns_read (c ∷ cs) e = let k = or_neither (pushes i c) (some_column (pushes i) cs) e in ap₂ ◌∷◌ (column_read c k.0) (columns_read cs k.1)

    -- so the same columns are unread
    read_alike : (cs : List (List ℕ)) → some_column (pushes i) cs ≡ false → All (λ c. mark (within i c) ≡ false) cs → All (λ c. mark (by_supercode i c) ≡ false) cs
    unfolding some_column
    read_alike [] e a = tt
    read_alike (c ∷ cs) e a = let k = or_neither (pushes i c) (some_column (pushes i) cs) e in (sym (ap mark (column_read c k.0)) ∙ a.0, read_alike cs k.1 a.1)

  -- ---- a page

  module _ (given : (i : ℕ) → i < levels S → Searchable S i) (outer : RowDecoder) (page : List (List ℕ)) where
    abbrev pushed_below : ℕ → Bool
    pushed_below = some_below S outer within page pushes

    level_read : (i : ℕ) → i < levels S → (x : State) → some_of (pushes i) x ≡ false → onward S outer within i x ≡ onward S outer by_supercode i x
    unfolding some_of onward
    level_read i l (stopped k) e = refl
    level_read i l (going cs ls n) e = ap (λ (rs : List Reading). settle S outer i cs rs ls n (decoded_row S outer i rs)) (columns_read i (given i l) cs e)

    -- none below a level and none at it
    none_at : (i : ℕ) → pushed_below (suc i) ≡ false → (pushed_below i ≡ false) × (some_of (pushes i) (run S outer within page i) ≡ false)
    unfolding some_below
    none_at i e = or_neither (pushed_below i) (some_of (pushes i) (run S outer within page i)) e

    runs_are_one : (i : ℕ) → i ≤ levels S → pushed_below i ≡ false → run S outer within page i ≡ run S outer by_supercode page i
    unfolding run
    runs_are_one zero l e = refl
    runs_are_one (suc i) l e =
        let k = none_at i e in
        level_read i l (run S outer within page i) k.1 ∙ ap (onward S outer by_supercode i) (runs_are_one i (omega arith) k.0)

    module _ (none : pushed_out places S vs limit outer page ≡ false) where
      -- 02: on pages where none was pushed out the answer is that of the supercode decoder, in every field
      pub none_pushed_out_is_the_decoding : decoded S outer within page ≡ decoded S outer by_supercode page
      unfolding decoded
      none_pushed_out_is_the_decoding = ap outcome (runs_are_one (levels S) (omega arith) none)

      none_below : (i j : ℕ) → i ≤ j → pushed_below j ≡ false → pushed_below i ≡ false
      none_below i zero l e = let z : i ≡ 0 = omega arith in ap pushed_below z ∙ e
      none_below i (suc j) l e = go (ℕ_discrete i (suc j)) (none_below i j)
        where
          go : Dec (i ≡ suc j) → (i ≤ j → pushed_below j ≡ false → pushed_below i ≡ false) → pushed_below i ≡ false
          go (yes q) ih = ap pushed_below q ∙ e
          go (no q) ih = ih (omega arith) (none_at j e).0

      -- the premise on spent columns, said of this decoder, is that of the supercode decoder
      pub none_spent_either : NoneSpent S outer within page → NoneSpent S outer by_supercode page
      unfolding some_of
      none_spent_either h i l cs at some_level =
          let k = none_at i (none_below (suc i) (levels S) l none) in
          let there : run S outer within page i ≡ going cs at.0 at.1 = runs_are_one i (omega arith) k.0 ∙ at.2 in
          read_alike i (given i l) cs (sym (ap (some_of (pushes i)) there) ∙ k.1) (h i l cs (at.0, at.1, there) some_level)

      -- 02: "Users of the chip model get demand 3's agreement of the two decoders, under its own premise on spent columns, only on such pages."
      pub none_pushed_out_agrees_with_whole : (some_symbol : 0 < S.symbol) (one_code : (S.supercodes 0).left.generator ≡ generator S 0) → NoneSpent S outer within page
          → Agree (sum_below S outer by_supercode page (dead_ahead off S vs limit) (levels S)) (decoded S outer (reader_of off whole S vs limit) page) (decoded S outer within page)
      none_pushed_out_agrees_with_whole some_symbol one_code h =
          subst⁻¹ (Agree (sum_below S outer by_supercode page (dead_ahead off S vs limit) (levels S)) (decoded S outer (reader_of off whole S vs limit) page)) none_pushed_out_is_the_decoding
          (decoders_agree S given some_symbol one_code outer off vs limit page (none_spent_either h))

-- ---- the short page

pub chip_reads_words : (limit : ℕ) → ShortReadsWords limit (chip_reader limit)
chip_reads_words limit i h = reads_words_within chip_places short level_values limit i (searchable i h)
