-- 02, point 1: the two readers with list of two, and what both readers have in common with it and without. Assumes nothing.
use mathlib.Core.Bool.{Bool, true, false, cond, not}
use mathlib.Core.List.{List}
use mathlib.Core.Logic.{◌↔◌}
use mathlib.Core.Path.{◌≡◌, refl, sym, ap, ◌∙◌, subst⁻¹}
use Prim.Native.Nat.{ℕ, ◌≤◌, ◌<◌}
use lib.Dec.{leb}
use lib.IntN.{ℤ}
use lib.ListN.{length}
use lib.Signed.{lt_z}
use borrow.Author.Tests.{leb-false, lt-leb, not-true}
use Rattle.column.specs.Shape.{Shape, Word, generator, level_code}
use Rattle.paths.specs.Paths.{Path}
use Rattle.paths.specs.Search.{SearchResult, answer}
use Rattle.paths.specs.Search
use Rattle.paths.specs.Keys.{with_key}
use Rattle.paths.specs.Tree.{number as rank}
use Rattle.paths.specs.Dead.{dead_paths_ahead}
use Rattle.paths.specs.TwoWords.{Ending, unsearched, first_spent, one_word, second_spent, found_two, returned, dead_of_ending, Differ}
use Rattle.trellis.specs.Values.{Values}
use Rattle.trellis.specs.Order.{number, sum}
use Rattle.trellis.specs.Trellis.{WordFound, found_word}
use Rattle.trellis.specs.Demand.{Search as Kind, whole, supercode, trellis, whole_trellis, supercode_trellis, Codeword, AheadOfAll}
use Rattle.trellis.specs.TwoWords.{Choice, off, on, hard_path, two_words, searched_two, AheadOfAllBut}
use Rattle.trellis.proofs.Demand.{Searchable, no_dead_ahead}
use Rattle.trellis.proofs.TwoWords.{hard_reading_in_the_code, two_words_end_by_the_numbers, hard_reading_has_no_dead_path, dead_paths_ahead_of_the_first, dead_paths_ahead_of_the_second, supercode_ending_is_whole_ending, endings_are_one}
use Rattle.concatenated.specs.SoftPage.{hard_reading}
use native.Mathlib.Omega.{arith}
use Rattle.concatenated.specs.Decode.{Reading, found, spent, mark}
use Rattle.concatenated.specs.Readers.{reading_of, reader_of, dead_ahead, Apart, Unended}
use Rattle.concatenated.proofs.HardReading.{reading_is_a_codeword}
use Rattle.concatenated.proofs.Searches as Searches

readings_are_apart : (limit d : ℕ) (word : Path → WordFound) (a b : SearchResult Path) → Differ d a b → Apart d (reading_of limit (with_key word a)) (reading_of limit (with_key word b))
unfolding reading_of with_key
readings_are_apart limit d word (answer w m) (answer v n) h = (ap word h.0, h.1)
readings_are_apart limit d word (answer w m) (Search.spent n) h = absurd h
readings_are_apart limit d word (Search.spent m) (answer v n) h = absurd h
readings_are_apart limit d word (Search.spent m) (Search.spent n) h = absurd h

none_dead : (dead : Path → ℕ) → ((w : Path) → dead w ≡ 0) → (e : Ending Path) → dead_of_ending dead e ≡ 0
unfolding dead_of_ending
none_dead dead none (unsearched w) = refl
none_dead dead none (first_spent c) = refl
none_dead dead none (one_word w c) = none w
none_dead dead none (second_spent w) = refl
none_dead dead none (found_two w v c) = none v

-- a reading is itself, with no path more
apart_by_none : (r : Reading) → Apart 0 r r
apart_by_none (found w n) = (refl, omega arith)
apart_by_none (spent n) = omega arith

module _ (S : Shape) (i : ℕ) (given : Searchable S i) (some_symbol : 0 < S.symbol) (vs : ℕ → Values) (limit : ℕ) (c : List ℕ) where
  -- where the limit ended no supercode search of the column
  pub unended_searches_differ_by_the_dead_ahead : (choice : Choice) → Unended choice S vs limit i c
      → Apart (dead_ahead choice S vs limit i c) (reader_of choice whole S vs limit i c) (reader_of choice supercode S vs limit i c)
  unfolding reader_of dead_ahead searched_two
  unended_searches_differ_by_the_dead_ahead off unended = Searches.searches_differ_by_the_dead_ahead S i given vs limit c unended
  unended_searches_differ_by_the_dead_ahead (on threshold) unended = readings_are_apart limit _ _ _ _ (supercode_ending_is_whole_ending S i given some_symbol (vs i) c threshold limit unended)

  -- 01: "At level 0 the two searches are one and no path is dead": where one of the supercodes is the level's code, whatever the limit ended
  module _ (one_code : (S.supercodes i).left.generator ≡ generator S i) where
    pub no_path_is_dead : (choice : Choice) → dead_ahead choice S vs limit i c ≡ 0
    unfolding dead_ahead
    no_path_is_dead off = Searches.no_path_is_dead S i given vs limit c one_code
    no_path_is_dead (on threshold) =
        none_dead (dead_paths_ahead (whole_trellis S (vs i) c i) (supercode_trellis S (vs i) c i)) (no_dead_ahead S i given (vs i) c one_code) (two_words supercode S (vs i) threshold limit c i)

    the_searches_are_one : (choice : Choice) → reader_of choice whole S vs limit i c ≡ reader_of choice supercode S vs limit i c
    unfolding reader_of searched_two
    the_searches_are_one off = Searches.the_searches_are_one S i given vs limit c one_code
    the_searches_are_one (on threshold) =
        ap (λ (e : Ending Path). reading_of limit (with_key (found_word (sum (vs i) c)) (returned (sum (vs i) c) limit e))) (endings_are_one S i given some_symbol (vs i) c threshold limit one_code)

    pub one_code_is_apart_by_none : (choice : Choice) → Apart (dead_ahead choice S vs limit i c) (reader_of choice whole S vs limit i c) (reader_of choice supercode S vs limit i c)
    one_code_is_apart_by_none choice =
        subst⁻¹ (λ (r : Reading). Apart (dead_ahead choice S vs limit i c) r (reader_of choice supercode S vs limit i c)) (the_searches_are_one choice)
        (subst⁻¹ (λ (d : ℕ). Apart d (reader_of choice supercode S vs limit i c) (reader_of choice supercode S vs limit i c)) (no_path_is_dead choice)
        (apart_by_none (reader_of choice supercode S vs limit i c)))

  -- 02: "A hard reading that is in the code is returned with 0 steps.": as it reads, with its low point, and no path is dead
  pub hard_reading_is_found : (threshold : ℤ) (kind : Kind) → length c ≡ S.bits → Word S.bits (level_code S i) (hard_reading c)
      → (reader_of (on threshold) kind S vs limit i c ≡ found (found_word (sum (vs i) c) (hard_path c S.bits)) 0) × (number (hard_path c S.bits) ≡ hard_reading c) × (dead_ahead (on threshold) S vs limit i c ≡ 0)
  unfolding reader_of dead_ahead searched_two reading_of returned with_key
  hard_reading_is_found threshold kind long word =
      let code = reading_is_a_codeword S i c long word in (
        ap (λ (e : Ending Path). reading_of limit (with_key (found_word (sum (vs i) c)) (returned (sum (vs i) c) limit e))) (hard_reading_in_the_code S i given (vs i) c kind threshold limit code.1),
        code.0,
        (hard_reading_has_no_dead_path S i given some_symbol (vs i) c threshold limit code.1).1,
      )

  -- a column that is searched: w is the first word and v the second
  module _ (w v : Path) (best : AheadOfAll S (vs i) c i w) (second : AheadOfAllBut S (vs i) c i w v) (threshold : ℤ) (searched : Codeword S i (hard_path c S.bits) → ⊥) where
    mark_of_ending : (kind : Kind) (m n : ℕ) (a b d : Bool)
        → mark (reading_of limit (with_key (found_word (sum (vs i) c)) (returned (sum (vs i) c) limit (cond a (cond b (cond d (found_two w v n) (second_spent w)) (one_word w m)) (first_spent limit))))) ≡ not a
    unfolding mark reading_of with_key returned
    mark_of_ending kind m n true true true = refl
    mark_of_ending kind m n true true false = refl
    mark_of_ending kind m n true false d = refl
    mark_of_ending kind m n false b d = refl

    -- it is erased exactly where the first search is spent, as without list of two
    pub searched_column_is_erased_exactly_above_the_limit : (kind : Kind) → (mark (reader_of (on threshold) kind S vs limit i c) ≡ true) ↔ (limit < rank (trellis kind S (vs i) c i) w)
    unfolding reader_of searched_two
    searched_column_is_erased_exactly_above_the_limit kind =
        let t = trellis kind S (vs i) c i in
        let is = ap (λ (e : Ending Path). mark (reading_of limit (with_key (found_word (sum (vs i) c)) (returned (sum (vs i) c) limit e)))) (two_words_end_by_the_numbers S i given some_symbol (vs i) c kind w v best second threshold limit searched)
        ∙ mark_of_ending kind (rank t w) (rank t v) (leb (rank t w) limit) (lt_z (sum (vs i) c w) threshold) (leb (rank t v) limit) in
        (λ e. leb-false (rank t w) limit (not-true (leb (rank t w) limit) (sym is ∙ e)), λ l. is ∙ ap not (lt-leb (rank t w) limit l))

    -- the dead paths of such a column: ahead of the first word where no second was sought, of the second where one was
    module _ (reached : rank (supercode_trellis S (vs i) c i) w ≤ limit) where
      pub dead_paths_are_ahead_of_the_first : lt_z (sum (vs i) c w) threshold ≡ false → dead_ahead (on threshold) S vs limit i c ≡ dead_paths_ahead (whole_trellis S (vs i) c i) (supercode_trellis S (vs i) c i) w
      unfolding dead_ahead
      dead_paths_are_ahead_of_the_first enough = (dead_paths_ahead_of_the_first S i given some_symbol (vs i) c w v best second threshold limit searched reached enough).1

      pub dead_paths_are_ahead_of_the_second : lt_z (sum (vs i) c w) threshold ≡ true → rank (supercode_trellis S (vs i) c i) v ≤ limit
          → dead_ahead (on threshold) S vs limit i c ≡ dead_paths_ahead (whole_trellis S (vs i) c i) (supercode_trellis S (vs i) c i) v
      unfolding dead_ahead
      dead_paths_are_ahead_of_the_second below within = (dead_paths_ahead_of_the_second S i given some_symbol (vs i) c w v best second threshold limit searched reached below within).1
