-- 02, point 1, for columns: the second word, the count of both, and when the limit ends the second search; in the whole and the supercode search alike. Assumes nothing.
use mathlib.Core.Bool.{Bool, true, false, cond, ◌&&◌}
use mathlib.Core.List.{List}
use mathlib.Core.Logic.{◌↔◌}
use mathlib.Core.Path.{◌≡◌, refl, sym, ap, ◌∙◌, subst⁻¹}
use Prim.Native.Nat.{ℕ, ◌≤◌, ◌<◌}
use native.Mathlib.Decide.{dec_le}
use native.Mathlib.Omega.{arith}
use lib.Dec.{leb}
use lib.IntN.{ℤ}
use lib.Signed.{lt_z}
use borrow.Author.Tests.{le-leb, lt-leb}
use Rattle.column.specs.Shape.{Shape, Word, generator, level_code}
use Rattle.column.proofs.Levels.{another_word}
use Rattle.paths.specs.Paths.{Path}
use Rattle.paths.specs.Tree.{Tree, is_full, Full, Winner, number as rank}
use Rattle.paths.specs.Search.{SearchResult, answer, spent}
use Rattle.paths.specs.Keys.{with_key}
use Rattle.paths.specs.Dead.{dead_paths_ahead}
use Rattle.paths.specs.TwoWords.{unsearched, first_spent, one_word, second_spent, found_two, returned, ended_by_limit, dead_of_ending, Differ, list_of_two, Second, ending_by_numbers}
use Rattle.paths.proofs.Booleans.{is_false, not_both}
use Rattle.paths.proofs.Run.{answer_is_not_spent}
use Rattle.paths.proofs.TwoWords as Tree
use Rattle.trellis.specs.Values.{Values}
use Rattle.trellis.specs.Order.{number, sum}
use Rattle.trellis.specs.Trellis.{WordFound, found_word}
use Rattle.trellis.specs.Demand.{Search, whole, supercode, trellis, whole_trellis, supercode_trellis, Codeword, AheadOfAll}
use Rattle.trellis.specs.TwoWords.{hard_path, two_words, searched_two, AheadOfAllBut}
use Rattle.trellis.proofs.Order.{number_has_a_path}
use Rattle.trellis.proofs.Sound.{whole_within_supercode}
use Rattle.trellis.proofs.Demand.{Searchable, trellis_sound, full_is_codeword, winner_is_ahead_of_all, no_dead_ahead}

module _ (S : Shape) (i : ℕ) (given : Searchable S i) (vs : Values) (soft : List ℕ) where
  -- a hard reading that is in the code
  pub hard_reading_in_the_code : (s : Search) (threshold : ℤ) (limit : ℕ) → Codeword S i (hard_path soft S.bits) → two_words s S vs threshold limit soft i ≡ unsearched (hard_path soft S.bits)
  unfolding two_words
  hard_reading_in_the_code s threshold limit c =
      Tree.hard_reading_is_unsearched (trellis s S vs soft i) (trellis_sound S i given vs soft s) threshold (hard_path soft S.bits) limit
      ((full_is_codeword S i given vs soft s (hard_path soft S.bits)).1 c)

  -- what is returned is a codeword, with its low point, and its count is within the limit
  pub returned_is_a_word : (s : Search) (threshold : ℤ) (limit : ℕ) (x : WordFound) (n : ℕ) → searched_two s S vs threshold limit soft i ≡ answer x n
      → (w : Path) × Codeword S i w × (x ≡ found_word (sum vs soft) w) × (n ≤ limit)
  unfolding searched_two two_words with_key
  returned_is_a_word s threshold limit x n e = go (returned (sum vs soft) limit (list_of_two t threshold hard limit)) refl e
    where
      t : Tree
      t = trellis s S vs soft i

      hard : Path
      hard = hard_path soft S.bits

      go : (o : SearchResult Path) → returned (sum vs soft) limit (list_of_two t threshold hard limit) ≡ o → with_key (found_word (sum vs soft)) o ≡ answer x n
          → (w : Path) × Codeword S i w × (x ≡ found_word (sum vs soft) w) × (n ≤ limit)
      go (spent c) k e = answer_is_not_spent x n c (sym e)
      go (answer w c) k e =
          let r = Tree.returned_is_of_a_full_path t (trellis_sound S i given vs soft s) threshold hard limit w c k in
          let counts : c ≡ n = cc e in
          (w, (full_is_codeword S i given vs soft s w).0 r.0, cc e, omega (arith, r.1, counts))

module _ (S : Shape) (i : ℕ) (given : Searchable S i) (some_symbol : 0 < S.symbol) (vs : Values) (soft : List ℕ) where
  -- ---- (1) the second word

  -- no codeword is the only one of its level
  pub another_codeword : (w : Path) → (u : Path) × Codeword S i u × (u ≡ w → ⊥)
  another_codeword w =
      let x = another_word S given.sound i (number w) given.level some_symbol in
      let p = number_has_a_path S.bits x.0 x.1.0 in
      (p.0, record { long = p.1; word = subst⁻¹ (Word S.bits (level_code S i)) p.2 x.1 }, λ e. x.2 (sym p.2 ∙ ap number e))

  second_is_ahead_of_all_but_the_first : (s : Search) (w v : Path) → Second (trellis s S vs soft i) w v ↔ AheadOfAllBut S vs soft i w v
  second_is_ahead_of_all_but_the_first s w v = (
    λ (h : Second (trellis s S vs soft i) w v). record {
      codeword = (full_is_codeword S i given vs soft s v).0 h.full;
      other = h.other;
      ahead_of = λ u c. h.ahead_of u ((full_is_codeword S i given vs soft s u).1 c);
    },
    λ (h : AheadOfAllBut S vs soft i w v). record {
      full = (full_is_codeword S i given vs soft s v).1 h.codeword;
      other = h.other;
      ahead_of = λ u f. h.ahead_of u ((full_is_codeword S i given vs soft s u).0 f);
    },
  )

  -- 02: "the second word is the codeword ahead of all others but the first": there is one, the same for both searches and every limit
  pub one_codeword_is_second : (w : Path) → AheadOfAll S vs soft i w → (v : Path) × AheadOfAllBut S vs soft i w v × ((u : Path) → AheadOfAllBut S vs soft i w u → u ≡ v)
  one_codeword_is_second w best =
      let t = trellis whole S vs soft i in
      let sound = trellis_sound S i given vs soft whole in
      let win = (winner_is_ahead_of_all S i given vs soft whole w).1 best in
      let other = another_codeword w in
      let second = Tree.there_is_a_second t sound w win other.0 ((full_is_codeword S i given vs soft whole other.0).1 other.1) other.2 in (
        second.0,
        (second_is_ahead_of_all_but_the_first whole w second.0).0 second.1,
        λ u h. Tree.second_is_unique t sound w win u second.0 ((second_is_ahead_of_all_but_the_first whole w u).1 h) second.1,
      )

  -- ---- (2) how the search ends: `rank` counts the trellis's paths that are prefixes of a word or ahead of it (`rank_counts`)

  module _ (s : Search) (w v : Path) (best : AheadOfAll S vs soft i w) (second : AheadOfAllBut S vs soft i w v) (threshold : ℤ) (limit : ℕ) (searched : Codeword S i (hard_path soft S.bits) → ⊥) where
    abbrev t : Tree
    t = trellis s S vs soft i

    abbrev hard : Path
    hard = hard_path soft S.bits

    pub two_words_end_by_the_numbers : two_words s S vs threshold limit soft i
        ≡ cond (leb (rank t w) limit) (cond (lt_z (sum vs soft w) threshold) (cond (leb (rank t v) limit) (found_two w v (rank t v)) (second_spent w)) (one_word w (rank t w))) (first_spent limit)
    unfolding two_words ending_by_numbers
    two_words_end_by_the_numbers =
        Tree.ends_by_the_numbers t (trellis_sound S i given vs soft s) w ((winner_is_ahead_of_all S i given vs soft s w).1 best) v
        ((second_is_ahead_of_all_but_the_first s w v).1 second) threshold hard limit
        ∙ ap (λ (b : Bool). cond b (unsearched hard) (cond (leb (rank t w) limit) (cond (lt_z (sum vs soft w) threshold) (cond (leb (rank t v) limit) (found_two w v (rank t v)) (second_spent w)) (one_word w (rank t w))) (first_spent limit)))
        (is_false (is_full t hard && t.exists hard) (λ e. searched ((full_is_codeword S i given vs soft s hard).0 ((Tree.in_code_is_full t (trellis_sound S i given vs soft s) hard).0 e))))

    -- the first search is spent as without list of two
    pub first_search_is_spent : limit < rank t w → two_words s S vs threshold limit soft i ≡ first_spent limit
    first_search_is_spent l = two_words_end_by_the_numbers ∙ rw (lt-leb (rank t w) limit l) refl

    module _ (found : rank t w ≤ limit) where
      -- a first word whose sum is not below the threshold stands
      pub first_word_stands : lt_z (sum vs soft w) threshold ≡ false → two_words s S vs threshold limit soft i ≡ one_word w (rank t w)
      first_word_stands e = two_words_end_by_the_numbers ∙ rw (le-leb (rank t w) limit found, e) refl

      module _ (low : lt_z (sum vs soft w) threshold ≡ true) where
        -- 02: "the count of both is the number of trellis paths that are prefixes of the second word or ahead of it"
        pub second_word_is_found : rank t v ≤ limit → two_words s S vs threshold limit soft i ≡ found_two w v (rank t v)
        second_word_is_found l = two_words_end_by_the_numbers ∙ rw (le-leb (rank t w) limit found, low, le-leb (rank t v) limit l) refl

        pub second_search_is_ended : limit < rank t v → two_words s S vs threshold limit soft i ≡ second_spent w
        second_search_is_ended l = two_words_end_by_the_numbers ∙ rw (le-leb (rank t w) limit found, low, lt-leb (rank t v) limit l) refl

        -- 02: "the limit ends the second search exactly when that number would be above it"
        pub limit_ends_the_second_search_exactly_above : (two_words s S vs threshold limit soft i ≡ second_spent w) ↔ (limit < rank t v)
        unfolding ended_by_limit
        limit_ends_the_second_search_exactly_above = (λ e. go e (dec_le (rank t v) limit), second_search_is_ended)
          where
            go : two_words s S vs threshold limit soft i ≡ second_spent w → Dec (rank t v ≤ limit) → limit < rank t v
            go e (yes l) = absurd (not_both true (ap ended_by_limit (sym e ∙ second_word_is_found l)) refl)
            go e (no l) = omega arith

  -- ---- (3) the two searches

  -- the dead paths of how the supercode search ended
  abbrev dead_paths : ℤ → ℕ → ℕ
  dead_paths threshold limit = dead_of_ending (dead_paths_ahead (whole_trellis S vs soft i) (supercode_trellis S vs soft i)) (two_words supercode S vs threshold limit soft i)

  -- "a hard reading returned unsearched has none"
  pub hard_reading_has_no_dead_path : (threshold : ℤ) (limit : ℕ) → Codeword S i (hard_path soft S.bits) → (ended_by_limit (two_words supercode S vs threshold limit soft i) ≡ false) × (dead_paths threshold limit ≡ 0)
  unfolding dead_of_ending ended_by_limit
  hard_reading_has_no_dead_path threshold limit code =
      let e = hard_reading_in_the_code S i given vs soft supercode threshold limit code in
      (ap ended_by_limit e, ap (dead_of_ending (dead_paths_ahead (whole_trellis S vs soft i) (supercode_trellis S vs soft i))) e)

  module _ (w v : Path) (best : AheadOfAll S vs soft i w) (second : AheadOfAllBut S vs soft i w v) (threshold : ℤ) (limit : ℕ) (searched : Codeword S i (hard_path soft S.bits) → ⊥)
      (found : rank (supercode_trellis S vs soft i) w ≤ limit) where
    -- those ahead of the first word, where no second was sought
    pub dead_paths_ahead_of_the_first : lt_z (sum vs soft w) threshold ≡ false
        → (ended_by_limit (two_words supercode S vs threshold limit soft i) ≡ false) × (dead_paths threshold limit ≡ dead_paths_ahead (whole_trellis S vs soft i) (supercode_trellis S vs soft i) w)
    unfolding dead_of_ending ended_by_limit
    dead_paths_ahead_of_the_first enough =
        let e = first_word_stands supercode w v best second threshold limit searched found enough in
        (ap ended_by_limit e, ap (dead_of_ending (dead_paths_ahead (whole_trellis S vs soft i) (supercode_trellis S vs soft i))) e)

    -- "where a second word was sought, the dead paths by which the counts differ are those ahead of the second word"
    pub dead_paths_ahead_of_the_second : lt_z (sum vs soft w) threshold ≡ true → rank (supercode_trellis S vs soft i) v ≤ limit
        → (ended_by_limit (two_words supercode S vs threshold limit soft i) ≡ false) × (dead_paths threshold limit ≡ dead_paths_ahead (whole_trellis S vs soft i) (supercode_trellis S vs soft i) v)
    unfolding dead_of_ending ended_by_limit
    dead_paths_ahead_of_the_second below within =
        let e = second_word_is_found supercode w v best second threshold limit searched found below within in
        (ap ended_by_limit e, ap (dead_of_ending (dead_paths_ahead (whole_trellis S vs soft i) (supercode_trellis S vs soft i))) e)

  another_full : (w : Path) → Winner (supercode_trellis S vs soft i) w → (u : Path) × Full (supercode_trellis S vs soft i) u × (u ≡ w → ⊥)
  another_full w win = let u = another_codeword w in (u.0, (full_is_codeword S i given vs soft supercode u.0).1 u.1, u.2)

  module _ (threshold : ℤ) (limit : ℕ) where
    -- where the limit ended neither supercode search, the whole search returns the same word, and its count is smaller by the dead paths ahead
    pub supercode_ending_is_whole_ending : ended_by_limit (two_words supercode S vs threshold limit soft i) ≡ false
        → Differ (dead_of_ending (dead_paths_ahead (whole_trellis S vs soft i) (supercode_trellis S vs soft i)) (two_words supercode S vs threshold limit soft i))
        (returned (sum vs soft) limit (two_words whole S vs threshold limit soft i)) (returned (sum vs soft) limit (two_words supercode S vs threshold limit soft i))
    unfolding two_words
    supercode_ending_is_whole_ending =
        Tree.larger_ending_is_the_smaller_ending (whole_trellis S vs soft i) (supercode_trellis S vs soft i) (trellis_sound S i given vs soft whole) (trellis_sound S i given vs soft supercode)
        (whole_within_supercode S given.some_bits vs soft i given.sound given.level given.split) refl threshold (hard_path soft S.bits) limit another_full

    -- where one of the supercodes is the level's code
    pub endings_are_one : (S.supercodes i).left.generator ≡ generator S i → two_words whole S vs threshold limit soft i ≡ two_words supercode S vs threshold limit soft i
    unfolding two_words
    endings_are_one one_code =
        Tree.endings_are_one (whole_trellis S vs soft i) (supercode_trellis S vs soft i) (trellis_sound S i given vs soft whole) (trellis_sound S i given vs soft supercode)
        (whole_within_supercode S given.some_bits vs soft i given.sound given.level given.split) refl threshold (hard_path soft S.bits) limit another_full
        (no_dead_ahead S i given vs soft one_code)
