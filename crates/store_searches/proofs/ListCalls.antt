-- 02, point 1, of the two column calls with list of two, in 01's number, place, word and count, and 02's low point. Assumes nothing.
use mathlib.Core.Bool.{Bool, true, false}
use mathlib.Core.List.{List}
use mathlib.Core.Logic.{◌↔◌}
use mathlib.Core.Path.{◌≡◌, refl, sym, ap, ◌∙◌, subst}
use Prim.Native.Nat.{ℕ, ◌+◌, ◌≤◌, ◌<◌}
use native.Mathlib.Decide.{dec_le}
use native.Mathlib.Omega.{arith}
use lib.Dec.{leb, lit<}
use lib.IntN.{ℤ, pos, nat_abs}
use lib.ListN.{length}
use lib.Signed.{lt_z}
use borrow.Author.Tests.{eq-eqb, lt-ltb, le-leb}
use Rattle.column.specs.Shape.{short}
use Rattle.paths.specs.Lists.{Lists}
use Rattle.paths.specs.Paths.{Path}
use Rattle.paths.specs.Low.{low_point}
use Rattle.paths.specs.Tree.{number as rank}
use Rattle.paths.specs.Search.{SearchResult, answer, spent}
use Rattle.paths.specs.Keys.{with_key}
use Rattle.paths.specs.Dead.{dead_paths_ahead}
use Rattle.paths.specs.TwoWords.{Ending, first_spent, larger, returned, ended_by_limit, dead_of_ending, Differ}
use Rattle.trellis.specs.Values.{level_values}
use Rattle.trellis.specs.Order.{number as column_of, sum}
use Rattle.trellis.specs.Trellis.{WordFound, found_word}
use Rattle.trellis.specs.Demand.{Search, whole, supercode, trellis, whole_trellis, supercode_trellis, Codeword, AheadOfAll, Counted, DeadAhead}
use Rattle.trellis.specs.TwoWords.{on, threshold_allowed, hard_path, two_words, searched_two, AheadOfAllBut}
use Rattle.trellis.proofs.Short.{searchable}
use Rattle.trellis.proofs.Counts.{rank_counts, rank_is_a_number_of_paths, dead_ahead_counts}
use Rattle.trellis.proofs.TwoWords as TwoWords
use Rattle.trellis.proofs.Thresholds.{threshold_is_refused_exactly}
use Rattle.questions.specs.Questions.{ask, first_above}
use Rattle.questions.specs.Answer.{number, place, refused}
use Rattle.questions.specs.declared.refusal.Question.TheVariants.{Range, Spent, Threshold}
use Rattle.searches.specs.Searches.{SearchAnswer, found, word, count, low, Is, Allowed, outcome_answer, search_answer}
use Rattle.store_searches.proofs.Calls.{asked}

-- an answer in all its words
told : (a : SearchAnswer) (w c : ℕ) (z : ℤ) → a ≡ found w c z → Is a 0 0 w c z
told a w c z e = (ap number e, ap place e, ap word e, ap count e, ap low e)

module _ (level : ℕ) (soft : List ℕ) (limit : ℕ) (allowed : Allowed level soft limit) (threshold : ℤ) (in_range : threshold_allowed (on threshold) ≡ true) where
  abbrev sum_of : Path → ℤ
  sum_of = sum (level_values level) soft

  -- the lowest sum among a word's prefixes
  abbrev low_of : Path → ℤ
  low_of = low_point sum_of

  -- what a call answers, by how its search ends
  abbrev answer_of : Ending Path → SearchAnswer
  answer_of e = outcome_answer (with_key (found_word sum_of) (returned sum_of limit e))

  module _ (s : Search) where
    abbrev call : SearchAnswer
    call = search_answer (on threshold) s level soft limit

    call_is : (e : Ending Path) → two_words s short (level_values level) threshold limit soft level ≡ e → call ≡ answer_of e
    unfolding searched_two
    call_is e h = asked (on threshold) in_range s level soft limit allowed ∙ ap answer_of h

    -- "A hard reading that is in the code is returned with 0 steps."
    pub hard_reading_is_returned : Codeword short level (hard_path soft 30) → Is call 0 0 (column_of (hard_path soft 30)) 0 (low_of (hard_path soft 30))
    unfolding outcome_answer with_key returned
    hard_reading_is_returned code = told call _ _ _ (call_is _ (TwoWords.hard_reading_in_the_code short level (searchable level allowed.level) (level_values level) soft s threshold limit code))

    -- "the second word is the codeword ahead of all others but the first": there is one, and the search's paths that are prefixes of it or ahead of it can be listed
    pub one_second_word_and_its_paths : (w : Path) → AheadOfAll short (level_values level) soft level w
        → (v : Path) × AheadOfAllBut short (level_values level) soft level w v × ((u : Path) → AheadOfAllBut short (level_values level) soft level w u → u ≡ v) × (qs : List Path) × Lists (Counted s short (level_values level) soft level v) qs
    one_second_word_and_its_paths w best =
        let second = TwoWords.one_codeword_is_second short level (searchable level allowed.level) (lit< tt) (level_values level) soft w best in
        let paths = rank_is_a_number_of_paths short level (searchable level allowed.level) (level_values level) soft second.0 s in
        (second.0, second.1, second.2, paths.0, paths.1)

    -- the hard reading is no word; w is the first word and v the second, ps and qs the lists of their paths
    module _ (searched : Codeword short level (hard_path soft 30) → ⊥) (w : Path) (best : AheadOfAll short (level_values level) soft level w) (ps : List Path) (listed : Lists (Counted s short (level_values level) soft level w) ps)
        (v : Path) (second : AheadOfAllBut short (level_values level) soft level w v) (qs : List Path) (second_listed : Lists (Counted s short (level_values level) soft level v) qs) where
      many : length ps ≡ rank (trellis s short (level_values level) soft level) w
      many = rank_counts short level (searchable level allowed.level) (level_values level) soft w s ps listed

      many_to_the_second : length qs ≡ rank (trellis s short (level_values level) soft level) v
      many_to_the_second = rank_counts short level (searchable level allowed.level) (level_values level) soft v s qs second_listed

      -- the first search is spent as without list of two
      pub list_call_refuses_above_the_limit : limit < length ps → Is call 9 0 0 0 (pos 0)
      unfolding outcome_answer with_key returned
      list_call_refuses_above_the_limit l =
          let e : call ≡ refused Spent 0 = call_is (first_spent limit) (TwoWords.first_search_is_spent short level (searchable level allowed.level) (lit< tt) (level_values level) soft s w v best second threshold limit searched (omega (arith, many))) in
          (ap number e, ap place e, ap word e, ap count e, ap low e)

      module _ (in_limit : length ps ≤ limit) where
        found_by_rank : rank (trellis s short (level_values level) soft level) w ≤ limit
        found_by_rank = omega (arith, many)

        -- a first word whose sum is not below the threshold is returned, as without list of two
        pub first_word_is_returned : lt_z (sum_of w) threshold ≡ false → Is call 0 0 (column_of w) (length ps) (low_of w)
        unfolding outcome_answer with_key returned
        first_word_is_returned enough =
            told call _ _ _ (call_is _ (TwoWords.first_word_stands short level (searchable level allowed.level) (lit< tt) (level_values level) soft s w v best second threshold limit searched found_by_rank enough)
            ∙ ap (λ (c : ℕ). found (column_of w) c (low_of w)) (sym many))

        -- else the second is sought: "the larger sum wins, the first on a tie", "Limit and count cover both words together."
        module _ (below : lt_z (sum_of w) threshold ≡ true) where
          pub larger_of_the_two_is_returned : length qs ≤ limit → Is call 0 0 (column_of (larger sum_of w v)) (length qs) (low_of (larger sum_of w v))
          unfolding outcome_answer with_key returned
          larger_of_the_two_is_returned l =
              told call _ _ _ (call_is _ (TwoWords.second_word_is_found short level (searchable level allowed.level) (lit< tt) (level_values level) soft s w v best second threshold limit searched found_by_rank below (omega (arith, many_to_the_second)))
              ∙ ap (λ (c : ℕ). found (column_of (larger sum_of w v)) c (low_of (larger sum_of w v))) (sym many_to_the_second))

          -- "If the limit ends the second search, the first word stands and the count is the limit."
          pub first_word_stands_at_the_limit : limit < length qs → Is call 0 0 (column_of w) limit (low_of w)
          unfolding outcome_answer with_key returned
          first_word_stands_at_the_limit l =
              told call _ _ _ (call_is _ (TwoWords.second_search_is_ended short level (searchable level allowed.level) (lit< tt) (level_values level) soft s w v best second threshold limit searched found_by_rank below (omega (arith, many_to_the_second))))

        answers_within_the_limit : number call ≡ 0
        answers_within_the_limit = go (lt_z (sum_of w) threshold) refl (dec_le (length qs) limit)
          where
            go : (b : Bool) → lt_z (sum_of w) threshold ≡ b → Dec (length qs ≤ limit) → number call ≡ 0
            go false e d = (first_word_is_returned e).0
            go true e (yes l) = (larger_of_the_two_is_returned e l).0
            go true e (no l) = (first_word_stands_at_the_limit e (omega arith)).0

      -- demand 3, of the first search: spent "exactly when that number would be above its limit"
      pub list_call_is_9_exactly_above_the_limit : (number call ≡ 9) ↔ (limit < length ps)
      list_call_is_9_exactly_above_the_limit = (λ nine. go nine (dec_le (length ps) limit), λ l. (list_call_refuses_above_the_limit l).0)
        where
          go : number call ≡ 9 → Dec (length ps ≤ limit) → limit < length ps
          go nine (yes l) = absurd (omega (arith, nine, answers_within_the_limit l))
          go nine (no l) = omega arith

  -- ---- the two calls

  abbrev ending : Ending Path
  ending = two_words supercode short (level_values level) threshold limit soft level

  -- the whole call answers as the supercode call, with a count smaller by d
  abbrev DifferBy : ℕ → Type 0
  DifferBy d =
      (number (call supercode) ≡ 0) × (number (call whole) ≡ 0) × (word (call whole) ≡ word (call supercode)) × (low (call whole) ≡ low (call supercode)) × (count (call supercode) ≡ count (call whole) + d)

  answers_differ : (d : ℕ) (a b : SearchResult Path) → Differ d a b
      → let x = outcome_answer (with_key (found_word sum_of) a) in let y = outcome_answer (with_key (found_word sum_of) b) in
      (number y ≡ 0) × (number x ≡ 0) × (word x ≡ word y) × (low x ≡ low y) × (count y ≡ count x + d)
  unfolding outcome_answer with_key
  answers_differ d (answer w m) (answer v n) h = (refl, refl, ap column_of h.0, ap low_of h.0, h.1)
  answers_differ d (answer w m) (spent n) h = absurd h
  answers_differ d (spent m) (answer v n) h = absurd h
  answers_differ d (spent m) (spent n) h = absurd h

  -- where the limit ended neither supercode search, by the dead paths of how it ended
  calls_differ : (d : ℕ) → (ended_by_limit ending ≡ false) × (dead_of_ending (dead_paths_ahead (whole_trellis short (level_values level) soft level) (supercode_trellis short (level_values level) soft level)) ending ≡ d) → DifferBy d
  calls_differ d unended =
      subst DifferBy unended.1
      (rw (call_is whole _ refl, call_is supercode _ refl)
      (answers_differ _ _ _ (TwoWords.supercode_ending_is_whole_ending short level (searchable level allowed.level) (lit< tt) (level_values level) soft threshold limit unended.0)))

  -- "a hard reading returned unsearched has none"
  pub list_calls_do_not_differ_for_a_hard_reading : Codeword short level (hard_path soft 30) → DifferBy 0
  list_calls_do_not_differ_for_a_hard_reading code = calls_differ 0 (TwoWords.hard_reading_has_no_dead_path short level (searchable level allowed.level) (lit< tt) (level_values level) soft threshold limit code)

  -- of a column that is searched: w is the first word and v the second, ps and qs the lists of their paths in the supercode search
  module _ (searched : Codeword short level (hard_path soft 30) → ⊥) (w : Path) (best : AheadOfAll short (level_values level) soft level w) (ps : List Path) (listed : Lists (Counted supercode short (level_values level) soft level w) ps)
      (v : Path) (second : AheadOfAllBut short (level_values level) soft level w v) (qs : List Path) (second_listed : Lists (Counted supercode short (level_values level) soft level v) qs) (in_limit : length ps ≤ limit) where
    found_too : rank (supercode_trellis short (level_values level) soft level) w ≤ limit
    found_too = found_by_rank supercode searched w best ps listed v second qs second_listed in_limit

    -- by the dead paths ahead of the first word, where no second was sought; ds is their list
    pub list_calls_differ_by_the_dead_ahead_of_the_first : lt_z (sum_of w) threshold ≡ false → (ds : List Path) → Lists (DeadAhead short (level_values level) soft level w) ds → DifferBy (length ds)
    list_calls_differ_by_the_dead_ahead_of_the_first enough ds dead =
        let e = TwoWords.dead_paths_ahead_of_the_first short level (searchable level allowed.level) (lit< tt) (level_values level) soft w v best second threshold limit searched found_too enough in
        calls_differ (length ds) (e.0, e.1 ∙ sym (dead_ahead_counts short level (searchable level allowed.level) (level_values level) soft w ds dead))

    -- "where a second word was sought, the dead paths by which the counts differ are those ahead of the second word"
    pub list_calls_differ_by_the_dead_ahead_of_the_second : lt_z (sum_of w) threshold ≡ true → length qs ≤ limit → (ds : List Path) → Lists (DeadAhead short (level_values level) soft level v) ds → DifferBy (length ds)
    list_calls_differ_by_the_dead_ahead_of_the_second below l ds dead =
        let within : rank (supercode_trellis short (level_values level) soft level) v ≤ limit = omega (arith, many_to_the_second supercode searched w best ps listed v second qs second_listed) in
        let e = TwoWords.dead_paths_ahead_of_the_second short level (searchable level allowed.level) (lit< tt) (level_values level) soft w v best second threshold limit searched found_too below within in
        calls_differ (length ds) (e.0, e.1 ∙ sym (dead_ahead_counts short level (searchable level allowed.level) (level_values level) soft v ds dead))

-- no later question is 11
never_11 : (b : Bool) (p : ℕ) (o : SearchResult WordFound) → number (ask b (refused Range p) (outcome_answer o)) ≡ 11 → ⊥
unfolding outcome_answer
never_11 false p o e = absurd (omega (arith, e))
never_11 true p (answer w c) e = absurd (omega (arith, e))
never_11 true p (spent c) e = absurd (omega (arith, e))

-- "11, threshold outside −2,000..2,000, asked after 4": of a call whose lengths, level and limit are right, exactly then
pub list_call_is_11_exactly_outside : (threshold : ℤ) (s : Search) (level : ℕ) (soft : List ℕ) (limit : ℕ) → length soft ≡ 30 → level < 4 → 1 ≤ limit → limit ≤ 2000
    → (number (search_answer (on threshold) s level soft limit) ≡ 11) ↔ (2000 < nat_abs threshold)
list_call_is_11_exactly_outside threshold s level soft limit full in_level some most =
    let asked_so : search_answer (on threshold) s level soft limit ≡ ask (threshold_allowed (on threshold)) (refused Threshold 0) rest = rw (eq-eqb _ _ full, lt-ltb _ _ in_level, le-leb _ _ some, le-leb _ _ most) refl in
    (λ e. outside (threshold_allowed (on threshold)) refl (ap number (sym asked_so) ∙ e), λ l. ap number (asked_so ∙ ap (λ (b : Bool). ask b (refused Threshold 0) rest) ((threshold_is_refused_exactly threshold).1 l)))
  where
    rest : SearchAnswer
    rest = ask (leb 30 (first_above soft 7)) (refused Range (first_above soft 7)) (outcome_answer (searched_two s short (level_values level) threshold limit soft level))

    outside : (b : Bool) → threshold_allowed (on threshold) ≡ b → number (ask b (refused Threshold 0) rest) ≡ 11 → 2000 < nat_abs threshold
    outside true e n = absurd (never_11 (leb 30 (first_above soft 7)) (first_above soft 7) (searched_two s short (level_values level) threshold limit soft level) n)
    outside false e n = (threshold_is_refused_exactly threshold).0 e
