-- Demand 3 of the two column calls, in 01's number, place, word and count, and 02's low point. Assumes nothing.
use mathlib.Core.Bool.{true}
use mathlib.Core.List.{List}
use mathlib.Core.Logic.{◌↔◌}
use mathlib.Core.Path.{◌≡◌, refl, sym, ap, ◌∙◌}
use Prim.Native.Nat.{ℕ, ◌+◌, ◌≤◌, ◌<◌}
use native.Mathlib.Decide.{dec_le}
use native.Mathlib.Omega.{arith}
use lib.IntN.{ℤ, pos}
use lib.ListN.{length}
use Rattle.column.specs.Shape.{short}
use Rattle.paths.specs.Lists.{Lists}
use Rattle.paths.specs.Paths.{Path}
use Rattle.paths.specs.Low.{low_point}
use Rattle.paths.specs.Tree.{number as rank}
use Rattle.trellis.specs.Values.{level_values}
use Rattle.trellis.specs.Order.{number as column_of, sum}
use Rattle.trellis.specs.TwoWords.{Choice, off, threshold_allowed, searched_by}
use Rattle.trellis.specs.Demand.{Search, whole, supercode, trellis, AheadOfAll, Counted, DeadAhead}
use Rattle.trellis.proofs.Demand.{Searchable, ranks_differ_by_the_dead_ahead}
use Rattle.trellis.proofs.Counts.{rank_counts, rank_is_a_number_of_paths, dead_ahead_counts}
use Rattle.trellis.proofs.Short.{searchable, one_codeword_is_ahead_of_all, answers_within_the_limit, is_spent_above_the_limit}
use Rattle.searches.proofs.Questions.{all_yes}
use Rattle.questions.specs.Answer.{number, place, refused}
use Rattle.questions.specs.declared.refusal.Question.TheVariants.{Spent}
use Rattle.searches.specs.Searches.{found, word, count, low, Is, Allowed, outcome_answer, search_answer}

-- only question 9 is left
pub asked : (choice : Choice) → threshold_allowed choice ≡ true → (s : Search) (level : ℕ) (soft : List ℕ) (limit : ℕ) → Allowed level soft limit
    → search_answer choice s level soft limit ≡ outcome_answer (searched_by choice s short (level_values level) limit soft level)
asked choice in_range s level soft limit allowed = all_yes choice level soft limit in_range allowed refused _

module _ (s : Search) (level : ℕ) (soft : List ℕ) (limit : ℕ) (allowed : Allowed level soft limit) where
  -- one codeword is ahead of all others, and the search's paths that are prefixes of it or ahead of it can be listed
  pub one_word_and_its_paths : (w : Path) × AheadOfAll short (level_values level) soft level w × ((v : Path) → AheadOfAll short (level_values level) soft level v → v ≡ w) × (ps : List Path) × Lists (Counted s short (level_values level) soft level w) ps
  one_word_and_its_paths =
      let best = one_codeword_is_ahead_of_all level allowed.level soft in
      let paths = rank_is_a_number_of_paths short level (searchable level allowed.level) (level_values level) soft best.0 s in
      (best.0, best.1, best.2, paths.0, paths.1)

  -- w is that codeword, and ps a list of these paths
  module _ (w : Path) (best : AheadOfAll short (level_values level) soft level w) (ps : List Path) (listed : Lists (Counted s short (level_values level) soft level w) ps) where
    -- the lowest sum among its prefixes
    abbrev low_of : Path → ℤ
    low_of = low_point (sum (level_values level) soft)

    many : length ps ≡ rank (trellis s short (level_values level) soft level) w
    many = rank_counts short level (searchable level allowed.level) (level_values level) soft w s ps listed

    pub call_answers_within_the_limit : length ps ≤ limit
        → (search_answer off s level soft limit ≡ found (column_of w) (length ps) (low_of w)) × Is (search_answer off s level soft limit) 0 0 (column_of w) (length ps) (low_of w)
    unfolding outcome_answer
    call_answers_within_the_limit l =
        let is : search_answer off s level soft limit ≡ found (column_of w) (length ps) (low_of w) =
        asked off refl s level soft limit allowed ∙ ap outcome_answer (answers_within_the_limit level allowed.level soft s w best limit (omega (arith, many))) ∙ ap (λ (c : ℕ). found (column_of w) c (low_of w)) (sym many) in
        (is, (ap number is, ap place is, ap word is, ap count is, ap low is))

    pub call_refuses_above_the_limit : limit < length ps → (search_answer off s level soft limit ≡ refused Spent 0) × Is (search_answer off s level soft limit) 9 0 0 0 (pos 0)
    unfolding outcome_answer
    call_refuses_above_the_limit l =
        let is : search_answer off s level soft limit ≡ refused Spent 0 =
        asked off refl s level soft limit allowed ∙ ap outcome_answer (is_spent_above_the_limit level allowed.level soft s w best limit (omega (arith, many))) in
        (is, (ap number is, ap place is, ap word is, ap count is, ap low is))

    -- demand 3: "the search is spent exactly when that number would be above its limit"
    pub call_is_9_exactly_above_the_limit : (number (search_answer off s level soft limit) ≡ 9) ↔ (limit < length ps)
    call_is_9_exactly_above_the_limit = (λ nine. go nine (dec_le (length ps) limit), λ l. (call_refuses_above_the_limit l).1.0)
      where
        go : number (search_answer off s level soft limit) ≡ 9 → Dec (length ps ≤ limit) → limit < length ps
        go nine (yes l) = let zero : number (search_answer off s level soft limit) ≡ 0 = (call_answers_within_the_limit l).1.0 in absurd (omega (arith, nine, zero))
        go nine (no l) = omega arith

-- demand 3: "the whole-trellis decoder's count is smaller by exactly the dead paths ahead of that codeword", the word and its low point being the same: of two calls on one column, ds a list of these paths
module _ (level : ℕ) (soft : List ℕ) (limit : ℕ) (allowed : Allowed level soft limit) (w : Path) (best : AheadOfAll short (level_values level) soft level w) (ds : List Path) (dead : Lists (DeadAhead short (level_values level) soft level w) ds) where
  pub calls_differ_by_the_dead_ahead : number (search_answer off supercode level soft limit) ≡ 0
      → (number (search_answer off whole level soft limit) ≡ 0) × (word (search_answer off whole level soft limit) ≡ word (search_answer off supercode level soft limit)) × (low (search_answer off whole level soft limit) ≡ low (search_answer off supercode level soft limit))
      × (count (search_answer off supercode level soft limit) ≡ count (search_answer off whole level soft limit) + length ds)
  unfolding outcome_answer
  calls_differ_by_the_dead_ahead zero = go (dec_le (rank (trellis supercode short (level_values level) soft level) w) limit)
    where
      given : Searchable short level
      given = searchable level allowed.level

      is_found : (s : Search) → rank (trellis s short (level_values level) soft level) w ≤ limit → search_answer off s level soft limit ≡ found (column_of w) (rank (trellis s short (level_values level) soft level) w) (low_point (sum (level_values level) soft) w)
      is_found s l = asked off refl s level soft limit allowed ∙ ap outcome_answer (answers_within_the_limit level allowed.level soft s w best limit l)

      differ : rank (trellis supercode short (level_values level) soft level) w ≡ rank (trellis whole short (level_values level) soft level) w + length ds
      differ = ranks_differ_by_the_dead_ahead short level given (level_values level) soft w best.codeword ∙ ap (λ (d : ℕ). rank (trellis whole short (level_values level) soft level) w + d) (sym (dead_ahead_counts short level given (level_values level) soft w ds dead))

      go : Dec (rank (trellis supercode short (level_values level) soft level) w ≤ limit)
          → (number (search_answer off whole level soft limit) ≡ 0) × (word (search_answer off whole level soft limit) ≡ word (search_answer off supercode level soft limit)) × (low (search_answer off whole level soft limit) ≡ low (search_answer off supercode level soft limit))
          × (count (search_answer off supercode level soft limit) ≡ count (search_answer off whole level soft limit) + length ds)
      go (yes l) =
          let both = is_found supercode l in
          let one = is_found whole (omega (arith, differ)) in
          (ap number one, ap word one ∙ sym (ap word both), ap low one ∙ sym (ap low both), ap count both ∙ differ ∙ ap (λ (c : ℕ). c + length ds) (sym (ap count one)))
      go (no l) =
          let nine : number (search_answer off supercode level soft limit) ≡ 9 = ap number (asked off refl supercode level soft limit allowed ∙ ap outcome_answer (is_spent_above_the_limit level allowed.level soft supercode w best limit (omega arith))) in
          absurd (omega (arith, zero, nine))
