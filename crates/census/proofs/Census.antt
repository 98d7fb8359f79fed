-- 02, point 14: "Each total is proved to be the number of patterns with that answer by the search's definition", and what the three add up to. Assumes nothing.
use mathlib.Core.Bool.{cond}
use mathlib.Core.List.{List, []}
use mathlib.Core.Path.{◌≡◌, sym, ap, ◌∙◌}
use Prim.Native.Nat.{ℕ, ◌+◌, ◌≤◌, ◌<◌}
use native.Mathlib.Omega.{arith}
use lib.Dec.{eqb}
use lib.ListN.{length, replicate}
use Rattle.column.specs.Shape.{short}
use Rattle.paths.specs.Lists.{Lists}
use Rattle.paths.specs.Paths.{Path}
use Rattle.paths.specs.Tree.{number as rank}
use Rattle.paths.specs.Search.{SearchResult}
use Rattle.trellis.specs.Values.{level_values}
use Rattle.trellis.specs.Order.{number}
use Rattle.trellis.specs.Trellis.{WordFound}
use Rattle.trellis.specs.Demand.{supercode, supercode_trellis, AheadOfAll}
use Rattle.trellis.proofs.Short.{answers_within_the_limit, is_spent_above_the_limit}
use Rattle.trellis.proofs.ZeroColumn.{zero_column_in_30_steps}
use Rattle.census.specs.Patterns.{Pattern, OnesAmong, patterns, over}
use Rattle.census.specs.Census.{soft_column, Ending, zero_word, other_word, spent_out, ending_of, census_limit, ends_in, Ends, total, census}
use Rattle.census.proofs.Patterns.{patterns_are_listed, as_many_as_n_over_k, of_thirty_bits}
use Rattle.census.proofs.Counting.{totals_add_up, those_with_an_ending, total_counts}
use Rattle.census.proofs.Endings.{one, totals_of_one}
use Rattle.census.proofs.Behind.{behind_none, from_the_start}

module _ (level k : ℕ) where
  -- the patterns with an ending can be listed, each once
  pub patterns_can_be_listed : (e : Ending) → (ps : List Pattern) × Lists (Ends level k e) ps
  patterns_can_be_listed e = (_, those_with_an_ending (λ p. ends_in level (soft_column p)) (OnesAmong 30 k) (patterns 30 k) (patterns_are_listed 30 k) e)

  -- and the total is their number, however they are listed
  pub total_is_the_number_of_patterns : (e : Ending) (ps : List Pattern) → Lists (Ends level k e) ps → length ps ≡ total e (census level k)
  unfolding census
  total_is_the_number_of_patterns e = total_counts (λ p. ends_in level (soft_column p)) (OnesAmong 30 k) (patterns 30 k) (patterns_are_listed 30 k) e

  -- the three add up to the number of patterns
  pub three_add_up : let t = census level k in t.zero + t.other + t.spent ≡ over 30 k
  unfolding census
  three_add_up = totals_add_up (λ p. ends_in level (soft_column p)) (patterns 30 k) ∙ as_many_as_n_over_k 30 k

-- the three of a level and a number of ones, together
abbrev all : ℕ → ℕ → ℕ
all level k = let t = census level k in t.zero + t.other + t.spent

-- "The three add up to 1, 30, 435 and 4,060."
pub three_add_up_to : (level : ℕ) → (all level 0 ≡ 1) × (all level 1 ≡ 30) × (all level 2 ≡ 435) × (all level 3 ≡ 4060)
three_add_up_to level =
    (three_add_up level 0 ∙ of_thirty_bits.0, three_add_up level 1 ∙ of_thirty_bits.1, three_add_up level 2 ∙ of_thirty_bits.2, three_add_up level 3 ∙ of_thirty_bits.3)

-- demand 3 of a pattern's column: w is the codeword ahead of all others, and its number of paths is held against the limit
module _ (level : ℕ) (l : level < 4) (soft : List ℕ) (w : Path) (best : AheadOfAll short (level_values level) soft level w) where
  abbrev paths_of_the_word : ℕ
  paths_of_the_word = rank (supercode_trellis short (level_values level) soft level) w

  pub ends_in_the_word_ahead : paths_of_the_word ≤ census_limit → ends_in level soft ≡ cond (eqb (number w) 0) zero_word other_word
  unfolding ends_in ending_of
  ends_in_the_word_ahead h = ap ending_of (answers_within_the_limit level l soft supercode w best census_limit h)

  pub ends_spent_above_the_limit : census_limit < paths_of_the_word → ends_in level soft ≡ spent_out
  unfolding ends_in ending_of
  ends_spent_above_the_limit h = ap ending_of (is_spent_above_the_limit level l soft supercode w best census_limit h)

-- without flips every level ends in the zero word
pub no_flips_end_in_the_zero_word : (level : ℕ) → level < 4 → census level 0 ≡ record { zero = 1; other = 0; spent = 0 }
unfolding one ends_in ending_of
no_flips_end_in_the_zero_word level l =
    sym (from_the_start level 0) ∙ behind_none level [] 30 ∙ sym (totals_of_one (ends_in level) (replicate 30 0))
    ∙ ap (λ (o : SearchResult WordFound). one (ending_of o)) (zero_column_in_30_steps supercode level l census_limit (omega arith))
