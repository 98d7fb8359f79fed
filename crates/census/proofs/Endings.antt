-- The search of one column, and its totals by what it answers. Assumes nothing.
use mathlib.Core.Bool.{cond, decide}
use mathlib.Core.List.{List, [], ◌∷◌}
use mathlib.Core.Path.{◌≡◌, refl, sym, ap, ◌∙◌}
use Prim.Native.Nat.{ℕ, ◌≤◌}
use lib.Dec.{eqb}
use Rattle.column.specs.Shape.{short}
use Rattle.paths.specs.Lists.{filter}
use Rattle.paths.specs.Search.{SearchResult, answer, spent}
use Rattle.trellis.specs.Values.{level_values}
use Rattle.trellis.specs.Trellis.{WordFound}
use Rattle.trellis.specs.Demand.{supercode}
use Rattle.trellis.specs.TwoWords.{off, searched_by}
use Rattle.std.specs.Prelude.{Ok, Err}
use Rattle.searches.specs.Searches.{SearchAnswer, Allowed, outcome_answer}
use Rattle.census.specs.Census.{census_limit, Ending, zero_word, other_word, spent_out, ending_of, ends_in, number_of, totals}
use Rattle.census.specs.declared.Totals.{Totals}

-- a column that may be searched with a limit may be searched with any other from 1 to 2,000
pub allowed_with : {i a b : ℕ} {soft : List ℕ} → Allowed i soft a → 1 ≤ b → b ≤ 2000 → Allowed i soft b
allowed_with h some most = record { full = h.full; level = h.level; some = some; most = most; range = h.range }

-- the ending of an answer
unfoldable pub ending_of_answer : SearchAnswer → Ending
ending_of_answer (Ok f) = cond (eqb f.word 0) zero_word other_word
ending_of_answer (Err r) = spent_out

same_ending : (o : SearchResult WordFound) → ending_of_answer (outcome_answer o) ≡ ending_of o
unfolding ending_of_answer outcome_answer ending_of
same_ending (answer w c) = refl
same_ending (spent c) = refl

-- one for the ending, and none for the others
unfoldable pub one : Ending → Totals
one zero_word = record { zero = 1; other = 0; spent = 0 }
one other_word = record { zero = 0; other = 1; spent = 0 }
one spent_out = record { zero = 0; other = 0; spent = 1 }

pub totals_of_one : {A : Type 0} (ends : A → Ending) (x : A) → one (ends x) ≡ totals ends (x ∷ [])
unfolding totals number_of filter decide one
totals_of_one {A} ends x = go (ends x)
  where
    go : (e : Ending) → one e ≡ totals (λ (y : A). e) (x ∷ [])
    go zero_word = refl
    go other_word = refl
    go spent_out = refl

-- what the search of a column answers
module _ (level : ℕ) (column : List ℕ) (a : SearchAnswer) (is : a ≡ outcome_answer (searched_by off supercode short (level_values level) census_limit column level)) where
  pub by_answer : (b : SearchAnswer) → a ≡ b → one (ending_of_answer b) ≡ totals (ends_in level) (column ∷ [])
  unfolding ends_in
  by_answer b e = ap (λ (x : SearchAnswer). one (ending_of_answer x)) (sym e ∙ is) ∙ ap one (same_ending _) ∙ totals_of_one (ends_in level) column
