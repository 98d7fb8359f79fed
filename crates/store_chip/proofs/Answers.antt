-- The outcome of the code's search as the call's answer. Assumes nothing.
use mathlib.Core.Path.{◌≡◌, refl, ap, ◌∙◌}
use Prim.Native.Nat.{ℕ}
use Rattle.paths.specs.Search.{SearchResult, answer, spent}
use Rattle.paths.specs.Bounded.{BoundedResult}
use Rattle.trellis.specs.Trellis.{WordFound}
use Rattle.search.specs.Outcomes as search
use Rattle.chip.specs.Outcomes.{taken, code_outcome}
use Rattle.chip.specs.declared.ChipOutcome.{ChipOutcome}
use Rattle.store_chip.specs.Chip.{unfound, ended_answer, column_answer, or_refused, as_answer}
use Rattle.store_chip.specs.declared.ChipAnswer.{ChipAnswer}

-- no word: 13 where fewer than the limit were taken, else 9
pub outcome_is_answered : (limit : ℕ) (e : BoundedResult WordFound) (o : ChipOutcome) → o ≡ code_outcome e → as_answer limit o ≡ column_answer limit e
unfolding code_outcome search.code_outcome taken ended_answer
outcome_is_answered limit e o is = ap (as_answer limit) is ∙ go e.result
  where
    go : (r : SearchResult WordFound)
        → ◌≡◌ {A = ChipAnswer} (record { found = or_refused (unfound limit (taken r)) (search.code_outcome r); count = taken r; pushed = e.any_pushed_out }) (ended_answer limit e.any_pushed_out r)
    go (answer w c) = refl
    go (spent c) = refl
