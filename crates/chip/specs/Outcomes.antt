-- For the code's contracts: the outcome of a search with 64 places as the code gives it. Assumes nothing.
use Rattle.std.specs.Prelude.{ℕ}
use Rattle.paths.specs.Search.{SearchResult, answer, spent}
use Rattle.paths.specs.Keys.{WithLow}
use Rattle.paths.specs.Bounded.{BoundedResult}
use Rattle.trellis.specs.Trellis.{WordFound}
use Rattle.trellis.specs.Keys.{Key}
use Rattle.search.specs.Outcomes as search
use Rattle.chip.specs.declared.ChipOutcome.{ChipOutcome}

-- how many paths were taken
unfoldable pub taken : {A : Type 0} → SearchResult A → ℕ
taken (answer w c) = c
taken (spent c) = c

unfoldable pub outcome_of : BoundedResult (WithLow Key) → ChipOutcome
outcome_of e = record { found = search.outcome_of e.result; count = taken e.result; pushed = e.any_pushed_out }

-- with the word as a column's number
unfoldable pub code_outcome : BoundedResult WordFound → ChipOutcome
code_outcome e = record { found = search.code_outcome e.result; count = taken e.result; pushed = e.any_pushed_out }
