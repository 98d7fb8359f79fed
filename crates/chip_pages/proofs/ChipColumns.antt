-- The reading of a column as the chip makes it: what its search gives is the reading. Assumes nothing.
use mathlib.Core.Path.{◌≡◌, refl, ap, ◌∙◌}
use Prim.Native.Nat.{ℕ}
use mathlib.Core.List.{List}
use Rattle.std.specs.Option.{ok_or}
use Rattle.paths.specs.Search.{SearchResult, answer, spent}
use Rattle.trellis.specs.Trellis.{WordFound}
use Rattle.search.specs.Outcomes as search
use Rattle.chip.specs.Outcomes.{taken, code_outcome}
use Rattle.chip.specs.declared.ChipOutcome.{ChipOutcome}
use Rattle.concatenated.specs.Chip.{reading_within, reader_within, chip_column, chip_reader}
use Rattle.readings.specs.Steps.{as_reading}

module _ (limit i : ℕ) (c : List ℕ) (o : ChipOutcome) (e : o ≡ code_outcome (chip_column limit i c)) where
  pub reads_it : as_reading (ok_or o.found o.count) ≡ chip_reader limit i c
  unfolding reader_within reading_within code_outcome taken search.code_outcome
  reads_it = ap (λ (x : ChipOutcome). as_reading (ok_or x.found x.count)) e ∙ by_result (chip_column limit i c).result
    where
      by_result : (r : SearchResult WordFound) → as_reading (ok_or (search.code_outcome r) (taken r)) ≡ reading_within r
      by_result (answer w n) = refl
      by_result (spent n) = refl

  pub pushes_it : o.pushed ≡ (chip_column limit i c).any_pushed_out
  unfolding code_outcome
  pushes_it = ap (λ (x : ChipOutcome). x.pushed) e
