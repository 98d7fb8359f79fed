-- `levels::decode_columns` meets its contract: the arrays hold what the run has given below the level, and it is noted of its searches. Assumes nothing.
use mathlib.Core.Bool.{◌||◌}
use mathlib.Core.Path.{◌≡◌}
use Rattle.column.specs.Shape.{short}
use Rattle.concatenated.specs.Chip.{some_below}
use Rattle.concatenated.specs.OuterCode.{short_outer}
use Rattle.levels.proofs.LevelRuns.{Decoding}
use Rattle.levels.proofs.decode_columns.Given as goal

abbrev pub invariant-loop-level : goal.invariant-loop-level
invariant-loop-level g l =
    let r = g.R.ColumnReader in
    Decoding (r.reader l.reader) l.initial.work l.work l.held l.steps l.low l.level
    × (r.noted l.scratch ≡ (r.noted l.initial.scratch || some_below short short_outer (r.reader l.reader) l.initial.work (r.test l.reader) l.level))
