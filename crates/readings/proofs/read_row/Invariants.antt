-- `readings::read_row` meets its contract: the first j columns are read, and it is noted of them. Assumes nothing.
use mathlib.Core.Bool.{◌||◌}
use mathlib.Core.Path.{◌≡◌}
use lib.ListN.{take}
use Rattle.concatenated.specs.Chip.{some_column}
use Rattle.readings.proofs.RowReading.{RowFilling}
use Rattle.readings.proofs.read_row.Given as goal

abbrev pub invariant-loop-j : goal.invariant-loop-j
invariant-loop-j g l =
    let r = g.R.ColumnReader in
    RowFilling l.level (r.reader l.reader l.level) l.work l.lowest l.symbols l.marks l.steps l.low l.j
    × (r.noted l.scratch ≡ (r.noted l.initial.scratch || some_column (r.test l.reader l.level) (take l.j l.work)))
