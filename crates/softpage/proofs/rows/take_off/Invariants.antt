-- `softpage::rows::take_off` meets its contract: the first j columns have their words taken off, the others are as they were. Assumes nothing.
use Rattle.column.specs.Shape.{short}
use Rattle.concatenated.specs.Decode.{row_off}
use Rattle.concatenated.proofs.Filling.{InPlace}
use Rattle.softpage.proofs.rows.take_off.Given as goal

abbrev pub invariant-loop-j : goal.invariant-loop-j
invariant-loop-j l = InPlace (row_off short l.level l.row l.initial.work) l.initial.work l.work 63 l.j
