-- `softpage::rows::column_off` meets its contract: the first p values have the word taken off. Assumes nothing.
use Rattle.concatenated.proofs.Filling.{Front}
use Rattle.concatenated.specs.SoftPage.{column_off}
use Rattle.softpage.proofs.rows.column_off.Given as goal

abbrev pub invariant-loop-p : goal.invariant-loop-p
invariant-loop-p l = Front (column_off l.w l.column) l.out 30 l.p
