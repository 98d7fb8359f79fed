-- `coding::data::row_after_row` meets its contract: the rows below the level stand one behind the other. Assumes nothing.
use Rattle.concatenated.proofs.DataGroups.{RowsBehind}
use Rattle.coding.proofs.data.row_after_row.Given as goal

abbrev pub invariant-loop-level : goal.invariant-loop-level
invariant-loop-level l = RowsBehind l.rows l.out l.level
