-- `coding::data::rows_data` meets its contract: the data of the rows below the level are at the front. Assumes nothing.
use Rattle.concatenated.specs.Format.{short_page}
use Rattle.concatenated.specs.Symbols.{rows_in}
use Rattle.concatenated.proofs.DataGroups.{RowsPut}
use Rattle.coding.proofs.data.rows_data.Given as goal

abbrev pub invariant-loop-level : goal.invariant-loop-level
invariant-loop-level l = RowsPut (rows_in short_page l.symbols) l.out l.at l.level
