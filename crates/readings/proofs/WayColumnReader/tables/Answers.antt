-- A way's `tables` meets its contract: the branch values are near zero. Assumes nothing.
use Rattle.search.specs.Outcomes.{search_of}
use Rattle.search.proofs.ShortSearch.{level_table_near}
use Rattle.readings.proofs.WayColumnReader.tables.Goals as goal

pub tables_of-hard-requires-clause-by_index : goal.tables_of-hard-requires-clause-by_index
tables_of-hard-requires-clause-by_index c = level_table_near (search_of c.args.self.now.in_supercodes) c.args.level c.requires _ _ _ c.tables_of-search.ensures
