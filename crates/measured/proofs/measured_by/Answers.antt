use Rattle.std.proofs.Common.{arith}
use Rattle.search.proofs.ShortSearch.{level_table_near}
use Rattle.questions.proofs.FirstAbove.{below_first}
use Rattle.measured.proofs.measured_by.Goals as goal

pub tables_of-hard-requires-clause-by_index : goal.tables_of-hard-requires-clause-by_index
tables_of-hard-requires-clause-by_index c = level_table_near _ _ c.if-level-ge4.false _ _ _ c.tables_of-tables.ensures

pub search_all-requires-clause-by_index : goal.search_all-requires-clause-by_index
search_all-requires-clause-by_index c k h = below_first c.args.soft.now 7 k (omega arith)
