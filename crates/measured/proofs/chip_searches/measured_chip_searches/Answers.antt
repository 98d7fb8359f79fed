use Rattle.std.proofs.Common.{arith}
use Rattle.questions.proofs.FirstAbove.{below_first}
use Rattle.measured.proofs.chip_searches.measured_chip_searches.Goals as goal

pub search_all-requires-clause-by_index : goal.search_all-requires-clause-by_index
search_all-requires-clause-by_index c k h = below_first c.args.soft.now 7 k (omega arith)
