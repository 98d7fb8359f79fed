-- `store_batches::search_column` meets its contract: the questions' answer settles what may be searched. Assumes nothing.
use mathlib.Core.Path.{sym, ◌∙◌}
use Rattle.trellis.specs.TwoWords.{off}
use Rattle.searches.proofs.Questions.{ready}
use Rattle.store_batches.proofs.search_column.Goals as goal

pub search_supercodes-requires : goal.search_supercodes-requires
search_supercodes-requires c =
    (c.requires, (ready off c.args.level c.args.column.now c.args.limit (sym c.asked.ensures ∙ c.in_ok-asked.was)).0)
