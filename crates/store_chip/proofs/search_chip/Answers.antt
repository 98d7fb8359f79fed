-- `store_chip::search_chip` meets its contract: the questions' answer settles what may be searched. Assumes nothing.
use mathlib.Core.Path.{sym, ◌∙◌}
use Rattle.trellis.specs.TwoWords.{off}
use Rattle.searches.proofs.Questions.{ready}
use Rattle.store_chip.proofs.search_chip.Goals as goal

pub search_allowed-requires : goal.search_allowed-requires
search_allowed-requires c = (ready off c.args.level c.args.soft.now c.args.limit (sym c.asked.ensures ∙ c.in-Ok.is)).0
