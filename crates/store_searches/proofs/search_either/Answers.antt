-- `store_searches::search_either` meets its contract: the questions' answer settles what may be searched. Assumes nothing.
use mathlib.Core.Path.{sym, ◌∙◌}
use Rattle.list_of_two.specs.Ways.{choice}
use Rattle.searches.proofs.Questions.{ready}
use Rattle.store_searches.proofs.search_either.Goals as goal

pub search_allowed-requires : goal.search_allowed-requires
search_allowed-requires c = ready (choice c.args.threshold) c.args.level c.args.soft.now c.args.limit (sym c.asked.ensures ∙ c.in_ok-asked.was)
