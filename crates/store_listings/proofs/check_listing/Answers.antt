-- `store_listings::check_listing` meets its contract: the questions' answer settles which case it is. Assumes nothing.
use mathlib.Core.Path.{sym, ◌∙◌}
use Rattle.store_listings.proofs.Questions.{ready}
use Rattle.store_listings.proofs.check_listing.Goals as goal

pub check_allowed-requires : goal.check_allowed-requires
check_allowed-requires c =
    ready c.args.level c.args.soft.now c.args.lengths.now c.args.bits.now (sym c.asked.ensures ∙ c.in_ok-asked.was)
