-- `store_pages::ask_page_list` meets its contract: what asking by either search gives. Assumes nothing.
use Rattle.trellis.specs.Demand.{supercode}
use Rattle.store_pages.proofs.Asked.{as_handed_on}
use Rattle.store_pages.proofs.ask_page_list.Goals as goal

pub returns : goal.returns
returns c = as_handed_on c.args.threshold c.ranges.threshold supercode c.ask_either.ensures
