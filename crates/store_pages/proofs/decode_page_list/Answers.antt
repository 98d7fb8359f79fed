-- `store_pages::decode_page_list` meets its contract: what page decoding by either search gives. Assumes nothing.
use Rattle.trellis.specs.Demand.{supercode}
use Rattle.store_pages.proofs.Asked.{as_handed_on}
use Rattle.store_pages.proofs.decode_page_list.Goals as goal

pub returns : goal.returns
returns c = as_handed_on c.args.threshold c.ranges.threshold supercode c.decode_either.ensures
