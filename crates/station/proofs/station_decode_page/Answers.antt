-- `station::station_decode_page` meets its contract: it is the entry with a limit, at the default. Assumes nothing.
use Rattle.station.proofs.station_decode_page.Goals as goal

pub returns : goal.returns
returns c = c.station_decode_page_limit.ensures
