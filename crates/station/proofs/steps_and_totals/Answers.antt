-- `station::steps_and_totals` meets its contract: the four bytes of the steps, and the totals one by one. Assumes nothing.
use Rattle.station.proofs.Bytes.{four_bytes}
use Rattle.station.proofs.steps_and_totals.Goals as goal

pub returns : goal.returns
returns c = rw c.to_be_bytes.ensures (four_bytes _ _)
