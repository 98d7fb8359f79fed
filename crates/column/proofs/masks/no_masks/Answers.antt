-- `column::masks::no_masks` meets its contract: thirty zeros. Assumes nothing.
use lib.ListN.{get_or-replicate}
use Rattle.column.proofs.masks.no_masks.Goals as goal

pub returns : goal.returns
returns c = λ k l. get_or-replicate 30 k 0 0 l
