-- `blocks::check_right` meets its contract: it compares the two numbers of the definition. Assumes nothing.
use Rattle.dump.specs.Block.{check_right}
use Rattle.blocks.proofs.check_right.Goals as goal

pub returns : goal.returns
unfolding check_right
returns c = simp (c.from_be_bytes.ensures, c.check_of.ensures)
