-- `store_dumps::ask_block` meets its contract: a block has 512 bytes. Assumes nothing.
use mathlib.Core.Path.{ap, ◌∙◌}
use lib.ListN.{length}
use Rattle.dump.proofs.Blocks.{length_of_block}
use Rattle.store_dumps.proofs.ask_block.Goals as goal

pub fixed_right-requires : goal.fixed_right-requires
fixed_right-requires c = (ap length c.block_at-block.ensures ∙ length_of_block c.args.dump.now c.args.b c.requires.0 c.requires.1, c.requires.1)

pub check_right-requires : goal.check_right-requires
check_right-requires c = ap length c.block_at-block.ensures ∙ length_of_block c.args.dump.now c.args.b c.requires.0 c.requires.1
