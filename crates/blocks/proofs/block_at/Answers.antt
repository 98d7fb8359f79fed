-- `blocks::block_at` meets its contract: the part that it gives has 512 bytes. Assumes nothing.
use Rattle.std.proofs.Common.{◌≡◌, ◌+◌, ◌-◌, ◌*◌, arith}
use Rattle.dump.specs.Dump.{block_at}
use Rattle.blocks.proofs.block_at.Goals as goal

pub returns : goal.returns
unfolding block_at
returns c =
    let b = c.args.b in
    let size : b * 512 + 512 - b * 512 ≡ 512 = omega arith in
    simp size
