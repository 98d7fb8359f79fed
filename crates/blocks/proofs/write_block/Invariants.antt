-- `blocks::write_block` meets its contract. The loop's invariant: the bytes passed stand in front. Assumes nothing.
use Rattle.std.proofs.Common.{◌≡◌, length, take}
use Rattle.dump.specs.Listed.{listed}
use Rattle.dump.specs.Block.{body_byte}
use Rattle.blocks.proofs.write_block.Given as goal

abbrev pub invariant-loop-k : goal.invariant-loop-k
invariant-loop-k l = (length l.out ≡ 512) × (take l.k l.out ≡ listed (body_byte l.soft l.b) l.k)
