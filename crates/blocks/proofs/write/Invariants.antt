-- `blocks::write` meets its contract. The loop's invariant: the blocks passed stand in front. Assumes nothing.
use Rattle.std.proofs.Common.{◌≡◌, ◌*◌, length, take}
use Rattle.dump.specs.Dump.{dump_of}
use Rattle.blocks.proofs.write.Given as goal

abbrev pub invariant-loop-b : goal.invariant-loop-b
invariant-loop-b l = (length l.out ≡ 2048) × (take (l.b * 512) l.out ≡ take (l.b * 512) (dump_of l.soft))
