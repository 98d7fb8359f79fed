-- `blocks::check_of` meets its contract. The loop's invariant: the running sum is the weighted sum of the bytes passed, modulo 65,536. Assumes nothing.
use Rattle.std.proofs.Common.{◌≡◌, ◌%◌}
use Rattle.dump.specs.Check.{weighted}
use Rattle.blocks.proofs.check_of.Given as goal

abbrev pub invariant-loop-k : goal.invariant-loop-k
invariant-loop-k l = l.sum ≡ weighted l.block l.k % 65536
