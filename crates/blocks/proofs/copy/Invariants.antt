-- `blocks::copy` meets its contract. The loop's invariant: the first k bytes are copied. Assumes nothing.
use Rattle.std.proofs.Common.{◌≡◌, length, take}
use Rattle.blocks.proofs.copy.Given as goal

abbrev pub invariant-loop-k : goal.invariant-loop-k
invariant-loop-k l = (length l.to ≡ length l.from) × (take l.k l.to ≡ take l.k l.from)
