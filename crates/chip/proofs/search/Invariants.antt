-- `chip::search` meets its contract. The loop's invariant: the stack is that of the specification but for the last path taken, and the run goes on from there as it does from the start. Assumes nothing.
use Rattle.stack.specs.Places.{path_key}
use Rattle.extension.specs.Lent.{nodes_of}
use Rattle.chip.proofs.Loop.{Going}
use Rattle.chip.proofs.search.Given as goal

abbrev pub invariant-loop-count : goal.invariant-loop-count
invariant-loop-count l = Going (nodes_of l.trellis) l.trellis.n l.stack l.count (path_key l.last) l.low
