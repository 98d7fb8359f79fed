-- `checker::judge` meets its contract. The loop's invariant: so many lines are right, and the judge of the specification goes on from there. Assumes nothing.
use Rattle.stack.specs.Places.{path_key, places}
use Rattle.extension.specs.Lent.{nodes_of}
use Rattle.checker.proofs.Loop.{Judging}
use Rattle.checker.proofs.judge.Given as goal

abbrev pub invariant-loop-k : goal.invariant-loop-k
invariant-loop-k l = Judging (nodes_of l.trellis) l.trellis.n l.lengths l.numbers (places l.stack) l.stack.paths l.k (path_key l.last)
