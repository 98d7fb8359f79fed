-- `stack::Stack::push` meets its contract. The loop's invariant: the path is on its way up (`Rising`). Assumes nothing.
use mathlib.Core.Path.{◌≡◌}
use Rattle.heap.specs.Moves.{Rising}
use Rattle.stack.specs.Places.{path_key, row_keys, Upto}
use Rattle.stack.proofs.Stack.push.Given as goal

abbrev pub invariant-loop-i : goal.invariant-loop-i
invariant-loop-i l = (l.self-inside.paths ≡ l.initial.self-inside.paths) × Rising Upto (row_keys l.initial.self-inside.row) (row_keys l.self-inside.row) (path_key l.path) l.i l.initial.self-inside.paths

abbrev pub decreases-loop-i : goal.decreases-loop-i
decreases-loop-i l = l.i
