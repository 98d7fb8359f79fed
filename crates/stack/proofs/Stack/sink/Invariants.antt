-- `stack::Stack::sink` meets its contract. The loop's invariant: the path is on its way down (`Sinking`). Assumes nothing.
use Prim.Native.Nat.{◌-◌}
use mathlib.Core.Path.{◌≡◌}
use Rattle.heap.specs.Heap.{Every}
use Rattle.heap.specs.Moves.{Sinking}
use Rattle.stack.specs.Places.{path_key, row_keys, Small, Upto}
use Rattle.stack.proofs.Stack.sink.Given as goal

abbrev pub invariant-loop-i : goal.invariant-loop-i
invariant-loop-i l =
    (l.self-inside.paths ≡ l.initial.self-inside.paths) × (l.paths ≡ l.initial.self-inside.paths) × Every Small (row_keys l.self-inside.row) l.paths × Sinking Upto (row_keys l.initial.self-inside.row) (row_keys l.self-inside.row) (path_key l.path) l.i l.paths

abbrev pub decreases-loop-i : goal.decreases-loop-i
decreases-loop-i l = l.paths - l.i
