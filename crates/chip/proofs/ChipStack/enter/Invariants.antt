-- `chip::ChipStack::enter` meets its contract. The loop's invariant: place i is free, and those above it stand before the path that comes and have moved up. Assumes nothing.
use mathlib.Core.Path.{◌≡◌}
use Rattle.stack.specs.Places.{path_key, row_keys}
use Rattle.chip.proofs.Insertion.{Moved}
use Rattle.chip.proofs.ChipStack.enter.Given as goal

abbrev pub invariant-loop-i : goal.invariant-loop-i
invariant-loop-i l =
    (l.self-inside.pushed ≡ l.initial.self-inside.pushed) × Moved (row_keys l.initial.self-inside.row) (row_keys l.self-inside.row) (path_key l.path) l.i l.initial.self-inside.paths

abbrev pub decreases-loop-i : goal.decreases-loop-i
decreases-loop-i l = l.i
