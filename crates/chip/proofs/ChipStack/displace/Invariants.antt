-- `chip::ChipStack::displace` meets its contract. The loop's invariant: place i is free, and those up to it do not stand before the path that comes and, but for the last, have moved down. Assumes nothing.
use mathlib.Core.Bool.{true}
use mathlib.Core.Path.{◌≡◌}
use Prim.Native.Nat.{◌-◌}
use Rattle.stack.specs.Places.{path_key, row_keys}
use Rattle.chip.proofs.Insertion.{Lowered}
use Rattle.chip.proofs.ChipStack.displace.Given as goal

abbrev pub invariant-loop-i : goal.invariant-loop-i
invariant-loop-i l =
    (l.self-inside.paths ≡ l.initial.self-inside.paths) × (l.self-inside.pushed ≡ true) × Lowered (row_keys l.initial.self-inside.row) (row_keys l.self-inside.row) (path_key l.path) l.i 63

abbrev pub decreases-loop-i : goal.decreases-loop-i
decreases-loop-i l = 62 - l.i
