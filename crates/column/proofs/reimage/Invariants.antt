-- `column::reimage` meets its contract. The loop's invariant: the words of the levels above i were taken off. Assumes nothing.
use mathlib.Core.Path.{◌≡◌}
use Prim.Native.Nat.{◌-◌, ◌<◌}
use Rattle.column.specs.Shape.{short}
use Rattle.column.specs.Level.{taken_off}
use Rattle.column.proofs.reimage.Given as goal

abbrev pub invariant-loop-i : goal.invariant-loop-i
invariant-loop-i l = (l.w ≡ taken_off short (4 - l.i) l.column) × (l.level < l.i)
