-- `column::remainder` meets its contract. The loop's invariant: what is left has the remainder of w, and no digit at d + i or above. Assumes nothing.
use mathlib.Core.Path.{◌≡◌}
use Prim.Native.Nat.{◌+◌, ◌^◌, ◌<◌}
use Rattle.poly.specs.Polynomial.{remainder}
use Rattle.column.proofs.remainder.Given as goal

abbrev pub invariant-loop-i : goal.invariant-loop-i
invariant-loop-i l = (l.r < 2 ^ (l.d + l.i)) × (remainder l.d l.g l.r ≡ remainder l.d l.g l.w)
