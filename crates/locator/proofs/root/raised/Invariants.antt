-- `locator::root::raised` meets its contract: one entry a turn of the loop. Assumes nothing.
use mathlib.Core.Path.{◌≡◌}
use mathlib.Core.List.{List}
use Prim.Native.Nat.{ℕ}
use lib.ListN.{length}
use Rattle.poly.specs.Polynomial.{add}
use Rattle.field.specs.Element.{mul}
use Rattle.reedsolomon.specs.Row.{symbol}
use Rattle.reedsolomon.specs.Steps.{Written}
use Rattle.locator.proofs.root.raised.Given as goal

abbrev meant : List ℕ → ℕ → List ℕ → ℕ → ℕ
meant xs c v i = add (mul 6 67 (symbol xs i) (symbol v i)) c

abbrev pub invariant-loop-i : goal.invariant-loop-i
invariant-loop-i l = (length l.v ≡ length l.initial.v) × Written l.i (meant l.xs l.c l.initial.v) l.initial.v l.v
