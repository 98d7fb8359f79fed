-- `locator::erasure::modify` meets its contract: one entry a turn of the loop. Assumes nothing.
use mathlib.Core.Path.{◌≡◌}
use mathlib.Core.List.{List}
use Prim.Native.Nat.{ℕ, suc}
use lib.ListN.{length}
use Rattle.poly.specs.Polynomial.{add}
use Rattle.field.specs.Element.{mul}
use Rattle.reedsolomon.specs.Row.{symbol}
use Rattle.reedsolomon.specs.Steps.{Written}
use Rattle.locator.proofs.erasure.modify.Given as goal

abbrev meant : ℕ → List ℕ → ℕ → ℕ
meant y s i = add (symbol s (suc i)) (mul 6 67 y (symbol s i))

abbrev pub invariant-loop-i : goal.invariant-loop-i
invariant-loop-i l = (length l.s ≡ length l.initial.s) × Written l.i (meant l.y l.initial.s) l.initial.s l.s
