-- `magnitude::fold` meets its contract: one entry a turn of the loop. Assumes nothing.
use mathlib.Core.Path.{◌≡◌}
use mathlib.Core.List.{List}
use Prim.Native.Nat.{ℕ}
use lib.ListN.{length}
use Rattle.poly.specs.Polynomial.{add}
use Rattle.field.specs.Element.{mul}
use Rattle.reedsolomon.specs.Row.{symbol}
use Rattle.reedsolomon.specs.Steps.{Written}
use Rattle.magnitude.proofs.fold.Given as goal

abbrev meant : List ℕ → List ℕ → List ℕ → ℕ → ℕ
meant xs q d i = add (mul 6 67 (symbol xs i) (symbol d i)) (symbol q i)

abbrev pub invariant-loop-i : goal.invariant-loop-i
invariant-loop-i l = (length l.d ≡ length l.initial.d) × Written l.i (meant l.xs l.q l.initial.d) l.initial.d l.d
