-- `magnitude::all_magnitudes` meets its contract: one block a turn of the loop. Assumes nothing.
use mathlib.Core.Path.{◌≡◌}
use mathlib.Core.List.{List}
use Prim.Native.Nat.{ℕ, ◌-◌, ◌+◌, ◌*◌}
use lib.ListN.{length}
use Rattle.poly.specs.Polynomial.{add}
use Rattle.field.specs.Element.{mul, inverse}
use Rattle.reedsolomon.specs.Quotient.{magnitude}
use Rattle.reedsolomon.specs.Row.{symbol, Symbols}
use Rattle.reedsolomon.specs.Steps.{Entries}
use Rattle.magnitude.proofs.all_magnitudes.Given as goal

abbrev pub meant : List ℕ → List ℕ → ℕ → ℕ → ℕ
meant g s k x = magnitude add (mul 6 67) 0 (inverse 6 67) k (symbol s) (λ j. symbol g (31 - k + j)) x

abbrev pub invariant-loop-b : goal.invariant-loop-b
invariant-loop-b l = (length l.ys ≡ 64) × Entries (l.b * 16) (λ i. meant l.g l.s l.k (symbol l.xs i)) l.ys × Symbols 6 l.ys
