-- `magnitude::magnitudes` meets its contract: the three recurrences, one coefficient a turn of the loop. Assumes nothing.
use mathlib.Core.Path.{◌≡◌}
use mathlib.Core.List.{List}
use Prim.Native.Nat.{ℕ, ◌-◌, ◌+◌}
use lib.ListN.{length}
use Rattle.poly.specs.Polynomial.{add}
use Rattle.field.specs.Element.{mul}
use Rattle.field.proofs.Short.{field64}
use Rattle.reedsolomon.specs.Quotient.{denominator, numerator}
use Rattle.reedsolomon.specs.Row.{symbol}
use Rattle.reedsolomon.specs.Steps.{Entries}
use Rattle.reedsolomon.proofs.Lanes.{value_at}
use Rattle.magnitude.proofs.magnitudes.Given as goal

-- the coefficients of the polynomial, the highest first
abbrev pub from : List ℕ → ℕ → ℕ → ℕ
from g k j = symbol g (31 - k + j)

abbrev pub invariant-loop-j : goal.invariant-loop-j
invariant-loop-j l = (length l.q ≡ 16) × (length l.d ≡ 16) × (length l.a ≡ 16) × Entries 16 (value_at 6 67 field64 l.j (from l.g l.k) l.xs) l.q × Entries 16 (λ i. denominator add (mul 6 67) 0 (from l.g l.k) (symbol l.xs i) l.j) l.d × Entries 16 (λ i. numerator add (mul 6 67) 0 l.k (symbol l.s) (from l.g l.k) (symbol l.xs i) l.j) l.a
