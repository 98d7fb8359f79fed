-- `magnitude::products` meets its contract: one entry a turn of the loop. Assumes nothing.
use mathlib.Core.Path.{◌≡◌}
use mathlib.Core.List.{List}
use Prim.Native.Nat.{ℕ}
use lib.ListN.{length}
use Rattle.field.specs.Element.{mul}
use Rattle.reedsolomon.specs.Row.{symbol}
use Rattle.reedsolomon.specs.Steps.{Written}
use Rattle.magnitude.proofs.products.Given as goal

abbrev meant : List ℕ → List ℕ → ℕ → ℕ
meant b a i = mul 6 67 (symbol a i) (symbol b i)

abbrev pub invariant-loop-i : goal.invariant-loop-i
invariant-loop-i l = (length l.c ≡ length l.initial.c) × Written l.i (meant l.b l.initial.c) l.initial.c l.c
