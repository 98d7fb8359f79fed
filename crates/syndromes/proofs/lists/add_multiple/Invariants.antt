-- `syndromes::lists::add_multiple` meets its contract: one entry a turn of the loop. Assumes nothing.
use mathlib.Core.Path.{◌≡◌}
use mathlib.Core.List.{List}
use Prim.Native.Nat.{ℕ, ◌+◌}
use lib.ListN.{length}
use Rattle.poly.specs.Polynomial.{add}
use Rattle.field.specs.Element.{mul}
use Rattle.reedsolomon.specs.Row.{symbol}
use Rattle.reedsolomon.specs.Steps.{Written}
use Rattle.syndromes.proofs.lists.add_multiple.Given as goal

abbrev meant : List ℕ → ℕ → ℕ → List ℕ → ℕ → ℕ
meant b from f a i = add (symbol a i) (mul 6 67 f (symbol b (from + i)))

abbrev pub invariant-loop-i : goal.invariant-loop-i
invariant-loop-i l = (length l.a ≡ length l.initial.a) × Written l.i (meant l.b l.from l.f l.initial.a) l.initial.a l.a
