-- `syndromes::lists::block` meets its contract: one entry a turn of the loop. Assumes nothing.
use mathlib.Core.Path.{◌≡◌}
use mathlib.Core.List.{List}
use Prim.Native.Nat.{ℕ, ◌+◌, ◌*◌}
use lib.ListN.{length}
use Rattle.reedsolomon.specs.Row.{symbol}
use Rattle.reedsolomon.specs.Steps.{Written}
use Rattle.syndromes.proofs.lists.block.Given as goal

abbrev meant : List ℕ → ℕ → ℕ → ℕ
meant a b i = symbol a (b * 16 + i)

abbrev pub invariant-loop-i : goal.invariant-loop-i
invariant-loop-i l = (length l.r ≡ length l.initial.r) × Written l.i (meant l.a l.b) l.initial.r l.r
