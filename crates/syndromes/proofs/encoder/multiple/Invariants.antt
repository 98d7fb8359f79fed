-- `syndromes::encoder::multiple` meets its contract: one digit of f a turn of the loop. Assumes nothing.
use mathlib.Core.Path.{◌≡◌}
use Prim.Native.Nat.{ℕ, ◌/◌, ◌%◌, ◌^◌}
use lib.ListN.{get_or}
use Rattle.poly.specs.Polynomial.{add, scale}
use Rattle.reedsolomon.specs.Sums.{sum}
use Rattle.syndromes.proofs.encoder.multiple.Given as goal

abbrev pub invariant-loop-k : goal.invariant-loop-k
invariant-loop-k l = l.r ≡ sum add 0 l.k (λ (j : ℕ). scale (l.f / 2 ^ j % 2) (get_or l.ms j 0))
