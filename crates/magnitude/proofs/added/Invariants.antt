-- `magnitude::added` meets its contract: one column a turn of the loop. Assumes nothing.
use mathlib.Core.Path.{◌≡◌}
use lib.ListN.{length}
use Rattle.reedsolomon.specs.Words.{count}
use Rattle.reedsolomon.specs.Row.{marked}
use Rattle.reedsolomon.specs.Steps.{Added}
use Rattle.magnitude.proofs.added.Given as goal

abbrev pub invariant-loop-j : goal.invariant-loop-j
invariant-loop-j l = (length l.v ≡ 64) × (l.k ≡ count (marked l.flags) l.j) × Added 6 67 l.j l.flags l.ys l.initial.v l.v
