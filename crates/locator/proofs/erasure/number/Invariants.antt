-- `locator::erasure::number` meets its contract: one mark a turn of the loop. Assumes nothing.
use mathlib.Core.Path.{◌≡◌}
use Rattle.reedsolomon.specs.Words.{count}
use Rattle.reedsolomon.specs.Row.{marked}
use Rattle.locator.proofs.erasure.number.Given as goal

abbrev pub invariant-loop-j : goal.invariant-loop-j
invariant-loop-j l = l.n ≡ count (marked l.marks) l.j
