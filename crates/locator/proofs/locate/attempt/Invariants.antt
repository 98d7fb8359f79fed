-- `locator::locate::attempt` meets its contract: one equation a turn of the loop. Assumes nothing.
use mathlib.Core.Path.{◌≡◌}
use lib.ListN.{length}
use Rattle.reedsolomon.specs.Steps.{RowAt}
use Rattle.locator.proofs.locate.attempt.Given as goal

abbrev pub invariant-loop-i : goal.invariant-loop-i
invariant-loop-i l = (length l.row ≡ 32) × RowAt 6 67 l.n l.m l.row l.b l.i
