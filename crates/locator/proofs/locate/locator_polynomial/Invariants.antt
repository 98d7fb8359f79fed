-- `locator::locate::locator_polynomial` meets its contract: one row a turn of the loop, and each that does not finish uses one slot more. Assumes nothing.
use mathlib.Core.Path.{◌≡◌}
use native.Mathlib.Decide.{ℕ_discrete}
use lib.ListN.{length}
use Rattle.reedsolomon.specs.Words.{nonzeros}
use Rattle.reedsolomon.specs.Row.{symbol}
use Rattle.reedsolomon.specs.Steps.{SlotsAt}
use Rattle.locator.proofs.locate.locator_polynomial.Given as goal

abbrev pub invariant-loop-b : goal.invariant-loop-b
invariant-loop-b l = (length l.slots ≡ 512) × (length l.qs ≡ 16) × (nonzeros ℕ_discrete 0 l.n (symbol l.qs) ≡ l.b) × SlotsAt 6 67 l.n l.m l.slots l.qs l.b
