-- `locator::root::locations` meets its contract: one column a turn of the loop. Assumes nothing.
use mathlib.Core.Path.{◌≡◌}
use lib.ListN.{length}
use Rattle.reedsolomon.specs.Steps.{Flagged}
use Rattle.locator.proofs.root.locations.Given as goal

abbrev pub invariant-loop-j : goal.invariant-loop-j
invariant-loop-j l = (length l.flags ≡ 64) × Flagged 6 67 l.j l.marks l.values l.flags
