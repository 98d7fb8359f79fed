-- `locator::locate::begun` meets its contract: one combination a turn of the loop, and then the 1. Assumes nothing.
use mathlib.Core.Path.{◌≡◌}
use Prim.Native.Nat.{◌+◌}
use lib.ListN.{length}
use Rattle.reedsolomon.specs.Row.{symbol}
use Rattle.reedsolomon.specs.Steps.{Written}
use Rattle.locator.proofs.locate.begun.Given as goal

abbrev pub invariant-loop-i : goal.invariant-loop-i
invariant-loop-i l = (length l.row ≡ 32) × Written l.i (λ h. symbol l.m (h + l.b)) l.initial.row l.row
