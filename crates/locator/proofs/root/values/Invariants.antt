-- `locator::root::values` meets its contract: one coefficient a turn of the loop. Assumes nothing.
use mathlib.Core.Path.{◌≡◌}
use Prim.Native.Nat.{suc}
use lib.ListN.{length}
use Rattle.field.proofs.Short.{field64}
use Rattle.reedsolomon.specs.Sums.{reversed}
use Rattle.reedsolomon.specs.Steps.{Entries, coefficient}
use Rattle.reedsolomon.proofs.Lanes.{value_at}
use Rattle.locator.proofs.root.values.Given as goal

abbrev pub invariant-loop-k : goal.invariant-loop-k
invariant-loop-k l = (length l.v ≡ 16) × Entries 16 (value_at 6 67 field64 l.k (reversed (suc l.d) (coefficient 6 67 l.row)) l.xs) l.v
