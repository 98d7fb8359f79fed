-- `list_of_two::hard::HardTables::low_of_reading` meets its contract. The loop's invariant: the sum of the bits read so far, and the lowest of the sums. Assumes nothing.
use Prim.Native.Nat.{◌*◌, ◌≤◌}
use lib.IntN.{nat_abs}
use Rattle.trellis.specs.Values.{Values}
use Rattle.list_of_two.specs.Hard.{Agreeing}
use Rattle.list_of_two.proofs.Reading.{ReadTo}
use Rattle.list_of_two.proofs.hard.HardTables.low_of_reading.Given as goal

abbrev pub invariant-loop-k : goal.invariant-loop-k
invariant-loop-k l = (nat_abs l.sum ≤ 60 * l.k) × ((vs : Values) → Agreeing vs l.self.agreeing → ReadTo vs l.soft l.k l.sum l.low)
