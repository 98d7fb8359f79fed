-- `list_of_two::hard::HardTables::checked_reading` meets its contract. The loop's invariant: the checked word of the bits read so far, in their places. Assumes nothing.
use mathlib.Core.Path.{◌≡◌}
use Prim.Native.Nat.{ℕ, ◌-◌, ◌*◌, ◌^◌, ◌<◌}
use Rattle.trellis.specs.Order.{number}
use Rattle.trellis.specs.TwoWords.{hard_path}
use Rattle.list_of_two.specs.Hard.{checked_word, ChecksFor}
use Rattle.list_of_two.proofs.hard.HardTables.checked_reading.Given as goal

abbrev pub invariant-loop-k : goal.invariant-loop-k
invariant-loop-k l = (i : ℕ) → i < 4 → ChecksFor i l.self.checks → l.read ≡ checked_word i (number (hard_path l.soft l.k) * 2 ^ (30 - l.k))
