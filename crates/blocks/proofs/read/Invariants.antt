-- `blocks::read` meets its contract. The loop's invariant: the values of the blocks passed stand in front. Assumes nothing.
use Rattle.std.proofs.Common.{◌≡◌, ℕ, ◌-◌, ◌*◌, ◌/◌, length, take}
use Rattle.dump.specs.Dump.{soft_of}
use Rattle.blocks.proofs.read.Given as goal

-- how many values the blocks before b hold
abbrev pub values_before : ℕ → ℕ
values_before b = b * 480 - b / 4 * 30

abbrev pub invariant-loop-b : goal.invariant-loop-b
invariant-loop-b l = (length l.out ≡ 1890) × (take (values_before l.b) l.out ≡ take (values_before l.b) (soft_of l.dump))
