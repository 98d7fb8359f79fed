-- `list_of_two::hard::checks_of` meets its contract: one entry a turn of the loop, from the last. Assumes nothing.
use Prim.Native.Nat.{◌<◌}
use Rattle.list_of_two.proofs.Checked.{MadeFrom}
use Rattle.list_of_two.proofs.hard.checks_of.Given as goal

abbrev pub invariant-loop-k : goal.invariant-loop-k
invariant-loop-k l = (h : l.level < 4) → MadeFrom l.level h l.k l.checks l.x l.rest
