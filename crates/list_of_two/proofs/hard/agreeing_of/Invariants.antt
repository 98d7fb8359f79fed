-- `list_of_two::hard::agreeing_of` meets its contract: one entry a turn of the loop. Assumes nothing.
use Rattle.list_of_two.proofs.Reading.{PickedTo}
use Rattle.list_of_two.proofs.hard.agreeing_of.Given as goal

abbrev pub invariant-loop-q : goal.invariant-loop-q
invariant-loop-q l = PickedTo l.q l.values l.agreeing
