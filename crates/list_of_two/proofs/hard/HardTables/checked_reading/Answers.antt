use Rattle.list_of_two.proofs.Checked.{nothing_read, one_more_read}
use Rattle.list_of_two.proofs.hard.HardTables.checked_reading.Goals as goal

pub loop-k-init : goal.loop-k-init
loop-k-init c = λ i level made. nothing_read i level _

pub loop-k-preserved : goal.loop-k-preserved
loop-k-preserved c = λ i level made. rw c.from.ensures (one_more_read i level _ _ made c.loop-k.k _ c.loop-k-test.true (c.requires.by_index c.loop-k.k c.loop-k-test.true) (c.loop-k.invariant i level made))
