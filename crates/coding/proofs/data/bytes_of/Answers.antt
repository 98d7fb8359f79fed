use Rattle.concatenated.proofs.Filling.{front_none}
use Rattle.concatenated.proofs.Digits.{repacked_length}
use Rattle.concatenated.proofs.DataGroups.{bytes_more}
use Rattle.coding.proofs.data.bytes_of.Goals as goal

pub loop-g-init : goal.loop-g-init
loop-g-init c = front_none _ _ 150 (repacked_length 64 4 256 3 50 _) c.requires.1

pub loop-g-preserved : goal.loop-g-preserved
loop-g-preserved c =
    let turn = c in
    bytes_more _ _ turn.loop-g.g c.pack-b.result turn.requires.0.0 c.loop-g-test.true turn.loop-g.invariant c.pack-b.ensures
