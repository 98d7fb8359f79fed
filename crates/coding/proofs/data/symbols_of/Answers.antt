use Rattle.concatenated.proofs.Filling.{front_none}
use Rattle.concatenated.proofs.Digits.{repacked_length}
use Rattle.concatenated.proofs.DataGroups.{symbols_more}
use borrow.Author.Rules.{rules}
use Rattle.coding.proofs.data.symbols_of.Goals as goal

pub loop-g-init : goal.loop-g-init
loop-g-init c = front_none _ _ 200 (repacked_length 256 3 64 4 50 _) (search rules)

pub loop-g-preserved : goal.loop-g-preserved
loop-g-preserved c =
    let turn = c in
    symbols_more _ _ turn.loop-g.g c.unpack-s.result turn.requires c.loop-g-test.true turn.loop-g.invariant c.unpack-s.ensures
