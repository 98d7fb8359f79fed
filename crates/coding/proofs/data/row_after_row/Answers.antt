use Rattle.concatenated.proofs.DataGroups.{no_row_behind, one_more_row_behind}
use native.Mathlib.Omega.{arith}
use Rattle.coding.proofs.Put.{put_is_pasted}
use Rattle.coding.proofs.data.row_after_row.Goals as goal

pub loop-level-init : goal.loop-level-init
loop-level-init c = no_row_behind _ _ c.requires.1

pub loop-level-preserved : goal.loop-level-preserved
loop-level-preserved c =
    let turn = c in
    let start = turn in
    let h = c.loop-level-test.true in
    one_more_row_behind _ _ _ _ turn.loop-level.invariant h start.requires.0.four (start.requires.0.words turn.loop-level.level h).0 (put_is_pasted 63 _ _ _ _ (omega (arith, (start.requires.0.words turn.loop-level.level h).0)) (omega (arith, turn.loop-level.invariant.long_out, h)) c.put.auto.b c.put.ensures)
