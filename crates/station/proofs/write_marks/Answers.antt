use mathlib.Core.Path.{sym, ◌∙◌}
use native.Mathlib.Omega.{arith}
use Rattle.station.proofs.Marking.{marking_none, marking_more, marking_all}
use Rattle.station.proofs.write_marks.Goals as goal

pub loop-level-init : goal.loop-level-init
loop-level-init c = marking_none _ _ _ c.requires

pub slice_bounds-write_mark-end-in-loop-level : goal.slice_bounds-write_mark-end-in-loop-level
slice_bounds-write_mark-end-in-loop-level c =
    omega (arith, c.loop-level.invariant.long, c.loop-level-test.true)

pub loop-level-preserved : goal.loop-level-preserved
loop-level-preserved c =
    let taken = c.loop-level-test.true in
    marking_more _ _ _ c.requires _ _ c.loop-level.invariant taken _ c.write_mark.ensures _ c.write_mark-in-loop-level.ensures

pub shape_of-out : goal.shape_of-out
shape_of-out c = c.loop-level.invariant.long ∙ sym c.requires

pub returns : goal.returns
returns c =
    marking_all _ _ _ c.requires _ _ c.loop-level.invariant c.loop-level-test.false
