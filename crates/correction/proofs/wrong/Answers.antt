use Prim.Native.Nat.{◌+◌}
use Rattle.reedsolomon.proofs.Marks.{none_wrong, wrongs_at_most, one_more_compared}
use native.Mathlib.Omega.{arith}
use Rattle.correction.proofs.wrong.Goals as goal

pub loop-j-init : goal.loop-j-init
loop-j-init c = let a = c.args in (none_wrong a.marks.now a.w.now a.v.now)

pub overflow_add-e : goal.overflow_add-e
overflow_add-e c =
    let a = c.args in
    let l = c.loop-j in
    omega (
      arith,
      one_more_compared a.marks.now a.w.now a.v.now l.j l.e c.differs-e.result l.invariant c.differs-e.ensures,
      wrongs_at_most a.marks.now a.w.now a.v.now (l.j + 1),
    )

pub loop-j-preserved : goal.loop-j-preserved
loop-j-preserved c =
    let a = c.args in
    let l = c.loop-j in
    (one_more_compared a.marks.now a.w.now a.v.now l.j l.e c.differs-e.result l.invariant c.differs-e.ensures)
