use mathlib.Core.Path.{ap, ◌∙◌}
use lib.ListN.{length, length-set}
use Rattle.reedsolomon.specs.Row.{marked}
use Rattle.reedsolomon.proofs.Counting.{count_at_most}
use Rattle.reedsolomon.proofs.Marks.{none_counted, one_more_marked, one_more_unmarked, none_added, one_more_added, one_more_passed}
use native.Mathlib.Omega.{arith}
use borrow.Author.Rules.{rules}
use Rattle.magnitude.proofs.added.Goals as goal
use Rattle.magnitude.proofs.added.Goals.{then-flags-j-eq1, else-flags-j-eq1}

pub loop-j-init : goal.loop-j-init
loop-j-init c = (search rules, none_counted _, none_added 6 67 _ _ _)

pub bounds-ys-k : goal.bounds-ys-k
bounds-ys-k c = omega (arith, count_at_most (marked c.args.flags.now) c.loop-j.j)

pub overflow_add-k : goal.overflow_add-k
overflow_add-k c = omega (arith, count_at_most (marked c.args.flags.now) c.loop-j.j)

pub loop-j-preserved : goal.loop-j-preserved
loop-j-preserved c =
    let a = c.args in
    let l = c.loop-j in (
      elim c.if-flags-j-eq1.branch [ then-flags-j-eq1 w ↦ ap length w.v-is ∙ simp length-set l.invariant.0 | else-flags-j-eq1 w ↦ ap length w.v-is ∙ l.invariant.0 ],
      elim c.if-flags-j-eq1.branch [
        | then-flags-j-eq1 w ↦ omega (arith, one_more_marked a.flags.now l.j w.if-flags-j-eq1.true)
        | else-flags-j-eq1 w ↦ omega (arith, one_more_unmarked a.flags.now l.j w.if-flags-j-eq1.false)
      ],
      elim c.if-flags-j-eq1.branch [
        | then-flags-j-eq1 w ↦ rw w.v-is (one_more_added 6 67 _ _ _ _ _ _ (omega arith) l.invariant.1 w.if-flags-j-eq1.true l.invariant.2)
        | else-flags-j-eq1 w ↦ rw w.v-is (one_more_passed 6 67 _ _ _ _ _ w.if-flags-j-eq1.false l.invariant.2)
      ],
    )
