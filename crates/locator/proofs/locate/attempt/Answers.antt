use mathlib.Core.Path.{ap, ◌∙◌}
use lib.ListN.{length}
use Rattle.field.proofs.Short.{field64}
use Rattle.reedsolomon.proofs.Rows.{row_begins_at, row_meets_equation, slot_is_added}
use native.Mathlib.Omega.{arith}
use borrow.Author.Rules.{rules}
use Rattle.locator.proofs.locate.attempt.Goals as goal
use Rattle.locator.proofs.locate.attempt.Goals.{then-v-ne0+else-q-eq0, else-v-ne0}

pub loop-i-init : goal.loop-i-init
loop-i-init c =
    let s = c in
    (search rules, row_begins_at 6 67 field64 s.args.n s.args.m.now s.args.b c.begun-row.result s.requires.1 s.requires.0 s.requires.5 c.begun-row.ensures)

pub loop-i-preserved : goal.loop-i-preserved
loop-i-preserved c =
    let s = c in
    let a = s.args in
    let l = c.loop-i in (
      elim c.if-v-ne0.branch [ then-v-ne0+else-q-eq0 w ↦ ap length w.row-is ∙ w.combine.auto.row ∙ l.invariant.0 | else-v-ne0 w ↦ ap length w.row-is ∙ l.invariant.0 ],
      elim c.if-v-ne0.branch [
        | then-v-ne0+else-q-eq0 w ↦ rw w.row-is (slot_is_added 6 67 field64 a.n a.m.now a.slots.now a.qs.now l.row w.combine.new.row _ a.b l.i (omega arith) s.requires.0 s.requires.6
            w.if-q-eq0.false l.invariant.1 w.product-t.ensures w.combine.ensures)
        | else-v-ne0 w ↦ rw w.row-is (row_meets_equation 6 67 field64 a.n a.m.now l.row a.b l.i l.invariant.1 w.if-v-ne0.false)
      ],
    )
