use mathlib.Core.Path.{sym, ap, ◌∙◌}
use lib.ListN.{length}
use Rattle.field.proofs.Short.{field64}
use Rattle.reedsolomon.proofs.ErasedColumns.{modified_inside, no_column_modified, nothing_to_modify, marked_column_modified, unmarked_column_passed}
use native.Mathlib.Omega.{arith}
use borrow.Author.Rules.{rules}
use Rattle.locator.proofs.erasure.modify_syndromes.Goals as goal
use Rattle.locator.proofs.erasure.modify_syndromes.Goals.{then-marks-j-eq1, else-marks-j-eq1}

pub returns-then-n-eq0 : goal.returns-then-n-eq0
returns-then-n-eq0 c =
    let s = c in
    record { left = nothing_to_modify 6 67 field64 63 s.args.marks.now s.args.s.now 32 63 (sym s.requires.3 ∙ c.if-n-eq0.true); inside = s.requires.2 }

pub loop-j-init : goal.loop-j-init
loop-j-init c = (search rules, no_column_modified 6 67 field64 63 c.args.marks.now c.args.s.now 32, c.requires.2)

pub loop-j-preserved : goal.loop-j-preserved
loop-j-preserved c =
    let a = c.args in
    let l = c.loop-j in
    let all = c.locators-all in (
      elim c.if-marks-j-eq1.branch [ then-marks-j-eq1 w ↦ ap length w.s-is ∙ w.modify.auto.s ∙ l.invariant.0 | else-marks-j-eq1 w ↦ ap length w.s-is ∙ l.invariant.0 ],
      elim c.if-marks-j-eq1.branch [
        | then-marks-j-eq1 w ↦ rw w.s-is (marked_column_modified 6 67 field64 63 a.marks.now a.s.now 32 l.j _ l.s w.modify.new.s w.if-marks-j-eq1.true
            (all.ensures l.j (omega arith)) l.invariant.1 w.modify.ensures)
        | else-marks-j-eq1 w ↦ rw w.s-is (unmarked_column_passed 6 67 field64 63 a.marks.now a.s.now 32 l.j l.s w.if-marks-j-eq1.false l.invariant.1)
      ],
      elim c.if-marks-j-eq1.branch [ then-marks-j-eq1 w ↦ rw w.s-is (modified_inside 6 67 field64 32 _ l.s w.modify.new.s l.invariant.2 w.modify.ensures) | else-marks-j-eq1 w ↦ rw w.s-is l.invariant.2 ],
    )
