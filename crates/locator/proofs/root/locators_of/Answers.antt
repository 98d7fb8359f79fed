use mathlib.Core.Path.{◌≡◌, ap, ◌∙◌}
use Prim.Native.Nat.{◌≤◌}
use native.Mathlib.Nat.{not-suc-le-zero, lt_irrefl}
use lib.ListN.{length-set}
use lib.Seq.{get_or-set_other}
use Rattle.reedsolomon.specs.Words.{count}
use Rattle.reedsolomon.specs.Row.{symbol, marked}
use Rattle.reedsolomon.specs.Steps.{locator_at}
use Rattle.reedsolomon.proofs.Counting.{count_at_most}
use Rattle.reedsolomon.proofs.Marks.{none_counted, one_more_marked, one_more_unmarked, one_more_locator, locators_end}
use Rattle.reedsolomon.proofs.Remainders.{zeros_at}
use native.Mathlib.Omega.{arith}
use borrow.Author.Rules.{rules}
use Rattle.locator.proofs.root.locators_of.Goals as goal
use Rattle.locator.proofs.root.locators_of.Goals.{then-flags-j-eq1, else-flags-j-eq1}

pub loop-j-init : goal.loop-j-init
loop-j-init c = (search rules, none_counted _, λ i l. absurd (not-suc-le-zero l), λ i l. zeros_at 64 i)

pub bounds-xs-k : goal.bounds-xs-k
bounds-xs-k c = omega (arith, count_at_most (marked c.args.flags.now) c.loop-j.j)

pub overflow_add-k : goal.overflow_add-k
overflow_add-k c = omega (arith, count_at_most (marked c.args.flags.now) c.loop-j.j)

pub loop-j-preserved : goal.loop-j-preserved
loop-j-preserved c =
    let a = c.args in
    let l = c.loop-j in
    let n : count (marked a.flags.now) l.j ≤ l.j = count_at_most (marked a.flags.now) l.j in
    let p : symbol c.locators-all.result l.j ≡ locator_at 6 67 63 l.j = c.locators-all.ensures l.j (omega arith) in
    let up : l.k ≤ c.if-flags-j-eq1.k = elim c.if-flags-j-eq1.branch [ then-flags-j-eq1 w ↦ omega arith | else-flags-j-eq1 w ↦ omega arith ] in (
      simp length-set (omega arith),
      elim c.if-flags-j-eq1.branch [
        | then-flags-j-eq1 w ↦ omega (arith, one_more_marked a.flags.now l.j w.if-flags-j-eq1.true)
        | else-flags-j-eq1 w ↦ omega (arith, one_more_unmarked a.flags.now l.j w.if-flags-j-eq1.false)
      ],
      rw p (one_more_locator 6 67 63 a.flags.now l.xs l.j l.k l.invariant.1 (omega arith) l.invariant.2),
      λ i u. get_or-set_other l.xs l.k i _ 0 (λ y. lt_irrefl i (omega arith)) ∙ l.invariant.3 i (omega arith),
    )

pub bounds-xs-k-2 : goal.bounds-xs-k-2
bounds-xs-k-2 c = omega (arith, count_at_most (marked c.args.flags.now) c.loop-j.j)

pub returns : goal.returns
returns c =
    let a = c.args in
    let l = c.loop-j in
    let e : l.j ≡ 63 = omega arith in
    locators_end 6 67 63 a.flags.now l.xs l.k (l.invariant.1 ∙ ap (count (marked a.flags.now)) e)
    (omega (arith, count_at_most (marked a.flags.now) l.j)) (λ i u. l.invariant.2 i (omega arith)) l.invariant.3
