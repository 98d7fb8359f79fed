use mathlib.Core.Path.{◌∙◌}
use Rattle.field.proofs.Short.{field64}
use Rattle.reedsolomon.proofs.Lanes.{no_block, one_more_block}
use borrow.Author.Rules.{rules}
use Rattle.syndromes.proofs.syndrome.summed.Goals as goal

pub loop-b-init : goal.loop-b-init
loop-b-init c = let a = c.args in (search rules, no_block 6 67 field64 a.t a.w.now a.xs.now a.s)

pub loop-b-preserved : goal.loop-b-preserved
loop-b-preserved c =
    let a = c.args in
    let l = c.loop-b in
    let x = c.block-x in
    let y = c.block-y in
    let f = c.add_sums in (
      f.auto.s ∙ l.invariant.0,
      one_more_block 6 67 field64 a.t l.b a.w.now a.xs.now x.result y.result a.s l.r f.new.s x.ensures y.ensures l.invariant.1
          f.ensures,
    )
