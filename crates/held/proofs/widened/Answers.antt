use mathlib.Core.Path.{◌≡◌, refl, sym, ◌∙◌}
use lib.ListN.{length, length-set, get_or}
use lib.Seq.{ext_get_or}
use Rattle.held.proofs.Widths.{one_more_filled}
use native.Mathlib.Omega.{arith}
use borrow.Author.Rules.{rules}
use Rattle.held.proofs.widened.Goals as goal

pub loop-k-init : goal.loop-k-init
loop-k-init c = (refl, λ j h. absurd (omega arith))

pub loop-k-preserved : goal.loop-k-preserved
loop-k-preserved c =
    let i = c.loop-k in
    let bits = c.args.bits.now in
    let full : length i.wide ≡ 2002 = i.invariant.0 in
    (length-set i.wide _ _ ∙ full, one_more_filled (λ j v. v ≡ get_or bits j 0) i.wide i.k _ (omega (arith, full, c.loop-k-test.true)) i.invariant.1 c.from.ensures)

pub returns : goal.returns
returns c =
    let i = c.loop-k in
    let from : length c.args.bits.now ≡ 2002 = search rules in
    ext_get_or 0 _ _ (i.invariant.0 ∙ sym from) (λ j l. i.invariant.1 j (omega (arith, l, i.invariant.0, c.loop-k-test.false)))
