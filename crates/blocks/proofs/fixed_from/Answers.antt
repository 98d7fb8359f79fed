use Rattle.std.proofs.Common.{◌≡◌, sym, ap, ◌∙◌, arith, rules, eq-eqb, ne_eqb}
use Rattle.dump.specs.Listed.{all_below}
use Rattle.dump.specs.Parts.{fixed_from}
use Rattle.dump.proofs.AllBelow.{all_more, all_not}
use Rattle.blocks.proofs.fixed_from.Invariants.{fixed_at}
use Rattle.blocks.proofs.fixed_from.Goals as goal

pub loop-k-init : goal.loop-k-init
unfolding all_below
loop-k-init c = search rules

pub returns-then-block-at : goal.returns-then-block-at
unfolding fixed_from
returns-then-block-at c =
    let at_loop = c in
    let args = at_loop.args in
    let told = c.fixed_byte in
    sym (all_not (fixed_at args.block.now args.b args.start) args.n at_loop.loop-k.k (omega arith) (ne_eqb _ _ (λ e. c.if-block-at.true (e ∙ sym told.ensures))))

pub loop-k-preserved : goal.loop-k-preserved
loop-k-preserved c =
    let at_loop = c in
    let args = at_loop.args in
    let told = c.fixed_byte in
    (all_more (fixed_at args.block.now args.b args.start) at_loop.loop-k.k at_loop.loop-k.invariant (eq-eqb _ _ (c.if-block-at.false ∙ told.ensures)))

pub returns : goal.returns
unfolding fixed_from
returns c =
    let at_loop = c in
    let args = at_loop.args in
    let whole : at_loop.loop-k.k ≡ args.n = omega arith in
    sym (ap (all_below (fixed_at args.block.now args.b args.start)) (sym whole) ∙ at_loop.loop-k.invariant)
