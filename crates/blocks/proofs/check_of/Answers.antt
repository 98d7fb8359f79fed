use Rattle.std.proofs.Common.{◌≡◌, ℕ, ◌+◌, ◌*◌, get_or, ap, arith, rules}
use Rattle.dump.specs.Check.{weighted}
use Rattle.dump.proofs.Check.{weighted_more}
use Rattle.blocks.proofs.check_of.Goals as goal

pub loop-k-init : goal.loop-k-init
unfolding weighted
loop-k-init c = search rules

pub loop-k-preserved : goal.loop-k-preserved
loop-k-preserved c =
    let block = c.args.block.now in
    let k = c.loop-k.k in
    let term : (k + 1) * c.from.result ≡ (k + 1) * get_or block k 0 = ap (λ (x : ℕ). (k + 1) * x) c.from.ensures in
    omega (arith, weighted_more block k, term, c.loop-k.invariant)
