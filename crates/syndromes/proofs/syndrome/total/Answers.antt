use mathlib.Core.Path.{refl}
use Rattle.reedsolomon.specs.Sums.{sum}
use Rattle.reedsolomon.proofs.Lanes.{one_more_term}
use Rattle.syndromes.proofs.syndrome.total.Goals as goal

pub loop-i-init : goal.loop-i-init
unfolding sum
loop-i-init c = (refl)

pub loop-i-preserved : goal.loop-i-preserved
loop-i-preserved c = (one_more_term _ _ _ c.loop-i.invariant)
