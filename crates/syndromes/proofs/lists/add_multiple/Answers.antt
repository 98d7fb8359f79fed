use lib.ListN.{length-set}
use Rattle.reedsolomon.proofs.Fill.{one_more_added}
use native.Mathlib.Omega.{arith}
use Rattle.syndromes.proofs.lists.add_multiple.Goals as goal

pub loop-i-preserved : goal.loop-i-preserved
loop-i-preserved c =
    let l = c.loop-i in
    (simp length-set (omega arith), one_more_added _ _ _ _ _ l.invariant.1 (omega arith) c.product.ensures)
