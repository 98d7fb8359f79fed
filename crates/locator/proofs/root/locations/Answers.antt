use lib.ListN.{length-set}
use Rattle.reedsolomon.proofs.Marks.{one_more_flagged}
use native.Mathlib.Omega.{arith}
use Rattle.locator.proofs.root.locations.Goals as goal

pub loop-j-preserved : goal.loop-j-preserved
loop-j-preserved c =
    (simp length-set (omega arith), one_more_flagged 6 67 _ _ _ _ _ (omega arith) c.loop-j.invariant.1 c.flag.ensures.0 c.flag.ensures.1)
