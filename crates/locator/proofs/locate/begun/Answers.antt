use mathlib.Core.Path.{◌≡◌}
use Rattle.reedsolomon.proofs.Rows.{row_as_it_begins}
use native.Mathlib.Omega.{arith}
use Rattle.locator.proofs.locate.begun.Goals as goal

pub returns : goal.returns
returns c = let e : c.loop-i.i ≡ 16 = omega arith in row_as_it_begins 6 67 _ _ _ (omega arith) c.loop-i.invariant.0 (rw e at c.loop-i.invariant.1)
