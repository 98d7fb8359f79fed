-- `syndromes::encoder::pick` meets its contract: the digit is 1 or 0. Assumes nothing.
use native.Mathlib.Omega.{arith}
use Rattle.poly.proofs.Sum.{scale_set, scale_unset}
use Rattle.syndromes.proofs.encoder.pick.Goals as goal

pub returns-then-q-eq1 : goal.returns-then-q-eq1
returns-then-q-eq1 c = scale_set _ _ (omega arith)

pub returns-else-q-eq1 : goal.returns-else-q-eq1
returns-else-q-eq1 c = scale_unset _ _ (omega arith)
