-- `chip::ChipStack::new` meets its contract, by computing. Assumes nothing.
use mathlib.Core.Path.{refl}
use native.Mathlib.Omega.{arith}
use Rattle.chip.specs.Places.{listed}
use Rattle.chip.proofs.ChipStack.new.Goals as goal

pub invariant_of-result : goal.invariant_of-result
unfolding listed
invariant_of-result c = (omega arith, tt)

pub returns : goal.returns
unfolding listed
returns c = refl
