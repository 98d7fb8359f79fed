-- `chip::ChipStack::clear` meets its contract, by computing. Assumes nothing.
use mathlib.Core.Path.{refl}
use native.Mathlib.Omega.{arith}
use Rattle.chip.specs.Places.{listed}
use Rattle.chip.proofs.ChipStack.clear.Goals as goal

pub invariant_of-self : goal.invariant_of-self
unfolding listed
invariant_of-self c = (omega arith, tt)

pub returns : goal.returns
unfolding listed
returns c = refl
