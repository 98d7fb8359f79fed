-- `held::nothing` meets its contract, by computing. Assumes nothing.
use mathlib.Core.Path.{refl}
use Rattle.held.specs.Entry.{nothing_held}
use Rattle.held.proofs.nothing.Goals as goal

pub returns : goal.returns
unfolding nothing_held
returns c = refl
