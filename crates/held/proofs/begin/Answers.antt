-- `held::begin` meets its contract. Assumes nothing.
use mathlib.Core.Path.{refl}
use Rattle.held.specs.Entry.{nothing_held, begun_held}
use Rattle.held.proofs.begin.Goals as goal

pub returns : goal.returns
unfolding nothing_held begun_held
returns c = rw (c.nothing.ensures, c.copy_from_slice.ensures.after) refl
