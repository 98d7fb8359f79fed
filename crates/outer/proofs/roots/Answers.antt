-- `outer::roots` meets its contract: the table is that of the definition. Assumes nothing.
use mathlib.Core.Path.{refl}
use Rattle.reedsolomon.specs.ShortRows.{short_roots}
use Rattle.reedsolomon.proofs.ShortRows.{at_most_30_roots}
use Rattle.outer.proofs.roots.Goals as goal

pub returns : goal.returns
unfolding short_roots
returns c = (refl, at_most_30_roots c.args.level)
