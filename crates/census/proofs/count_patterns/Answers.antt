-- `census::count_patterns` meets its contract: it counts from the start of the column without flips. Assumes nothing.
use mathlib.Core.Path.{◌∙◌}
use Rattle.census.proofs.Behind.{unflipped, from_the_start}
use Rattle.census.proofs.count_patterns.Goals as goal

pub count_from-requires : goal.count_from-requires
count_from-requires c = (c.requires.0, unflipped c.args.level c.requires.1)

pub returns : goal.returns
returns c = c.count_from.ensures ∙ from_the_start c.args.level c.args.ones
