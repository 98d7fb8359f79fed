-- `search::short_page::values` meets its contract: the sixteen entries, computed. Assumes nothing.
use mathlib.Core.Path.{refl}
use Rattle.column.specs.Tabulated.{tabulated}
use Rattle.trellis.specs.Values.{branch, reading, doubt}
use Rattle.search.proofs.short_page.values.Goals as goal

pub returns : goal.returns
unfolding tabulated branch reading doubt
returns c = refl
