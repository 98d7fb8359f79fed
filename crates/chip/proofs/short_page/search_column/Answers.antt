-- `chip::short_page::search_column` meets its contract: by the law that the search on keys is the search. Assumes nothing.
use Rattle.trellis.specs.Values.{level_values}
use Rattle.trellis.specs.Demand.{supercode}
use Rattle.search.proofs.ShortSearch.{given_short, level_table}
use Rattle.chip.proofs.ShortSearch.{search_short}
use Rattle.chip.proofs.short_page.search_column.Goals as goal

pub search-requires : goal.search-requires
search-requires c = record { given = rw c.requires.length (given_short _ _ _ _ c.requires.searchable30); leading = c.requires.leading }

pub returns : goal.returns
returns c i h tables = search_short i h _ _ _ _ tables _ _ (rw c.requires.length at c.search.ensures (level_values i) (level_table supercode i _ _ _ tables))
