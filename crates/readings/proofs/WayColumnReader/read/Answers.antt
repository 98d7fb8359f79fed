-- A way's `read` meets its contract: the search is the column's reading. Assumes nothing.
use mathlib.Core.Path.{sym, ap, ◌∙◌}
use Rattle.search.specs.Outcomes.{search_of}
use Rattle.search.proofs.ShortSearch.{column_searchable}
use Rattle.list_of_two.specs.Ways.{choice_of}
use Rattle.readings.specs.Steps.{as_reading}
use Rattle.readings.proofs.RowReading.{soft_column_lem, reads_it}
use Rattle.readings.proofs.WayColumnReader.read.Goals as goal

pub search_by-requires-clause-searchable30 : goal.search_by-requires-clause-searchable30
search_by-requires-clause-searchable30 c =
    let w = c.args.self.now in
    let t = c.trellis-trellis.ensures in
    let at = c.requires.by_index in
    rw (t.1, t.2, t.3, t.4) (column_searchable (search_of w.in_supercodes) at.0 at.1 _ _ _ _ c.requires.soft.0 (soft_column_lem c.args.column.now c.requires.soft) at.2.0)

pub returns-clause-value : goal.returns-clause-value
returns-clause-value c i h made =
    let w = c.args.self.now in
    let t = c.trellis-trellis.ensures in
    let kind = search_of w.in_supercodes in
    ap as_reading c.ok_or.ensures.value ∙ reads_it (choice_of w) kind w.limit i c.args.column.now c.search_by.result
    (rw (sym t.1) (c.search_by.ensures kind i h (rw (t.2, t.3, t.4) made.0) (rw t.4 made.1)))
