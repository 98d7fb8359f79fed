-- The chip's `read` meets its contract: the search is the column's reading. Assumes nothing.
use mathlib.Core.Bool.{Bool, ◌||◌}
use mathlib.Core.Path.{ap, ◌∙◌}
use Rattle.trellis.specs.Demand.{supercode}
use Rattle.search.proofs.ShortSearch.{column_searchable}
use Rattle.chip.proofs.ShortSearch.{leading_tables}
use Rattle.readings.specs.Steps.{as_reading}
use Rattle.readings.proofs.RowReading.{soft_column_lem}
use Rattle.chip_pages.proofs.ChipColumns.{reads_it, pushes_it}
use Rattle.chip_pages.proofs.ChipReaderColumnReader.read.Goals as goal

pub search_column-ended-requires : goal.search_column-ended-requires
search_column-ended-requires c =
    let at = c.requires.by_index in
    let t = c.trellis.ensures in record {
      length = t.0;
      searchable30 = rw (t.1, t.2, t.3, t.4) (column_searchable supercode at.0 at.1 _ _ _ _ c.requires.soft.0 (soft_column_lem c.args.column.now c.requires.soft) at.2);
      leading = rw t.4 (leading_tables at.0 at.1 _ _ _ at.2);
    }

pub returns : goal.returns
returns c =
    let t = c.trellis.ensures in record {
      value = λ i h made. ap as_reading c.ok_or.ensures.value ∙ reads_it c.args.self.now.limit i c.args.column.now _ (rw t.1 at (c.search_column-ended.ensures i h (rw (t.2, t.3, t.4) made)));
      noted_value = λ i h made. ap (λ (b : Bool). c.args.scratch.now.pushed || b) (pushes_it c.args.self.now.limit i c.args.column.now _ (rw t.1 at (c.search_column-ended.ensures i h (rw (t.2, t.3, t.4) made))));
    }
