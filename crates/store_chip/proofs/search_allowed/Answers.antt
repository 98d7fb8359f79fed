-- `store_chip::search_allowed` meets its contract: the tables are those of the supercode search, and the outcome is told. Assumes nothing.
use mathlib.Core.Path.{◌∙◌}
use Rattle.trellis.specs.Demand.{supercode}
use Rattle.search.proofs.ShortSearch.{column_searchable}
use Rattle.chip.proofs.ShortSearch.{leading_tables}
use Rattle.store_chip.proofs.Answers.{outcome_is_answered}
use Rattle.store_chip.proofs.search_allowed.Goals as goal

pub search_column-ended-requires : goal.search_column-ended-requires
search_column-ended-requires c =
    let tables = c.tables_of-tables.ensures in
    let allowed = c.requires in
    let t = c.trellis.ensures in record {
      length = t.0;
      searchable30 = rw (t.1, t.2, t.3, t.4) (column_searchable supercode c.args.level allowed.level c.args.soft.now _ _ _ allowed.full allowed.range tables);
      leading = rw t.4 (leading_tables c.args.level allowed.level _ _ _ tables);
    }

pub returns : goal.returns
returns c =
    let t = c.trellis.ensures in
    c.as_answer.ensures ∙ outcome_is_answered _ _ _ (rw t.1 at (c.search_column-ended.ensures c.args.level c.requires.level (rw (t.2, t.3, t.4) c.tables_of-tables.ensures)))
