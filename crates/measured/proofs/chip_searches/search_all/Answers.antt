use Rattle.std.proofs.Common.{◌+◌, ◌-◌, ◌*◌, ◌≤◌, length, take, drop, ap, arith}
use mathlib.Core.Path.{◌∙◌}
use Rattle.trellis.specs.Demand.{supercode}
use Rattle.search.proofs.ShortSearch.{column_searchable}
use Rattle.chip.proofs.ShortSearch.{leading_tables}
use Rattle.measured.specs.Folds.{chip_folded, chip_number}
use Rattle.measured.proofs.Parts.{part_long, part_range, none_folded, one_more_folded}
use Rattle.measured.proofs.chip_searches.search_all.Goals as goal

pub loop-j-init : goal.loop-j-init
loop-j-init c = none_folded _ _

pub search_column-ended-requires-clause-searchable30 : goal.search_column-ended-requires-clause-searchable30
search_column-ended-requires-clause-searchable30 c =
    let soft = c.args.soft.now in
    let a = c.loop-j.j * 30 in
    let fits : a + 30 ≤ length soft = omega (arith, c.loop-j-test.true) in
    let t = c.trellis.ensures in
    rw (t.1, t.2, t.3, t.4) (column_searchable supercode c.args.level c.requires.level_bound (take (a + 30 - a) (drop a soft)) _ _ _ (part_long soft a fits) (part_range soft a fits c.requires.by_index) c.tables_of-tables.ensures)

pub search_column-ended-requires-clause-leading : goal.search_column-ended-requires-clause-leading
search_column-ended-requires-clause-leading c = rw c.trellis.ensures.4 (leading_tables c.args.level c.requires.level_bound _ _ _ c.tables_of-tables.ensures)

pub loop-j-preserved : goal.loop-j-preserved
loop-j-preserved c =
    let t = c.trellis.ensures in
    let outcome = c.search_column-ended.ensures c.args.level c.requires.level_bound (rw (t.2, t.3, t.4) c.tables_of-tables.ensures) in
    one_more_folded (chip_number c.args.level c.args.limit) c.args.soft.now c.loop-j.j _ _ c.loop-j.invariant (c.chip_folded-fold.ensures ∙ ap chip_folded (rw t.1 at outcome))
