-- `store_searches::search_allowed` meets its contract: the tables are those of the search, and the way is the choice's. Assumes nothing.
use mathlib.Core.Path.{sym, ap, ◌∙◌, subst⁻¹}
use Prim.Native.Nat.{ℕ, ◌≤◌}
use Rattle.std.specs.Prelude.{is_some}
use Rattle.search.specs.Outcomes.{search_of}
use Rattle.search.proofs.ShortSearch.{column_searchable, level_table_near}
use Rattle.list_of_two.specs.Ways.{choice}
use Rattle.searches.proofs.Outcomes.{answered_as, by_its_way}
use Rattle.store_searches.proofs.search_allowed.Goals as goal

pub tables_of-hard-requires : goal.tables_of-hard-requires
tables_of-hard-requires c =
    let level = c.requires.0.level in record {
      level_bound = level;
      by_index = level_table_near _ _ level _ _ _ c.tables_of-tables.ensures;
    }

pub search_by-found-requires : goal.search_by-found-requires
search_by-found-requires c =
    let allowed = c.requires.0 in
    let way = c.way_of-way.ensures in
    let given = c.trellis.ensures in record {
      limit_bound = subst⁻¹ (λ (l : ℕ). l ≤ 2000) way.0 allowed.most;
      length = given.0;
      searchable30 = rw (given.1, given.2, given.3, given.4)
          (column_searchable (search_of c.args.in_supercodes) c.args.level allowed.level c.args.soft.now _ _ _ allowed.full allowed.range c.tables_of-tables.ensures);
      by_index = (c.args.level, allowed.level, λ with_list. rw given.4 (c.tables_of-hard.ensures.2 (c.is_some.ensures ∙ sym (ap is_some way.2) ∙ with_list)));
    }

pub returns : goal.returns
returns c =
    let allowed = c.requires.0 in
    let way = c.way_of-way.ensures in
    let given = c.trellis.ensures in
    let tables = c.tables_of-tables.ensures in
    let found = c.search_by-found.ensures (search_of c.args.in_supercodes) c.args.level allowed.level (rw (given.2, given.3, given.4) tables)
    (λ with_list. rw given.4 (c.tables_of-hard.ensures.2 (c.is_some.ensures ∙ sym (ap is_some way.2) ∙ with_list))) in
    c.as_answer.ensures ∙ answered_as _ found
    ∙ rw given.1 (by_its_way c.way_of-way.result _ _ (ap choice way.2) way.0 (search_of c.args.in_supercodes) c.args.soft.now c.args.level)
