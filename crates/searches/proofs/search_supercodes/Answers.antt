-- `searches::search_supercodes` meets its contract: the masks of the level are those of its supercodes, and no second word is sought. Assumes nothing.
use mathlib.Core.Bool.{true≢false}
use mathlib.Core.Path.{refl, sym, ap, ◌∙◌, subst⁻¹}
use Prim.Native.Nat.{ℕ, ◌≤◌}
use Rattle.std.specs.Prelude.{is_some}
use Rattle.trellis.specs.TwoWords.{off}
use Rattle.trellis.specs.Demand.{supercode}
use Rattle.list_of_two.specs.Ways.{choice}
use Rattle.search.proofs.Tables.{supercode_tables}
use Rattle.search.proofs.ShortSearch.{column_searchable}
use Rattle.searches.proofs.Outcomes.{answered_as, by_its_way}
use Rattle.searches.proofs.search_supercodes.Goals as goal

pub search_by-requires : goal.search_by-requires
search_by-requires c =
    let allowed = c.requires.1 in
    let tables = supercode_tables c.args.level c.args.masks.now _ allowed.level c.requires.0 c.level_values-values.ensures in
    let way = c.way_of-way.ensures in record {
      limit_bound = subst⁻¹ (λ (l : ℕ). l ≤ 2000) way.0 allowed.most;
      length = refl;
      searchable30 = column_searchable supercode c.args.level allowed.level c.args.column.now _ _ _ allowed.full allowed.range tables;
      by_index = (c.args.level, allowed.level, λ with_list. absurd (true≢false (sym with_list ∙ ap is_some way.2)));
    }

pub returns : goal.returns
returns c =
    let allowed = c.requires.1 in
    let tables = supercode_tables c.args.level c.args.masks.now _ allowed.level c.requires.0 c.level_values-values.ensures in
    let way = c.way_of-way.ensures in
    c.as_answer.ensures ∙ answered_as _ (c.search_by.ensures supercode c.args.level allowed.level tables (λ with_list. absurd (true≢false (sym with_list ∙ ap is_some way.2))))
    ∙ by_its_way c.way_of-way.result off c.args.limit (ap choice way.2) way.0 supercode c.args.column.now c.args.level
