-- `held::go_on` meets its contract. Assumes nothing.
use mathlib.Core.Path.{refl, sym, ◌∙◌, subst⁻¹}
use mir.Syntax.{w16}
use mir.Val.{SFits}
use Rattle.trellis.specs.Keys.{key_nodes}
use Rattle.stack.specs.Places.{Stacked, path_key, places, row_keys}
use Rattle.search.specs.Progress.{Standing, Reached}
use Rattle.held.specs.Entry.{last_of}
use mir.Facts.{to_z-of_z}
use Rattle.trellis.specs.Values.{level_values}
use Rattle.trellis.specs.Demand.{supercode}
use Rattle.search.proofs.ShortSearch.{given_short, level_table, column_searchable}
use Rattle.held.specs.State.{Stopped}
use Rattle.held.proofs.Widths.{standing_same, reached_same, narrowed_same}
use Rattle.held.proofs.GoesOn.{found_by_going_on, stops_again, spent_has_no_word}
use borrow.Author.Rules.{rules}
use Rattle.held.proofs.go_on.Goals.{Start}
use Rattle.held.proofs.go_on.Goals as goal

pub run-end-requires-clause-given : goal.run-end-requires-clause-given
run-end-requires-clause-given c =
    let t = c.trellis.ensures in
    let ready = c.requires.ready in
    rw (t.0, t.1, t.2, t.3, t.4) (given_short _ _ _ _ (column_searchable supercode c.args.held.level ready.level _ _ _ _ ready.full ready.range c.tables_of-tables.ensures))

-- what the type of the lowest sum says
low_fits : (a : goal.Start) → SFits w16 a.args.held.low
low_fits a = search rules

pub returns : goal.returns
returns c =
    let run = c.run-end in
    let h = c.args.held in
    let t = c.trellis.ensures in
    let of = c.tables_of-tables.ensures in
    let sum_after : SFits w16 run.result.last.sum = record { sfits = search rules } in
    let low_after : SFits w16 run.result.low = record { sfits = search rules } in
    let stands = subst⁻¹ (λ (s : Stacked). Standing 30 (places s) s.paths run.result.count (path_key run.result.last)) c.stack.view_is (rw t.0 at run.ensures.standing_2) in
    let same = narrowed_same _ _ _ c.narrowed.result _ _ _ stands c.narrowed.ensures in
    let standing = standing_same _ _ _ same _ _ stands in
    let reached : (s : Stopped h) → Reached (key_nodes 30 (level_values h.level) h.column c.tables_of-tables.result.left c.tables_of-tables.result.right) 30 c.args.limit (row_keys c.stack.inside.row) h.limit (last_of h) h.low s.rest c.stack.inside.paths run.result.count (path_key run.result.last) run.result.low = λ s.
    subst⁻¹ (λ (x : Stacked). Reached (key_nodes 30 (level_values h.level) h.column c.tables_of-tables.result.left c.tables_of-tables.result.right) 30 c.args.limit (places x) h.limit (last_of h) h.low s.rest x.paths run.result.count (path_key run.result.last) run.result.low) c.stack.view_is
    (rw (t.0, t.1, t.2, t.3, c.last_taken.ensures, to_z-of_z {w = w16} {z = h.low} (low_fits (goal.at.returns c).Start)) at (run.ensures.reached (level_values h.level) (rw t.4 (level_table supercode h.level _ _ _ of)) s.rest (rw c.widened.ensures s.holds))) in
    rw (to_z-of_z {w = w16} sum_after, to_z-of_z {w = w16} low_after)
    (record {
      column = refl;
      level = refl;
      summed = refl;
      found = λ s. c.outcome_at.ensures ∙ found_by_going_on h s c.args.limit c.requires.limit_lt_limit.0 _ _ _ of _ _ _ _ c.stack.inside.row.sums c.stack.inside.row.lens c.narrowed.result standing (reached_same _ _ _ same _ _ _ _ _ s.rest _ _ _ (reached s));
      stopped = λ s spent. stops_again h s c.args.limit c.requires.limit_lt_limit.0 _ _ _ of _ _ _ _ c.stack.inside.row.sums c.stack.inside.row.lens c.narrowed.result standing (reached_same _ _ _ same _ _ _ _ _ s.rest _ _ _ (reached s)) (spent_has_no_word run.result (sym c.outcome_at.ensures ∙ spent));
    })
