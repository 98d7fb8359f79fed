-- `page::told` meets its contract: by the two cases of what the levels gave. Assumes nothing.
use mir.Syntax.{w16}
use mathlib.Core.Path.{subst}
use Rattle.std.specs.Prelude.{Result}
use Rattle.std.proofs.lemmas.Result.{err_from_is_err_and}
use Rattle.questions.specs.declared.refusal.Refusal.{Refusal}
use Rattle.readings.specs.declared.Totals.{Totals}
use Rattle.levels.specs.Levels.{ColumnsDone}
use mir.Facts.{to_z-of_z}
use Rattle.page.proofs.PageOutcomes.{is_answered, is_refused, answered_outcome, answered_symbols}
use borrow.Author.Rules.{rules}
use Rattle.page.proofs.told.Goals as goal

pub row_after_row-requires : goal.row_after_row-requires
row_after_row-requires c =
    let given = c.requires.by_index in
    ((is_answered given.0 given.1 c.args.held.now c.in_ok-totals.totals (subst (λ (x : Result Totals Refusal). ColumnsDone given.0 given.1 x c.args.held.now) c.in_ok-totals.was given.2)).good, c.requires.symbols_len)

pub returns-in_err-totals : goal.returns-in_err-totals
returns-in_err-totals c read page done =
    let refusal = is_refused read page c.args.held.now _ (subst (λ (x : Result Totals Refusal). ColumnsDone read page x c.args.held.now) c.in_err-totals.was done) in
    let p = err_from_is_err_and c.from_residual.result c.from_residual.ensures.1 in
    rw (p.1, p.2) (refusal.0, refusal.1 _)

pub returns : goal.returns
returns c read page done =
    let answer = is_answered read page c.args.held.now c.in_ok-totals.totals (subst (λ (x : Result Totals Refusal). ColumnsDone read page x c.args.held.now) c.in_ok-totals.was done) in (
      answered_outcome _ _ _ answer _ _ _ c.totals.ensures c.totals-2.ensures (to_z-of_z {w = w16} (record { sfits = search rules })),
      answered_symbols _ _ _ answer c.args.symbols.now _ c.row_after_row.ensures,
    )
