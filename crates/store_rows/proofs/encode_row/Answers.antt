-- `store_rows::encode_row` meets its contract: what all questions say makes a row. Assumes nothing.
use mathlib.Core.Path.{sym, ap, ◌∙◌}
use Prim.Native.Nat.{ℕ, ◌+◌}
use lib.ListN.{length}
use borrow.Author.Tests.{leb-true, eqb-true, ltb-true}
use Rattle.questions.proofs.EitherWay.{asked_done}
use Rattle.store_rows.proofs.RowRanges.{row_length, symbols_in_range}
use Rattle.store_rows.proofs.encode_row.Goals as goal

pub encode-requires : goal.encode-requires
encode-requires c =
    let row = c.args.«data».now in
    let level = c.args.level in
    let long = (asked_done _ _ _ _ (sym c.ask.ensures ∙ c.in_ok-ask.was)).0 in
    let room = (asked_done _ _ _ _ (sym c.ask-2.ensures ∙ c.in_ok-ask-2.was)).0 in
    let exists = ltb-true _ _ (asked_done _ _ _ _ (sym c.ask-3.ensures ∙ c.in_ok-ask-3.was)).0 in
    let right = (asked_done _ _ _ _ (sym c.in_range.ensures ∙ c.in_ok-in_range.was)).0 in (
      record { level = level; level_exists = exists; is_its = c.roots.ensures.0 },
      ap (λ (t : ℕ). length row + t) c.roots.ensures.0 ∙ row_length level (length row) exists (sym c.length_right.ensures ∙ long),
      symbols_in_range row (leb-true _ _ right),
      eqb-true _ _ room,
    )
