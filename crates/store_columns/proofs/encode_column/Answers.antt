-- `store_columns::encode_column` meets its contract: what is read lies before the first bad symbol. Assumes nothing.
use mathlib.Core.Path.{◌≡◌, ◌∙◌, sym}
use Prim.Native.Nat.{◌≤◌}
use native.Mathlib.Omega.{arith}
use lib.ListN.{length}
use borrow.Author.Tests.{leb-true, eqb-true}
use Rattle.questions.specs.Questions.{first_above}
use Rattle.questions.proofs.FirstAbove.{read_in_range}
use Rattle.questions.proofs.EitherWay.{asked_done}
use Rattle.store_columns.proofs.encode_column.Goals as goal

pub encode-requires : goal.encode-requires
encode-requires c =
    let symbols = c.args.symbols.now in
    let four : length symbols ≡ 4 = eqb-true _ _ (asked_done _ _ _ _ (sym c.ask.ensures ∙ c.in_ok-ask.was)).0 in
    let good : length symbols ≤ first_above symbols 63 = leb-true _ _ (asked_done _ _ _ _ (sym c.in_range.ensures ∙ c.in_ok-in_range.was)).0 in (
      read_in_range symbols 63 _ _ (omega arith) c.from.ensures,
      read_in_range symbols 63 _ _ (omega arith) c.from-2.ensures,
      read_in_range symbols 63 _ _ (omega arith) c.from-3.ensures,
      read_in_range symbols 63 _ _ (omega arith) c.from-4.ensures,
    )
