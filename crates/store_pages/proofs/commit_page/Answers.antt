-- `store_pages::commit_page` meets its contract: what all questions say makes four words. Assumes nothing.
use mathlib.Core.Path.{sym, ◌∙◌, subst}
use Prim.Native.Nat.{ℕ, ◌≤◌}
use borrow.Author.Tests.{eqb-true, leb-true}
use Rattle.questions.specs.Questions.{first_above}
use Rattle.questions.proofs.EitherWay.{asked_done}
use Rattle.store_pages.proofs.Committing.{symbols_are_a_word}
use Rattle.store_pages.proofs.commit_page.Goals as goal

pub lowest_no_word-level-requires : goal.lowest_no_word-level-requires
lowest_no_word-level-requires c =
    let symbols = c.args.symbols.now in
    let long = eqb-true _ _ (asked_done _ _ _ _ (sym c.ask.ensures ∙ c.in_ok-ask.was)).0 in
    let good = leb-true _ _ (asked_done _ _ _ _ (sym c.in_range.ensures ∙ c.in_ok-in_range.was)).0 in
    symbols_are_a_word symbols long (subst (λ (n : ℕ). n ≤ first_above symbols 63) long good)

pub pack-requires : goal.pack-requires
pack-requires c =
    let symbols = c.args.symbols.now in
    let long = eqb-true _ _ (asked_done _ _ _ _ (sym c.ask.ensures ∙ c.in_ok-ask.was)).0 in
    let room = eqb-true _ _ (asked_done _ _ _ _ (sym c.ask-2.ensures ∙ c.in_ok-ask-2.was)).0 in
    let good = leb-true _ _ (asked_done _ _ _ _ (sym c.in_range.ensures ∙ c.in_ok-in_range.was)).0 in
    (symbols_are_a_word symbols long (subst (λ (n : ℕ). n ≤ first_above symbols 63) long good), room)
