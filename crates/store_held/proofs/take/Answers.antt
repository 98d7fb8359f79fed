-- `store_held::take` meets its contract: the questions' answer settles which case it is, then the test of the state, then the search's outcome. Assumes nothing.
use mathlib.Core.Path.{ap, sym, ◌∙◌}
use Rattle.searches.specs.Searches.{as_answer}
use Rattle.std.proofs.lemmas.Result.{err_from_is_err_and}
use borrow.Author.Tests.{ltb-true}
use Rattle.questions.proofs.EitherWay.{asked_done}
use Rattle.store_held.proofs.Calls.{take_refused, take_unready, take_found, take_spent}
use Rattle.store_held.proofs.take.Goals as goal

pub returns-in_err-asked_for_more : goal.returns-in_err-asked_for_more
returns-in_err-asked_for_more c =
    let low = ltb-true _ _ (asked_done _ _ _ _ (sym c.ask.ensures ∙ c.in_ok-ask.was)).0 in
    let p = err_from_is_err_and c.from_residual-in_err-asked_for_more.result c.from_residual-in_err-asked_for_more.ensures.1 in
    rw (p.1, p.2) (take_refused _ _ _ low _ (sym c.in_err-asked_for_more.was ∙ c.asked_for_more.ensures))

pub returns-in_err-ask-2 : goal.returns-in_err-ask-2
returns-in_err-ask-2 c =
    let low = ltb-true _ _ (asked_done _ _ _ _ (sym c.ask.ensures ∙ c.in_ok-ask.was)).0 in
    let done = sym c.in_ok-asked_for_more.was ∙ c.asked_for_more.ensures in
    let p = err_from_is_err_and c.from_residual-in_err-ask-2.result c.from_residual-in_err-ask-2.ensures.1 in
    rw (p.1, p.2) (take_unready _ _ _ low done _ _ c.is_ready.ensures.1 (sym c.ask-2.ensures ∙ c.in_err-ask-2.was))

pub returns-in-Some : goal.returns-in-Some
returns-in-Some c =
    let low = ltb-true _ _ (asked_done _ _ _ _ (sym c.ask.ensures ∙ c.in_ok-ask.was)).0 in
    let done = sym c.in_ok-asked_for_more.was ∙ c.asked_for_more.ensures in
    take_found _ _ _ low done c.go_on-gone.result c.go_on-gone.ensures _ (ap as_answer (sym c.in-Some.is)) c.nothing.result c.nothing.ensures

pub returns-in-None : goal.returns-in-None
returns-in-None c =
    let low = ltb-true _ _ (asked_done _ _ _ _ (sym c.ask.ensures ∙ c.in_ok-ask.was)).0 in
    let done = sym c.in_ok-asked_for_more.was ∙ c.asked_for_more.ensures in
    take_spent _ _ _ low done c.go_on-gone.result c.go_on-gone.ensures c.in-None.is
