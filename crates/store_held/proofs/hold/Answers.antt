-- `store_held::hold` meets its contract: the questions' answer settles which case it is, then the search's outcome. Assumes nothing.
use mathlib.Core.Path.{sym, ap, ◌∙◌}
use Rattle.std.proofs.lemmas.Result.{err_from_is_err_and}
use Rattle.searches.specs.Searches.{as_answer}
use Rattle.searches.proofs.Outcomes.{answered_as}
use Rattle.store_held.proofs.Calls.{hold_ready, hold_refused, hold_found, hold_spent, begun_is_allowed, begun_is_below, begun_goes_on}
use Rattle.store_held.proofs.hold.Goals as goal

pub returns-in_err-asked_to_hold : goal.returns-in_err-asked_to_hold
returns-in_err-asked_to_hold c =
    let a = c.args in
    let p = err_from_is_err_and c.from_residual.result c.from_residual.ensures.1 in
    rw (p.1, p.2) (hold_refused a.name a.soft.now a.level a.limit _ _ (sym c.in_err-asked_to_hold.was ∙ c.asked_to_hold.ensures))

pub go_on-gone-requires-clause-limit_lt_limit : goal.go_on-gone-requires-clause-limit_lt_limit
go_on-gone-requires-clause-limit_lt_limit c =
    let a = c.args in
    let may = (hold_ready a.name a.soft.now a.level a.limit (sym c.in_ok-asked_to_hold.was ∙ c.asked_to_hold.ensures)).1 in
    (begun_is_below a.soft.now a.level a.limit _ c.begin.ensures may.some, may.most)

pub go_on-gone-requires-clause-ready : goal.go_on-gone-requires-clause-ready
go_on-gone-requires-clause-ready c =
    let a = c.args in
    let may = (hold_ready a.name a.soft.now a.level a.limit (sym c.in_ok-asked_to_hold.was ∙ c.asked_to_hold.ensures)).1 in
    begun_is_allowed a.soft.now a.level a.limit _ c.begin.ensures may

pub returns-in-Some : goal.returns-in-Some
returns-in-Some c =
    let a = c.args in
    let done = sym c.in_ok-asked_to_hold.was ∙ c.asked_to_hold.ensures in
    let may = (hold_ready a.name a.soft.now a.level a.limit done).1 in
    let gone = begun_goes_on a.soft.now a.level a.limit _ c.begin.ensures may _ c.go_on-gone.ensures in
    hold_found a.name a.soft.now a.level a.limit _ done _ (ap as_answer (sym c.in-Some.is) ∙ answered_as _ gone.found)

pub returns-in-None : goal.returns-in-None
returns-in-None c =
    let a = c.args in
    let done = sym c.in_ok-asked_to_hold.was ∙ c.asked_to_hold.ensures in
    let may = (hold_ready a.name a.soft.now a.level a.limit done).1 in
    let gone = begun_goes_on a.soft.now a.level a.limit _ c.begin.ensures may _ c.go_on-gone.ensures in
    hold_spent a.name a.soft.now a.level a.limit _ done c.go_on-gone.result.held (gone.stopped c.in-None.is) gone.column gone.level_is gone.summed (ap as_answer (sym c.in-None.is) ∙ answered_as _ gone.found)
