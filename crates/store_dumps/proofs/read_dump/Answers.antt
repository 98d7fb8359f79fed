-- `store_dumps::read_dump` meets its contract. Assumes nothing.
use mathlib.Core.Path.{◌≡◌, ap, sym, ◌∙◌}
use mathlib.Core.Bool.{Bool, true, false}
use native.Mathlib.Omega.{arith}
use borrow.Author.Rules.{rules}
use borrow.Author.Tests.{eqb-true}
use Rattle.std.proofs.lemmas.Result.{err_from_is_err_and}
use Rattle.std.specs.Prelude.{is_ok}
use Rattle.questions.proofs.EitherWay.{asked_done}
use Rattle.questions.proofs.Filled.{refused, done}
use Rattle.store_dumps.proofs.BlockFaults.{first_bad_block_is_named, values_asked}
use Rattle.store_dumps.proofs.read_dump.Goals as goal

pub returns-in_err-ask_block : goal.returns-in_err-ask_block
returns-in_err-ask_block c =
    let size = eqb-true _ _ (asked_done _ _ _ _ (sym c.ask.ensures ∙ c.in_ok-ask.was)).0 in
    let room = eqb-true _ _ (asked_done _ _ _ _ (sym c.ask-2.ensures ∙ c.in_ok-ask-2.was)).0 in
    let is = sym c.ask_block.ensures ∙ c.in_err-ask_block.was in
    let named = first_bad_block_is_named c.args.dump.now c.args.out.now c.loop-b.b size room (search rules) c.loop-b.invariant (λ e. let z : ◌≡◌ {A = Bool} false true = ap is_ok (sym is ∙ e) in absurd (search rules)) in
    let p = err_from_is_err_and c.from_residual-in_err-ask_block.result c.from_residual-in_err-ask_block.ensures.1 in
    rw (p.1, p.2) (refused (named.0 ∙ is))

pub returns-in_err-in_range : goal.returns-in_err-in_range
returns-in_err-in_range c =
    let size = eqb-true _ _ (asked_done _ _ _ _ (sym c.ask.ensures ∙ c.in_ok-ask.was)).0 in
    let room = eqb-true _ _ (asked_done _ _ _ _ (sym c.ask-2.ensures ∙ c.in_ok-ask-2.was)).0 in
    let asked = values_asked c.args.dump.now c.args.out.now size room (λ b h. c.loop-b.invariant b (omega arith)) c.read.ensures in
    let is = sym c.in_range.ensures ∙ c.in_err-in_range.was in
    let p = err_from_is_err_and c.from_residual-in_err-in_range.result c.from_residual-in_err-in_range.ensures.1 in
    rw (p.1, p.2) (refused (asked ∙ is))

pub returns : goal.returns
returns c =
    let size = eqb-true _ _ (asked_done _ _ _ _ (sym c.ask.ensures ∙ c.in_ok-ask.was)).0 in
    let room = eqb-true _ _ (asked_done _ _ _ _ (sym c.ask-2.ensures ∙ c.in_ok-ask-2.was)).0 in
    let asked = values_asked c.args.dump.now c.args.out.now size room (λ b h. c.loop-b.invariant b (omega arith)) c.read.ensures in
    let is = sym c.in_range.ensures ∙ c.in_ok-in_range.was in
    done (asked ∙ is) c.read-2.ensures
