-- `census::search_one` meets its contract: the answer of the supercode search settles which total is one. Assumes nothing.
use mathlib.Core.Path.{sym, ap, ◌∙◌}
use native.Mathlib.Omega.{arith}
use borrow.Author.Tests.{eq-eqb, ne_eqb}
use mathlib.Core.Bool.{Bool, cond}
use Rattle.census.specs.Census.{zero_word, other_word}
use Rattle.census.proofs.Endings.{allowed_with, ending_of_answer, one, by_answer}
use Rattle.census.proofs.search_one.Goals as goal

pub search_supercodes-requires : goal.search_supercodes-requires
search_supercodes-requires c =
    (c.requires.0, allowed_with c.requires.1 (omega arith) (omega arith))

pub returns-in-Ok : goal.returns-in-Ok
unfolding ending_of_answer one
returns-in-Ok c =
    let none = c.default.ensures in
    simp (none.0, none.1.0, none.1.1) (ap (λ (b : Bool). one (cond b zero_word other_word)) (sym (eq-eqb _ 0 c.if-found-eq0.true)) ∙ by_answer c.args.level c.args.column.now _ c.search_supercodes.ensures _ c.in-Ok.is)

pub returns-in-Ok-2 : goal.returns-in-Ok-2
unfolding ending_of_answer one
returns-in-Ok-2 c =
    let none = c.default-in-Ok-2.ensures in
    simp (none.0, none.1.0, none.1.1) (ap (λ (b : Bool). one (cond b zero_word other_word)) (sym (ne_eqb _ 0 c.if-found-eq0.false)) ∙ by_answer c.args.level c.args.column.now _ c.search_supercodes.ensures _ c.in-Ok.is)

pub returns-in-Err : goal.returns-in-Err
unfolding ending_of_answer one
returns-in-Err c =
    let none = c.default-in-Err.ensures in
    simp (none.0, none.1.0, none.1.1) (by_answer c.args.level c.args.column.now _ c.search_supercodes.ensures _ c.in-Err.is)
