-- `store_rows::decode_row` meets its contract: the decoder is asked last. Assumes nothing.
use mathlib.Core.Path.{◌≡◌, sym, ap, ap₂, subst, ◌∙◌}
use mathlib.Core.List.{List}
use Prim.Native.Nat.{ℕ, ◌≤◌}
use native.Mathlib.Omega.{arith}
use borrow.Author.Tests.{leb-true, eqb-true, ltb-true}
use lib.ListN.{length}
use Rattle.reedsolomon.specs.Row.{outer_answer, word_of}
use Rattle.questions.specs.Questions.{first_above}
use Rattle.questions.specs.Answer.{Outcome, number, place, after}
use Rattle.questions.proofs.EitherWay.{asked_done}
use Rattle.store_rows.proofs.RowRanges.{symbols_in_range, first_inside, only_10_is_left, only_found_is_written}
use Rattle.store_rows.proofs.decode_row.Goals as goal

pub overflow_add-mark : goal.overflow_add-mark
overflow_add-mark c =
    let marks = c.args.marks.now in
    let long : length marks ≡ 63 = eqb-true _ _ (asked_done _ _ _ _ (sym c.ask-2.ensures ∙ c.in_ok-ask-2.was)).0 in
    let inside = first_inside marks 1 in
    grind (arith, c.first_above-mark.ensures, inside, long)

pub decode-found-requires : goal.decode-found-requires
decode-found-requires c =
    let symbols = c.args.symbols.now in
    let right = (asked_done _ _ _ _ (sym c.in_range.ensures ∙ c.in_ok-in_range.was)).0 in (
      eqb-true _ _ (asked_done _ _ _ _ (sym c.ask.ensures ∙ c.in_ok-ask.was)).0,
      eqb-true _ _ (asked_done _ _ _ _ (sym c.ask-2.ensures ∙ c.in_ok-ask-2.was)).0,
      eqb-true _ _ (asked_done _ _ _ _ (sym c.ask-3.ensures ∙ c.in_ok-ask-3.was)).0,
      symbols_in_range symbols (leb-true _ _ right),
      c.roots.ensures.1,
    )

pub returns : goal.returns
returns c =
    let out = c.args.out.now in
    let long = eqb-true _ _ (asked_done _ _ _ _ (sym c.ask.ensures ∙ c.in_ok-ask.was)).0 in
    let marked = eqb-true _ _ (asked_done _ _ _ _ (sym c.ask-2.ensures ∙ c.in_ok-ask-2.was)).0 in
    let room = eqb-true _ _ (asked_done _ _ _ _ (sym c.ask-3.ensures ∙ c.in_ok-ask-3.was)).0 in
    let exists = ltb-true _ _ (asked_done _ _ _ _ (sym c.ask-4.ensures ∙ c.in_ok-ask-4.was)).0 in
    let right : 63 ≤ first_above c.args.symbols.now 63 = subst (λ (t : ℕ). t ≤ first_above c.args.symbols.now 63) long (leb-true _ _ (asked_done _ _ _ _ (sym c.in_range.ensures ∙ c.in_ok-in_range.was)).0) in
    let flags : 63 ≤ first_above c.args.marks.now 1 = subst (λ (t : ℕ). 63 ≤ t) c.first_above-mark.ensures (leb-true _ _ (asked_done _ _ _ _ (sym c.ask-5.ensures ∙ c.in_ok-ask-5.was)).0) in
    let left = sym (only_10_is_left _ _ _ out _ _ long marked room exists right flags c.roots.ensures.0 c.decode-found.ensures.told) in
    let written = only_found_is_written _ _ out _ c.decode-found.ensures.told c.decode-found.ensures.written in
    let same = ap (λ (t : ℕ). word_of out (outer_answer 6 67 63 t c.args.symbols.now c.args.marks.now)) c.roots.ensures.0 in
    let answered = c.ask-6.ensures ∙ left in
    record { answer = answered; number = ap number answered; place = ap place answered; bytes = written ∙ ap₂ (λ (o : Outcome) (w : List ℕ). after o w out) left same }
