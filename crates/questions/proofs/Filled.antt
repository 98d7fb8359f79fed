-- A call that fills a lent buffer, at its returns: refused, with the buffer as it was, or done; and what its number says of the buffer. Assumes nothing.
use mathlib.Core.Path.{◌≡◌, refl, ap, ◌∙◌, sym}
use mathlib.Core.List.{List}
use Prim.Native.Nat.{ℕ}
use Rattle.std.specs.Prelude.{Ok, Err}
use Rattle.questions.specs.declared.refusal.Question.{Question}
use Rattle.questions.specs.Answer.{Outcome, refused as refused_by, done as all_done, number, place, after, Filled}

filled : {due r : Outcome} {made old new : List ℕ} → r ≡ due → new ≡ after r made old → Filled due made old r new
filled {made = made} {old = old} e is =
    record { answer = e; number = ap number e; place = ap place e; bytes = is ∙ ap (λ (o : Outcome). after o made old) e }

pub refused : {due : Outcome} {made old : List ℕ} {q : Question} {p : ℕ} → due ≡ refused_by q p → Filled due made old (refused_by q p) old
refused e = filled (sym e) refl

pub done : {due : Outcome} {made old new : List ℕ} → due ≡ all_done → new ≡ made → Filled due made old all_done new
done e is = filled (sym e) is

-- demand 1: "with no byte of a lent buffer changed": where the number is not 0, the buffer is as it was
pub refused_buffer_is_untouched : {due r : Outcome} {made old new : List ℕ} → Filled due made old r new → (number r ≡ 0 → ⊥) → new ≡ old
refused_buffer_is_untouched {due} {r} {made} {old} {new} f other = by due f.bytes (λ e. other (f.number ∙ e))
  where
    by : (o : Outcome) → new ≡ after o made old → (number o ≡ 0 → ⊥) → new ≡ old
    by (Ok v) is u = absurd (u refl)
    by (Err r) is u = is
