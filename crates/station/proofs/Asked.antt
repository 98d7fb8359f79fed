-- What the questions of page decoding and of asking for C lead to. Assumes nothing.
use mathlib.Core.Bool.{Bool, true, false, ◌&&◌, and-true, and-false}
use mathlib.Core.List.{List}
use mathlib.Core.Path.{◌≡◌, sym, ap, ◌∙◌, subst⁻¹}
use Prim.Native.Nat.{ℕ, ◌≤◌}
use native.Mathlib.Omega.{arith}
use borrow.Author.Tests.{eq-eqb, eqb-true}
use lib.Dec.{eqb}
use lib.ListN.{length}
use Rattle.trellis.specs.TwoWords.{Choice}
use Rattle.page.specs.Outcomes.{Buffer}
use Rattle.questions.specs.Questions.{ask}
use Rattle.questions.specs.Answer.{Outcome, refused as refused_by, done as all_done}
use Rattle.questions.specs.Number.{number_of}
use Rattle.questions.specs.declared.refusal.Question.{Question}
use Rattle.questions.specs.declared.refusal.Question.TheVariants.{InputLength, OutputLength}
use Rattle.questions.specs.declared.refusal.Refusal.{Refusal}
use Rattle.questions.proofs.EitherWay.{asked_done}
use Rattle.std.specs.Prelude.{Err}
use Rattle.store_pages.specs.Pages.{ask_page}
use Rattle.station.specs.PageReturned.{have_room, own_lengths}

-- with room for the report they are the questions of the call
pub report_has_room : (B : Buffer) (buffer report : List ℕ) → length report ≡ 78 → have_room B buffer report ≡ eqb (length buffer) B.places
report_has_room B buffer report room = ap (λ (b : Bool). eqb (length buffer) B.places && b) (eq-eqb _ _ room) ∙ and-true (eqb (length buffer) B.places)

-- the lengths that an entry asks about itself: no refusal, or one by 1 or 2
module _ (soft report : List ℕ) where
  -- none is refused
  pub report_is_right : own_lengths (length soft) (length report) ≡ all_done → length report ≡ 78
  report_is_right e = eqb-true _ _ (asked_done _ _ _ _ (asked_done (eqb (length soft) 1890) _ _ _ e).1).0

  -- or the first no is refused; one output of another length is 2, whatever the other has
  module _ (refusal : Refusal) (e : own_lengths (length soft) (length report) ≡ Err refusal) where
    done_is_no_refusal : ◌≡◌ {A = Outcome} all_done (Err refusal) → ⊥
    done_is_no_refusal f = cc f

    is_refusal : (q : Question) → ◌≡◌ {A = Outcome} (refused_by q 0) (Err refusal) → refusal ≡ record { question = q; place = 0 }
    is_refusal q f = cc f

    pub refusal_is_small : (number_of refusal.question ≤ 14) × (refusal.place ≤ 1890)
    refusal_is_small = go (eqb (length soft) 1890) (eqb (length report) 78) e
      where
        small : (q : Question) → number_of q ≤ 14 → refusal ≡ record { question = q; place = 0 } → (number_of refusal.question ≤ 14) × (refusal.place ≤ 1890)
        small q few is = subst⁻¹ (λ (r : Refusal). (number_of r.question ≤ 14) × (r.place ≤ 1890)) is (few, omega arith)

        go : (a b : Bool) → ask a (refused_by InputLength 0) (ask b (refused_by OutputLength 0) all_done) ≡ Err refusal → (number_of refusal.question ≤ 14) × (refusal.place ≤ 1890)
        go false b f = small InputLength (omega arith) (is_refusal InputLength f)
        go true false f = small OutputLength (omega arith) (is_refusal OutputLength f)
        go true true f = absurd (done_is_no_refusal f)

    pub first_no : (B : Buffer) (choice : Choice) (limit : ℕ) (buffer : List ℕ) (A : Type 0) (made : Question → ℕ → A) (next : A) → ask_page choice soft limit (have_room B buffer report) made next ≡ made refusal.question refusal.place
    first_no B choice limit buffer A made next = go (eqb (length soft) 1890) (eqb (length report) 78) (eqb (length buffer) B.places) _ e
      where
        go : (a b c : Bool) (rest : A) → ask a (refused_by InputLength 0) (ask b (refused_by OutputLength 0) all_done) ≡ Err refusal → ask a (made InputLength 0) (ask (c && b) (made OutputLength 0) rest) ≡ made refusal.question refusal.place
        go false b c rest f = ap (λ (r : Refusal). made r.question r.place) (sym (is_refusal InputLength f))
        go true false c rest f = ap (λ (t : Bool). ask t (made OutputLength 0) rest) (and-false c) ∙ ap (λ (r : Refusal). made r.question r.place) (sym (is_refusal OutputLength f))
        go true true c rest f = absurd (done_is_no_refusal f)
