-- What the questions of the checker lead to: the first no, or the verdict. Assumes nothing.
use mathlib.Core.List.{List}
use mathlib.Core.Path.{◌≡◌, refl, sym, ap, ◌∙◌}
use Prim.Native.Nat.{ℕ}
use borrow.Author.Tests.{eq-eqb, eqb-true, lt-ltb, ltb-true, le-leb, leb-true}
use lib.Dec.{eqb, ltb, leb}
use lib.ListN.{length}
use Rattle.std.specs.Prelude.{Option, Ok}
use Rattle.paths.specs.Listings.{Verdict, accepted, wrong}
use Rattle.checker.specs.Judging.{code_verdict}
use Rattle.questions.specs.Questions.{first_above}
use Rattle.questions.specs.Answer.{Outcome, number, place, refused, done}
use Rattle.questions.specs.declared.refusal.Question.{Question}
use Rattle.questions.specs.declared.refusal.Question.TheVariants.{InputLength, Level, Range, Lines}
use Rattle.questions.proofs.AllInRange.{no_value_above}
use Rattle.questions.proofs.EitherWay.{led, led_on, asked_done}
use Rattle.searches.proofs.Outcomes.{asked_range}
use Rattle.store_listings.specs.Listings.{ListingAnswer, line, Answered, Allowed, ask_listing, verdict_answer}

module _ (level : ℕ) (soft lengths bits : List ℕ) where
  -- all are answered yes
  pub all_yes : Allowed level soft lengths bits → {A : Type 0} (refusal : Question → ℕ → A) (next : A) → ask_listing level soft lengths bits refusal next ≡ next
  all_yes allowed refusal next =
      rw (eq-eqb _ _ allowed.full, eq-eqb _ _ allowed.both, le-leb _ _ allowed.some, le-leb _ _ allowed.most, lt-ltb _ _ allowed.level, no_value_above soft 30 7 allowed.full allowed.range) refl

  -- then the judge may begin
  pub ready : ask_listing level soft lengths bits refused done ≡ done → Allowed level soft lengths bits
  ready e =
      let one = asked_done (eqb (length soft) 30) InputLength 0 _ e in
      let both = asked_done (eqb (length lengths) (length bits)) InputLength 0 _ one.1 in
      let some = asked_done (leb 1 (length lengths)) Lines 0 _ both.1 in
      let most = asked_done (leb (length lengths) 2000) Lines 0 _ some.1 in
      let three = asked_done (ltb level 4) Level 0 _ most.1 in
      let five = asked_done (leb 30 (first_above soft 7)) Range (first_above soft 7) _ three.1 in
      record {
        full = eqb-true _ _ one.0;
        both = eqb-true _ _ both.0;
        some = leb-true _ _ some.0;
        most = leb-true _ _ most.0;
        level = ltb-true _ _ three.0;
        range = asked_range soft (leb-true _ _ five.0);
      }

  -- the answer of the questions alone settles every use of them
  pub settled : {A : Type 0} (refusal : Question → ℕ → A) (next : A) (o : Outcome) → o ≡ ask_listing level soft lengths bits refused done → ask_listing level soft lengths bits refusal next ≡ led o refusal next
  settled refusal next o e =
      led_on (eqb (length soft) 30) InputLength 0 refusal next _
      (led_on (eqb (length lengths) (length bits)) InputLength 0 refusal next _
      (led_on (leb 1 (length lengths)) Lines 0 refusal next _
      (led_on (leb (length lengths) 2000) Lines 0 refusal next _
      (led_on (ltb level 4) Level 0 refusal next _
      (led_on (leb 30 (first_above soft 7)) Range (first_above soft 7) refusal next done refl)))))
      ∙ ap (λ (x : Outcome). led x refusal next) (sym e)

-- the code's verdict, the first wrong line if there is one, is the answer
pub answered_as : (v : Verdict) {line : Option ℕ} → line ≡ code_verdict v → ◌≡◌ {A = ListingAnswer} (Ok line) (verdict_answer v)
unfolding code_verdict verdict_answer
answered_as accepted e = ap (λ (l : Option ℕ). Ok l) e
answered_as (wrong k) e = ap (λ (l : Option ℕ). Ok l) e

-- at a call's return
pub answered : {due r : ListingAnswer} → r ≡ due → Answered due r
answered e = record { answer = e; number = ap number e; place = ap place e; line = ap line e }
