-- What the questions of a column search lead to: the first no, or the search. Assumes nothing.
use mathlib.Core.Bool.{true}
use mathlib.Core.List.{List}
use mathlib.Core.Path.{◌≡◌, refl, sym, ap, ◌∙◌}
use Prim.Native.Nat.{ℕ}
use borrow.Author.Tests.{eq-eqb, eqb-true, lt-ltb, ltb-true, le-leb, leb-true}
use lib.Dec.{eqb, ltb, leb}
use lib.ListN.{length}
use Rattle.trellis.specs.TwoWords.{Choice, threshold_allowed}
use Rattle.questions.specs.Questions.{first_above}
use Rattle.questions.specs.Answer.{Outcome, refused, done}
use Rattle.questions.specs.declared.refusal.Question.{Question}
use Rattle.questions.specs.declared.refusal.Question.TheVariants.{InputLength, Level, Limit, Range, Threshold}
use Rattle.questions.proofs.AllInRange.{no_value_above}
use Rattle.questions.proofs.EitherWay.{led, led_on, asked_done}
use Rattle.searches.specs.Searches.{Allowed, ask_search}
use Rattle.searches.proofs.Outcomes.{asked_range}

module _ (choice : Choice) (level : ℕ) (soft : List ℕ) (limit : ℕ) where
  -- all are answered yes
  pub all_yes : threshold_allowed choice ≡ true → Allowed level soft limit → {A : Type 0} (refusal : Question → ℕ → A) (next : A) → ask_search choice level soft limit refusal next ≡ next
  all_yes in_range allowed refusal next =
      rw (eq-eqb _ _ allowed.full, lt-ltb _ _ allowed.level, le-leb _ _ allowed.some, le-leb _ _ allowed.most, in_range, no_value_above soft 30 7 allowed.full allowed.range) refl

  -- then the search may begin
  pub ready : ask_search choice level soft limit refused done ≡ done → Allowed level soft limit × (threshold_allowed choice ≡ true)
  ready e =
      let one = asked_done (eqb (length soft) 30) InputLength 0 _ e in
      let three = asked_done (ltb level 4) Level 0 _ one.1 in
      let some = asked_done (leb 1 limit) Limit 0 _ three.1 in
      let most = asked_done (leb limit 2000) Limit 0 _ some.1 in
      let eleven = asked_done (threshold_allowed choice) Threshold 0 _ most.1 in
      let five = asked_done (leb 30 (first_above soft 7)) Range (first_above soft 7) _ eleven.1 in (
        record {
          full = eqb-true _ _ one.0;
          level = ltb-true _ _ three.0;
          some = leb-true _ _ some.0;
          most = leb-true _ _ most.0;
          range = asked_range soft (leb-true _ _ five.0);
        },
        eleven.0,
      )

  -- the answer of the questions alone settles every use of them
  pub settled : {A : Type 0} (refusal : Question → ℕ → A) (next : A) (o : Outcome) → o ≡ ask_search choice level soft limit refused done → ask_search choice level soft limit refusal next ≡ led o refusal next
  settled refusal next o e =
      led_on (eqb (length soft) 30) InputLength 0 refusal next _
      (led_on (ltb level 4) Level 0 refusal next _
      (led_on (leb 1 limit) Limit 0 refusal next _
      (led_on (leb limit 2000) Limit 0 refusal next _
      (led_on (threshold_allowed choice) Threshold 0 refusal next _
      (led_on (leb 30 (first_above soft 7)) Range (first_above soft 7) refusal next done refl)))))
      ∙ ap (λ (x : Outcome). led x refusal next) (sym e)
