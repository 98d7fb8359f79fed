-- 02, point 1, of the page calls: "11, threshold outside −2,000..2,000, asked after 4". Assumes nothing.
use mathlib.Core.Bool.{Bool, true, false}
use mathlib.Core.List.{List}
use mathlib.Core.Logic.{◌↔◌}
use mathlib.Core.Path.{◌≡◌, refl, sym, ap, ◌∙◌}
use Prim.Native.Nat.{ℕ, ◌≤◌, ◌<◌}
use native.Mathlib.Omega.{arith}
use lib.Dec.{leb}
use lib.IntN.{ℤ, nat_abs}
use lib.ListN.{length}
use borrow.Author.Tests.{eq-eqb, le-leb}
use Rattle.trellis.specs.Demand.{Search}
use Rattle.trellis.specs.TwoWords.{on, threshold_allowed}
use Rattle.trellis.proofs.Thresholds.{threshold_is_refused_exactly}
use Rattle.concatenated.specs.Decode.{PageAnswer, answered, refused}
use Rattle.page.specs.Outcomes.{Buffer, outcome_of, PageOutcome}
use Rattle.questions.specs.Questions.{ask, first_above}
use Rattle.store_pages.specs.Pages.{decoded_page, PageFilled}
use Rattle.questions.specs.declared.refusal.Question.TheVariants.{Range, Threshold}
use Rattle.questions.specs.Answer.{number, refused as refused_by}

-- no later question is 11
never_11 : (b : Bool) (p : ℕ) (d : PageAnswer) → number (ask b (refused_by Range p) (outcome_of d)) ≡ 11 → ⊥
unfolding outcome_of
never_11 false p d e = absurd (omega (arith, e))
never_11 true p (answered ls n) e = absurd (omega (arith, e))
never_11 true p (refused l) e = absurd (omega (arith, e))

-- of a call whose lengths and limit are right, exactly then
pub list_page_is_11_exactly_outside : (B : Buffer) (threshold : ℤ) (s : Search) (soft : List ℕ) (limit : ℕ) (old : List ℕ) (r : PageOutcome) (new : List ℕ) → PageFilled B (on threshold) s soft limit old r new
    → length soft ≡ 1890 → length old ≡ B.places → 1 ≤ limit → limit ≤ 2000 → (number r ≡ 11) ↔ (2000 < nat_abs threshold)
list_page_is_11_exactly_outside B threshold s soft limit old r new call full room some most =
    let asked_so : r ≡ ask (threshold_allowed (on threshold)) (refused_by Threshold 0) rest = call.answer ∙ rw (eq-eqb _ _ full, eq-eqb _ _ room, le-leb _ _ some, le-leb _ _ most) refl in (
      λ e. outside (threshold_allowed (on threshold)) refl (ap number (sym asked_so) ∙ e),
      λ l. ap number (asked_so ∙ ap (λ (b : Bool). ask b (refused_by Threshold 0) rest) ((threshold_is_refused_exactly threshold).1 l)),
    )
  where
    rest : PageOutcome
    rest = ask (leb 1890 (first_above soft 7)) (refused_by Range (first_above soft 7)) (outcome_of (decoded_page (on threshold) s soft limit))

    outside : (b : Bool) → threshold_allowed (on threshold) ≡ b → number (ask b (refused_by Threshold 0) rest) ≡ 11 → 2000 < nat_abs threshold
    outside true e n = absurd (never_11 (leb 1890 (first_above soft 7)) (first_above soft 7) (decoded_page (on threshold) s soft limit) n)
    outside false e n = (threshold_is_refused_exactly threshold).0 e
