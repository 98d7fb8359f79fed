-- The page entries at their returns: what was asked and done settles what they return and leave. Assumes nothing.
use mathlib.Core.Bool.{Bool}
use mathlib.Core.List.{List}
use mathlib.Core.Path.{◌≡◌, sym, ap, ◌∙◌, subst⁻¹}
use Prim.Native.Nat.{ℕ, ◌≤◌}
use lib.Dec.{eqb}
use lib.ListN.{length}
use Rattle.trellis.specs.Demand.{supercode}
use Rattle.trellis.specs.TwoWords.{Choice}
use Rattle.page.specs.Outcomes.{outcome_of, Buffer, filled, PageOutcome}
use Rattle.store_pages.specs.Pages.{ask_page, decoded_page, PageFilled}
use Rattle.questions.specs.Number.{number_of}
use Rattle.questions.specs.declared.refusal.Refusal.{Refusal}
use Rattle.std.specs.Prelude.{Err}
use Rattle.station.specs.Returned.{returned}
use Rattle.station.specs.PageReturned.{PageReturned, own_lengths, page_answer, report_after}
use Rattle.station.proofs.Asked.{first_no, report_is_right, report_has_room}
use Rattle.station.proofs.Places.{SmallPage, page_small}
use Rattle.questions.specs.Answer.{number, place, refused as refused_by, done as all_done}

-- an entry
module _ (B : Buffer) (choice : Choice) (soft : List ℕ) (limit : ℕ) (buffer report : List ℕ) where
  -- whose own lengths are refused returns that refusal
  pub refused_by_length : (refusal : Refusal) → own_lengths (length soft) (length report) ≡ Err refusal → {r : ℕ} → r ≡ returned (number_of refusal.question) refusal.place → PageReturned B choice soft limit buffer report r buffer report
  refused_by_length refusal asked e =
      let no = first_no soft report refusal asked B choice limit buffer in
      let due : page_answer B choice soft limit buffer report ≡ Err refusal = no PageOutcome refused_by _ in
      record {
        answer = e ∙ ap (λ (x : PageOutcome). returned (number x) (place x)) (sym due);
        buffer_is = sym (no (List ℕ) (λ q p. buffer) _);
        report_is = sym (ap (report_after report) due);
      }

  -- or it returns what the call answered, which fits, and writes the report, for which there is room
  module _ (asked : own_lengths (length soft) (length report) ≡ all_done) (o : PageOutcome) (new : List ℕ) (page : PageFilled B choice supercode soft limit buffer o new) where
    pub report_may_be_written : (number o ≤ 14) × (place o ≤ 1890) × (length report ≡ 78)
    report_may_be_written =
        let fits : SmallPage o = subst⁻¹ SmallPage page.answer (page_small choice supercode soft limit (eqb (length buffer) B.places)) in
        (fits.0, fits.1, report_is_right soft report asked)

    pub returned_by_the_call : (r : ℕ) (new_report : List ℕ) → (r ≡ returned (number o) (place o)) × (new_report ≡ report_after report o) → PageReturned B choice soft limit buffer report r new new_report
    returned_by_the_call r new_report told =
        let D = decoded_page choice supercode soft limit in
        let same_room = report_has_room B buffer report (report_is_right soft report asked) in
        let same : o ≡ page_answer B choice soft limit buffer report = page.answer ∙ ap (λ (b : Bool). ask_page choice soft limit b refused_by (outcome_of D)) (sym same_room) in
        record {
          answer = told.0 ∙ ap (λ (x : PageOutcome). returned (number x) (place x)) same;
          buffer_is = page.bytes ∙ ap (λ (b : Bool). ask_page choice soft limit b (λ q p. buffer) (filled B buffer D)) (sym same_room);
          report_is = told.1 ∙ ap (report_after report) same;
        }
