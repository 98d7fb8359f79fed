-- decode_page and decode_page_whole, ask_page and ask_page_whole, and the same with list of two: demand 3 for pages and 02, point 1, carried to the calls by their contracts. Assumes nothing.
use mathlib.Core.Bool.{Bool}
use mathlib.Core.List.{List}
use mathlib.Core.Path.{◌≡◌, refl, sym, ap, ◌∙◌, subst, subst⁻¹}
use Prim.Native.Nat.{ℕ}
use native.Mathlib.Omega.{arith}
use lib.Dec.{eqb}
use lib.IntN.{ℤ}
use lib.ListN.{length}
use Rattle.column.specs.Shape.{short}
use Rattle.trellis.specs.Values.{level_values}
use Rattle.trellis.specs.Demand.{whole, supercode}
use Rattle.trellis.specs.TwoWords.{Choice, off, on}
use Rattle.concatenated.specs.Format.{short_page}
use Rattle.concatenated.specs.SoftPage.{soft_columns}
use Rattle.concatenated.specs.Decode.{PageAnswer, answered, refused, page_low}
use Rattle.concatenated.specs.Readers.{Agree, NoneSpent, NoneEnded, dead_ahead, sum_below, short_reader}
use Rattle.concatenated.specs.OuterCode.{short_outer}
use Rattle.concatenated.specs.Marks.{changed_marks, erased_marks}
use Rattle.page.specs.Outcomes.{changed_totals, erased_totals, outcome_of, data_buffer, filled, symbol_buffer, Buffer, PageOutcome}
use Rattle.concatenated.proofs.Short.{decoders_agree}
use Rattle.questions.specs.Answer.{Outcome, refused as refused_by, done as all_done}
use Rattle.questions.specs.declared.refusal.Refusal.{Refusal}
use Rattle.questions.specs.Number.{number_of}
use Rattle.std.specs.Prelude.{Ok, Err}
use Rattle.store_pages.specs.Pages.{decoded_page, ask_page, PageFilled, PageDecoded, PageAsked, ListDecoded, ListAsked}
use Rattle.store_pages.specs.BothDecoders.{SameButSteps}
use Rattle.store_pages.proofs.Asked.{settled, Numbered, refusals_are_numbered}

outcomes_agree : (d : ℕ) (w s : PageAnswer) → Agree d w s → SameButSteps d (outcome_of s) (outcome_of w)
unfolding outcome_of
outcomes_agree d (answered ls m) (answered ks n) e =
    record {
      number = refl;
      place = refl;
      changed = ap changed_totals (sym e.0);
      erased = ap erased_totals (sym e.0);
      changed_marks_are = ap changed_marks (sym e.0);
      erased_marks_are = ap erased_marks (sym e.0);
      low = ap page_low (sym e.0);
      steps = λ z. e.1;
    }
outcomes_agree d (answered ls m) (refused k) e = absurd e
outcomes_agree d (refused l) (answered ks n) e = absurd e
outcomes_agree d (refused l) (refused k) e = record { number = refl; place = sym e; changed = refl; erased = refl; changed_marks_are = refl; erased_marks_are = refl; low = refl; steps = λ z. absurd (omega arith) }

buffers_agree : (B : Buffer) (d : ℕ) (old : List ℕ) (w s : PageAnswer) → Agree d w s → filled B old s ≡ filled B old w
unfolding filled
buffers_agree B d old (answered ls m) (answered ks n) e = ap (λ l. filled B old (answered l n)) (sym e.0)
buffers_agree B d old (answered ls m) (refused k) e = absurd e
buffers_agree B d old (refused l) (answered ks n) e = absurd e
buffers_agree B d old (refused l) (refused k) e = refl

pub refusals_agree : (d : ℕ) (r : Refusal) → (number_of r.question ≡ 0 → ⊥) → SameButSteps d (Err r) (Err r)
refusals_agree d r some = record { number = refl; place = refl; changed = refl; erased = refl; changed_marks_are = refl; erased_marks_are = refl; low = refl; steps = λ z. absurd (some z) }

-- the same questions lead both calls to the same refusal, or both on
asked_alike : (choice : Choice) (d : ℕ) (soft : List ℕ) (limit : ℕ) (room : Bool) (s w : PageOutcome) → SameButSteps d s w → SameButSteps d (ask_page choice soft limit room refused_by s) (ask_page choice soft limit room refused_by w)
asked_alike choice d soft limit room s w same = go (ask_page choice soft limit room refused_by all_done) refl (refusals_are_numbered choice soft limit room)
  where
    both : (x y : PageOutcome) → ask_page choice soft limit room refused_by s ≡ x → ask_page choice soft limit room refused_by w ≡ y → SameButSteps d x y → SameButSteps d (ask_page choice soft limit room refused_by s) (ask_page choice soft limit room refused_by w)
    both x y ex ey h = subst⁻¹ (λ (o : PageOutcome). SameButSteps d o (ask_page choice soft limit room refused_by w)) ex (subst⁻¹ (SameButSteps d x) ey h)

    go : (o : Outcome) → o ≡ ask_page choice soft limit room refused_by all_done → Numbered choice soft limit room o → SameButSteps d (ask_page choice soft limit room refused_by s) (ask_page choice soft limit room refused_by w)
    go (Ok v) e h = both s w (settled choice soft limit room refused_by s (Ok v) e) (settled choice soft limit room refused_by w (Ok v) e) same
    go (Err r) e h =
        both (Err r) (Err r) (settled choice soft limit room refused_by s (Err r) e) (settled choice soft limit room refused_by w (Err r) e) (refusals_agree d r (λ z. absurd (omega (arith, h, z))))

-- all dead paths ahead of the words of the page's column searches together: of the codeword; with list of two of the second word where one was sought, of the first where none was
abbrev pub dead_paths : Choice → List ℕ → ℕ → ℕ
dead_paths choice soft limit = sum_below short short_outer (short_reader choice supercode limit) (soft_columns short_page soft) (dead_ahead choice short level_values limit) 4

-- Where the limit ended no supercode search at levels 1..3 that the supercode decoder makes, both calls give the same bytes, number, place, totals and marks of
-- changed and erased columns and the same low point, and the step sums of an answered page differ by exactly the dead paths ahead.
both_calls : (B : Buffer) (choice : Choice) (soft : List ℕ) (limit : ℕ) → NoneEnded choice short short_outer level_values limit (soft_columns short_page soft) → (old : List ℕ) (rs rw : PageOutcome) (ns nw : List ℕ)
    → PageFilled B choice supercode soft limit old rs ns → PageFilled B choice whole soft limit old rw nw → SameButSteps (dead_paths choice soft limit) rs rw × (ns ≡ nw)
both_calls B choice soft limit none_ended old rs rw ns nw s w =
    let agree = decoders_agree short_outer choice limit (soft_columns short_page soft) none_ended in
    let dead = dead_paths choice soft limit in
    let D = decoded_page choice whole soft limit in
    let E = decoded_page choice supercode soft limit in
    let room = eqb (length old) B.places in (
      subst (λ (x : PageOutcome). SameButSteps dead x rw) (sym s.answer)
          (subst (λ (x : PageOutcome). SameButSteps dead (ask_page choice soft limit room refused_by (outcome_of E)) x) (sym w.answer)
          (asked_alike choice dead soft limit room (outcome_of E) (outcome_of D) (outcomes_agree dead D E agree))),
      s.bytes ∙ ap (ask_page choice soft limit room (λ q p. old)) (buffers_agree B dead old D E agree) ∙ sym w.bytes,
    )

-- demand 3: where no supercode search at levels 1..3 is spent
module _ (soft : List ℕ) (limit : ℕ) (none_spent : NoneSpent short short_outer (short_reader off supercode limit) (soft_columns short_page soft)) where
  pub decode_page_and_decode_page_whole : (old : List ℕ) (rs rw : PageOutcome) (ns nw : List ℕ)
      → PageDecoded supercode soft limit old rs ns → PageDecoded whole soft limit old rw nw → SameButSteps (dead_paths off soft limit) rs rw × (ns ≡ nw)
  decode_page_and_decode_page_whole = both_calls data_buffer off soft limit none_spent

  pub ask_page_and_ask_page_whole : (old : List ℕ) (rs rw : PageOutcome) (ns nw : List ℕ)
      → PageAsked supercode soft limit old rs ns → PageAsked whole soft limit old rw nw → SameButSteps (dead_paths off soft limit) rs rw × (ns ≡ nw)
  ask_page_and_ask_page_whole = both_calls symbol_buffer off soft limit none_spent

-- 02, point 1: "both decoders still match on pages where no supercode search, first or second, met its limit"
module _ (threshold : ℤ) (soft : List ℕ) (limit : ℕ) (none_ended : NoneEnded (on threshold) short short_outer level_values limit (soft_columns short_page soft)) where
  pub decode_page_list_and_decode_page_whole_list : (old : List ℕ) (rs rw : PageOutcome) (ns nw : List ℕ)
      → ListDecoded threshold supercode soft limit old rs ns → ListDecoded threshold whole soft limit old rw nw → SameButSteps (dead_paths (on threshold) soft limit) rs rw × (ns ≡ nw)
  decode_page_list_and_decode_page_whole_list = both_calls data_buffer (on threshold) soft limit none_ended

  pub ask_page_list_and_ask_page_whole_list : (old : List ℕ) (rs rw : PageOutcome) (ns nw : List ℕ)
      → ListAsked threshold supercode soft limit old rs ns → ListAsked threshold whole soft limit old rw nw → SameButSteps (dead_paths (on threshold) soft limit) rs rw × (ns ≡ nw)
  ask_page_list_and_ask_page_whole_list = both_calls symbol_buffer (on threshold) soft limit none_ended
