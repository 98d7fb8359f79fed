-- 02, point 12, of the entries for C: right readings never mislead, with list of two or without; with it the page always comes back, unsearched. Assumes nothing.
use mathlib.Core.Bool.{true}
use mathlib.Core.List.{List}
use mathlib.Core.Logic.{◌⊎◌, inl, inr, ⊎_elim}
use mathlib.Core.Path.{◌≡◌, ap, ◌∙◌}
use Prim.Native.Nat.{ℕ, ◌≤◌, ◌<◌}
use native.Mathlib.Omega.{arith}
use lib.IntN.{ℤ}
use lib.ListN.{length, get_or, get_or-replicate, replicate}
use Rattle.trellis.specs.Demand.{supercode}
use Rattle.trellis.specs.TwoWords.{Choice, on, threshold_allowed}
use Rattle.page.specs.Outcomes.{data_buffer, symbol_buffer, Buffer, PageOutcome, report as reported}
use Rattle.store_pages.specs.Pages.{decoded_page}
use Rattle.store_pages.specs.CleanPages.{RightReadings, written_symbols, CameBackUnchanged, RefusedForUnread}
use Rattle.store_pages.proofs.CleanPages.{clean_page_comes_back_unsearched_from_decoding, right_readings_never_mislead_decoding, right_readings_never_mislead_asking}
use Rattle.station.specs.Returned.{returned}
use Rattle.station.specs.PageReturned.{page_answer, PageReturned, ListDecodedForC}
use Rattle.station.specs.CleanPages.{ReturnedUnchanged, ReturnedUnsearched, ReturnedUnread}
use Rattle.station.proofs.AskThenCommit.{as_the_call}
use Rattle.station.proofs.Numbers.{refusal_is_not_reported}
use Rattle.station.proofs.ReadBack.{report_is_read_back}
use Rattle.questions.specs.Answer.{number, place}

-- an entry of a list of zeros
zero_at : (l : List ℕ) (level : ℕ) → l ≡ replicate 4 0 → level < 4 → get_or l level 0 ≡ 0
zero_at l level e h = ap (λ (x : List ℕ). get_or x level 0) e ∙ get_or-replicate 4 level 0 0 h

module _ (bytes soft : List ℕ) (right : RightReadings bytes soft) (limit : ℕ) (some : 1 ≤ limit) (at_most : limit ≤ 2000) (buffer report : List ℕ) (room : length report ≡ 78) (r : ℕ) (new_buffer new_report : List ℕ) where
  module _ (choice : Choice) (in_range : threshold_allowed choice ≡ true) where
    -- what holds of the call holds of the entry
    module _ (B : Buffer) (contents : List ℕ) (entry : PageReturned B choice soft limit buffer report r new_buffer new_report) where
      abbrev due : PageOutcome
      due = page_answer B choice soft limit buffer report

      returned_unchanged : CameBackUnchanged (decoded_page choice supercode soft limit) contents due new_buffer → ReturnedUnchanged contents r new_buffer new_report
      returned_unchanged back =
          let success : r ≡ 0 = entry.answer ∙ ap (λ (o : PageOutcome). returned (number o) (place o)) back.outcome in
          let read = report_is_read_back B choice soft limit buffer report r new_buffer new_report entry success in
          record { success = success; holds = back.holds; none_changed = λ level h. ((read.totals level h).0 ∙ zero_at _ level back.changed h, (read.marks level h).0 ∙ zero_at _ level back.changed_marks_are h) }

      returned_unread : RefusedForUnread choice supercode soft limit buffer due new_buffer → ReturnedUnread choice soft limit buffer report r new_buffer new_report
      returned_unread refusal =
          let ten : number due ≡ 10 = ap number refusal.outcome in
          record {
            unread = refusal.unread;
            refused = entry.answer ∙ ap (λ (o : PageOutcome). returned (number o) (place o)) refusal.outcome;
            same_buffer = refusal.holds;
            same_report = entry.report_is ∙ refusal_is_not_reported report due (λ z. absurd (omega (arith, ten, z)));
          }

      never_misled : CameBackUnchanged (decoded_page choice supercode soft limit) contents due new_buffer ⊎ RefusedForUnread choice supercode soft limit buffer due new_buffer
          → ReturnedUnchanged contents r new_buffer new_report ⊎ ReturnedUnread choice soft limit buffer report r new_buffer new_report
      never_misled = ⊎_elim (λ back. inl (returned_unchanged back)) (λ refusal. inr (returned_unread refusal))

    -- decoding gives the data with no column changed, or refuses by 10 for unread columns
    pub right_readings_never_mislead_the_station : length buffer ≡ 150 → PageReturned data_buffer choice soft limit buffer report r new_buffer new_report
        → ReturnedUnchanged bytes r new_buffer new_report ⊎ ReturnedUnread choice soft limit buffer report r new_buffer new_report
    right_readings_never_mislead_the_station full entry =
        never_misled data_buffer bytes entry
        (right_readings_never_mislead_decoding bytes soft right limit some at_most supercode choice in_range buffer full _ new_buffer (as_the_call data_buffer choice soft limit buffer report r new_buffer new_report room entry))

    -- asking gives the symbols of the written rows, or refuses so
    pub right_readings_never_mislead_a_station_that_asks : length buffer ≡ 252 → PageReturned symbol_buffer choice soft limit buffer report r new_buffer new_report
        → ReturnedUnchanged (written_symbols bytes) r new_buffer new_report ⊎ ReturnedUnread choice soft limit buffer report r new_buffer new_report
    right_readings_never_mislead_a_station_that_asks full entry =
        never_misled symbol_buffer (written_symbols bytes) entry
        (right_readings_never_mislead_asking bytes soft right limit some at_most supercode choice in_range buffer full _ new_buffer (as_the_call symbol_buffer choice soft limit buffer report r new_buffer new_report room entry))

  -- with list of two the data always comes back, with no column changed or erased and in 0 steps
  pub clean_page_comes_back_unsearched_to_the_station : (threshold : ℤ) → threshold_allowed (on threshold) ≡ true → length buffer ≡ 150
      → ListDecodedForC threshold soft limit buffer report r new_buffer new_report → ReturnedUnsearched bytes r new_buffer new_report
  clean_page_comes_back_unsearched_to_the_station threshold in_range full entry =
      let call =
      clean_page_comes_back_unsearched_from_decoding bytes soft right limit some at_most supercode threshold in_range buffer full _ new_buffer (as_the_call data_buffer (on threshold) soft limit buffer report r new_buffer new_report room entry) in
      let is = call.0.outcome in
      let unchanged = returned_unchanged (on threshold) in_range data_buffer bytes entry call.0.unchanged in
      let read = report_is_read_back data_buffer (on threshold) soft limit buffer report r new_buffer new_report entry unchanged.success in
      record {
        unchanged = unchanged;
        none_erased = λ level h. (
          (read.totals level h).1 ∙ zero_at _ level (ap (λ (o : PageOutcome). (reported o).erased) is) h,
          (read.marks level h).1 ∙ zero_at _ level (ap (λ (o : PageOutcome). (reported o).erased_marks) is) h,
        );
        no_steps = read.steps ∙ call.1;
      }
