-- 02, point 7, of the entries for C: asking returns what decoding returns, with the same report, and committing what it filled in writes what decoding writes. Assumes nothing.
use mathlib.Core.Bool.{Bool}
use mathlib.Core.List.{List}
use mathlib.Core.Path.{◌≡◌, refl, sym, ap, ◌∙◌}
use Prim.Native.Nat.{ℕ}
use native.Mathlib.Omega.{arith}
use lib.ListN.{length}
use Rattle.trellis.specs.Demand.{supercode}
use Rattle.trellis.specs.TwoWords.{Choice, off}
use Rattle.page.specs.Outcomes.{outcome_of, data_buffer, filled, symbol_buffer, Buffer, PageOutcome, report as reported}
use Rattle.questions.specs.Answer.{number, place, after, Outcome, refused as refused_by}
use Rattle.store_pages.specs.Pages.{ask_page, decoded_page, PageFilled}
use Rattle.store_pages.specs.Committing.{commit_answer, held_bytes, Committed}
use Rattle.store_pages.proofs.AskThenCommit.{asking_gives_one_decodes_report, committing_what_was_asked_writes_the_decoded_bytes}
use Rattle.station.proofs.Numbers.{answer_is_reported}
use Rattle.station.specs.Returned.{returned, Returned}
use Rattle.station.specs.Report.{report_bytes}
use Rattle.station.specs.PageReturned.{page_answer, PageReturned, PageDecodedForC, PageAskedForC}
use Rattle.station.proofs.Asked.{report_has_room}

-- an entry with room for the report is the call
pub as_the_call : (B : Buffer) (choice : Choice) (soft : List ℕ) (limit : ℕ) (buffer report : List ℕ) (r : ℕ) (new_buffer new_report : List ℕ) → length report ≡ 78
    → PageReturned B choice soft limit buffer report r new_buffer new_report → PageFilled B choice supercode soft limit buffer (page_answer B choice soft limit buffer report) new_buffer
as_the_call B choice soft limit buffer report r new_buffer new_report room entry =
    let D = decoded_page choice supercode soft limit in
    let same_room = report_has_room B buffer report room in
    record {
      answer = ap (λ (b : Bool). ask_page choice soft limit b refused_by (outcome_of D)) same_room;
      bytes = entry.buffer_is ∙ ap (λ (b : Bool). ask_page choice soft limit b (λ n p. buffer) (filled B buffer D)) same_room;
    }

module _ (soft : List ℕ) (limit : ℕ) (old_symbols old_data ask_report decode_report : List ℕ) (full : length old_symbols ≡ 252) (room : length old_data ≡ 150) (ask_room : length ask_report ≡ 78) (decode_room : length decode_report ≡ 78)
    (asked decoded : ℕ) (new_symbols new_data new_ask_report new_decode_report : List ℕ) (ask : PageAskedForC soft limit old_symbols ask_report asked new_symbols new_ask_report)
    (decode : PageDecodedForC soft limit old_data decode_report decoded new_data new_decode_report) where
  -- what both are due to answer
  same : page_answer symbol_buffer off soft limit old_symbols ask_report ≡ page_answer data_buffer off soft limit old_data decode_report
  same =
      asking_gives_one_decodes_report off supercode soft limit old_symbols old_data _ _ new_symbols new_data full room
      (as_the_call symbol_buffer off soft limit old_symbols ask_report asked new_symbols new_ask_report ask_room ask) (as_the_call data_buffer off soft limit old_data decode_report decoded new_data new_decode_report decode_room decode)

  pub asking_returns_what_decoding_returns : (asked ≡ decoded) × (asked ≡ 0 → new_ask_report ≡ new_decode_report)
  asking_returns_what_decoding_returns = (
    ask.answer ∙ ap (λ (o : PageOutcome). returned (number o) (place o)) same ∙ sym decode.answer,
    λ done.
        let o = page_answer symbol_buffer off soft limit old_symbols ask_report in
        let answered : number o ≡ 0 = omega (arith, ask.answer, done) in
        let also : number (page_answer data_buffer off soft limit old_data decode_report) ≡ 0 = ap number (sym same) ∙ answered in
        let first : new_ask_report ≡ report_bytes (reported o) = ask.report_is ∙ answer_is_reported ask_report o answered in
        let second : new_decode_report ≡ report_bytes (reported (page_answer data_buffer off soft limit old_data decode_report)) = decode.report_is ∙ answer_is_reported decode_report _ also in
        first ∙ ap (λ (x : PageOutcome). report_bytes (reported x)) same ∙ sym second,
  )

  pub committing_writes_what_decoding_writes : asked ≡ 0 → (kept : List ℕ) → length kept ≡ 150 → (committed : ℕ) (written : List ℕ)
      → Returned (commit_answer new_symbols kept) (held_bytes new_symbols) kept committed written → (committed ≡ 0) × (written ≡ new_data)
  committing_writes_what_decoding_writes done kept has_room committed written commit =
      let due = commit_answer new_symbols kept in
      let made = held_bytes new_symbols in
      let call : Committed new_symbols kept due (after due made kept) = record { answer = refl; number = refl; place = refl; bytes = refl } in
      let answered : number (page_answer symbol_buffer off soft limit old_symbols ask_report) ≡ 0 = omega (arith, ask.answer, done) in
      let both =
      committing_what_was_asked_writes_the_decoded_bytes off supercode soft limit old_symbols old_data kept _ _ due new_symbols new_data (after due made kept) full room has_room
      (as_the_call symbol_buffer off soft limit old_symbols ask_report asked new_symbols new_ask_report ask_room ask) answered
      (as_the_call data_buffer off soft limit old_data decode_report decoded new_data new_decode_report decode_room decode) call in
      let done_with : (old : List ℕ) → after due made old ≡ made = λ old. ap (λ (o : Outcome). after o made old) both.0 in
      (commit.answer ∙ ap (λ (o : Outcome). returned (number o) (place o)) both.0, commit.bytes ∙ done_with _ ∙ sym (done_with kept) ∙ both.1)
