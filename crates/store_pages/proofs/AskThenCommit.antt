-- 02, point 7, of the calls: asking gives one decode's report or refusal, and committing what it filled in, unaltered, writes that decode's bytes. Assumes nothing.
use mathlib.Core.Bool.{Bool, true}
use mathlib.Core.List.{List, []}
use mathlib.Core.Path.{◌≡◌, refl, sym, ap, ◌∙◌, subst⁻¹}
use Prim.Native.Nat.{ℕ, ◌<◌}
use native.Mathlib.Omega.{arith}
use borrow.Author.Tests.{eq-eqb}
use lib.Dec.{eqb}
use lib.ListN.{length, get_or}
use Rattle.trellis.specs.Demand.{Search}
use Rattle.trellis.specs.TwoWords.{Choice}
use Rattle.concatenated.specs.Format.{short_page}
use Rattle.concatenated.specs.SoftPage.{soft_columns}
use Rattle.concatenated.specs.Decode.{PageAnswer, answered, refused, rows}
use Rattle.concatenated.specs.Symbols.{row_in, rows_in}
use Rattle.concatenated.specs.OuterCode.{short_outer, short_encoder, ShortCodeword}
use Rattle.concatenated.proofs.SoftPages.{as_many_columns}
use Rattle.concatenated.proofs.OuterJoint.{outer_laws}
use Rattle.concatenated.proofs.Symbols.{row_in_at}
use Rattle.concatenated.proofs.Answers.{rows_are_codewords}
use Rattle.concatenated.proofs.RowsWritten.{answered_rows_come_back}
use Rattle.page.proofs.PageOutcomes.{answer_is_packed}
use Rattle.page.specs.Outcomes.{outcome_of, data_buffer, filled, symbol_buffer, Buffer, PageOutcome}
use Rattle.questions.specs.Answer.{after, Outcome, refused as refused_by, done as all_done, number}
use Rattle.questions.specs.Number.{number_of}
use Rattle.std.specs.Prelude.{Ok, Err, is_ok}
use Rattle.store_pages.specs.Pages.{ask_page, decoded_page, PageFilled}
use Rattle.store_pages.specs.Committing.{held_bytes, Committed, FourWords}
use Rattle.store_pages.proofs.Asked.{settled, Numbered, refusals_are_numbered}
use Rattle.store_pages.proofs.Committing.{commit_accepts_exactly}

answers_alone_are_0 : (d : PageAnswer) → number (outcome_of d) ≡ 0 → is_ok (outcome_of d) ≡ true
unfolding outcome_of
answers_alone_are_0 (answered ls n) e = refl
answers_alone_are_0 (refused l) e = absurd (omega (arith, e))

module _ (choice : Choice) (s : Search) (soft : List ℕ) (limit : ℕ) where
  -- two calls whose buffers have their places are asked and answered alike: "asking gives one decode's report or refusal", number, place and all fields
  pub asking_gives_one_decodes_report : (old_symbols old_data : List ℕ) (asked decoded : PageOutcome) (new_symbols new_data : List ℕ) → length old_symbols ≡ 252 → length old_data ≡ 150
      → PageFilled symbol_buffer choice s soft limit old_symbols asked new_symbols → PageFilled data_buffer choice s soft limit old_data decoded new_data → asked ≡ decoded
  asking_gives_one_decodes_report old_symbols old_data asked decoded new_symbols new_data full room ask decode =
      ask.answer ∙ ap (λ (b : Bool). ask_page choice soft limit b refused_by (outcome_of (decoded_page choice s soft limit))) (eq-eqb _ _ full ∙ sym (eq-eqb _ _ room)) ∙ sym decode.answer

  -- a call that answers gives what the page's answer makes
  answered_call : (B : Buffer) (old : List ℕ) (r : PageOutcome) (new : List ℕ) → PageFilled B choice s soft limit old r new → number r ≡ 0
      → (r ≡ outcome_of (decoded_page choice s soft limit)) × (new ≡ filled B old (decoded_page choice s soft limit))
  answered_call B old r new call done = go (ask_page choice soft limit room refused_by all_done) refl (refusals_are_numbered choice soft limit room)
    where
      room : Bool
      room = eqb (length old) B.places

      go : (o : Outcome) → o ≡ ask_page choice soft limit room refused_by all_done → Numbered choice soft limit room o → (r ≡ outcome_of (decoded_page choice s soft limit)) × (new ≡ filled B old (decoded_page choice s soft limit))
      go (Ok v) e h = (call.answer ∙ settled choice soft limit room refused_by _ (Ok v) e, call.bytes ∙ settled choice soft limit room (λ q p. old) _ (Ok v) e)
      go (Err refusal) e h =
          let numbered : number r ≡ number_of refusal.question = ap number (call.answer ∙ settled choice soft limit room refused_by _ (Err refusal) e) in
          absurd (omega (arith, numbered, done, h))

  -- the symbols that an answer filled in are words in all four rows
  filled_in_words : (old symbols : List ℕ) (d : PageAnswer) → decoded_page choice s soft limit ≡ d → number (outcome_of d) ≡ 0 → symbols ≡ filled symbol_buffer old d → (i : ℕ) → i < 4 → ShortCodeword i (row_in short_page symbols i)
  unfolding outcome_of filled
  filled_in_words old symbols (refused l) e z is i h = absurd (omega (arith, z))
  filled_in_words old symbols (answered ls n) e z is i h =
      let page = soft_columns short_page soft in
      let wide = as_many_columns short_page soft in
      let back : rows_in short_page symbols ≡ rows ls = ap (rows_in short_page) is ∙ answered_rows_come_back short_page short_outer short_encoder ShortCodeword outer_laws _ page wide ls n e in
      subst⁻¹ (ShortCodeword i) (sym (row_in_at short_page symbols i h) ∙ ap (λ (x : List (List ℕ)). get_or x i []) back)
      (rows_are_codewords short_page short_outer short_encoder ShortCodeword outer_laws _ page wide ls n e i h)

  -- "committing the filled buffer unaltered writes that decode's bytes"
  pub committing_what_was_asked_writes_the_decoded_bytes : (old_symbols old_data kept : List ℕ) (asked decoded : PageOutcome) (committed : Outcome) (new_symbols new_data written : List ℕ)
      → length old_symbols ≡ 252 → length old_data ≡ 150 → length kept ≡ 150
      → PageFilled symbol_buffer choice s soft limit old_symbols asked new_symbols → number asked ≡ 0 → PageFilled data_buffer choice s soft limit old_data decoded new_data → Committed new_symbols kept committed written
      → (committed ≡ all_done) × (written ≡ new_data)
  committing_what_was_asked_writes_the_decoded_bytes old_symbols old_data kept asked decoded committed new_symbols new_data written full room has_room ask done decode commit =
      let D = decoded_page choice s soft limit in
      let a = answered_call symbol_buffer old_symbols asked new_symbols ask done in
      let same = asking_gives_one_decodes_report old_symbols old_data asked decoded new_symbols new_data full room ask decode in
      let b = answered_call data_buffer old_data decoded new_data decode (ap number (sym same) ∙ done) in
      let packed = answer_is_packed _ (soft_columns short_page soft) asked a.0 (as_many_columns short_page soft) (ap (λ (x : PageOutcome). is_ok x) a.0 ∙ answers_alone_are_0 D (ap number (sym a.0) ∙ done)) old_symbols new_symbols a.1 in
      let four : FourWords new_symbols = record { long = packed.0.0; words = filled_in_words old_symbols new_symbols D refl (ap number (sym a.0) ∙ done) a.1 } in
      let taken = (commit_accepts_exactly new_symbols kept committed written commit).1 (four, has_room) in
      (taken, commit.bytes ∙ ap (λ (o : Outcome). after o (held_bytes new_symbols) kept) (sym commit.answer ∙ taken) ∙ packed.1 old_data (held_bytes new_symbols) refl ∙ sym b.1)
