-- The page call of the chip model, for every input: on pages where none was pushed out it is decode_page, so demand 3 holds of it there; demand 2, its report, and what it reads of a column. Assumes nothing.
use mathlib.Core.Bool.{Bool, false}
use mathlib.Core.List.{List}
use mathlib.Core.Logic.{◌⊎◌, inl, inr}
use mathlib.Core.Path.{◌≡◌, refl, sym, ap, ◌∙◌, subst, subst⁻¹}
use Prim.Native.Nat.{ℕ, ◌≤◌, ◌<◌}
use native.Mathlib.Decide.{dec_le}
use native.Mathlib.Omega.{arith}
use lib.Dec.{eqb}
use borrow.Author.Tests.{lt-ltb, le-ltb}
use lib.IntN.{pos}
use lib.ListN.{length}
use Rattle.column.specs.Shape.{short}
use Rattle.dump.specs.Accepted.{Values}
use Rattle.paths.specs.Search.{SearchResult, answer, spent}
use Rattle.trellis.specs.Values.{level_values}
use Rattle.trellis.specs.Trellis.{WordFound}
use Rattle.trellis.specs.Demand.{whole, supercode}
use Rattle.trellis.specs.TwoWords.{off}
use Rattle.trellis.proofs.Short.{searchable}
use Rattle.concatenated.specs.Format.{short_page}
use Rattle.concatenated.specs.SoftPage.{soft_columns}
use Rattle.concatenated.specs.Decode.{PageAnswer}
use Rattle.concatenated.specs.Decode
use Rattle.concatenated.specs.Written.{written_rows, columns_of}
use Rattle.concatenated.specs.Misread.{WithinReach}
use Rattle.concatenated.specs.Readers.{NoneSpent}
use Rattle.concatenated.specs.OuterCode.{short_outer, short_encoder}
use Rattle.concatenated.specs.Chip.{reading_within, reader_within, chip_places, chip_column, chip_reader, chip_pushed_out}
use Rattle.concatenated.proofs.Digits.{Below}
use Rattle.concatenated.proofs.Chip.{none_pushed_out_is_the_decoding, none_spent_either, chip_reads_words}
use Rattle.std.specs.Prelude.{Ok, Err}
use Rattle.page.specs.Outcomes.{PageOutcome, report, outcome_of, data_buffer, filled}
use Rattle.chip_pages.specs.declared.ChipPage.{ChipPage}
use Rattle.questions.specs.Answer.{Outcome, refused, done, number}
use Rattle.searches.specs.Searches.{Allowed}
use Rattle.searches.proofs.Questions.{all_yes}
use Rattle.store_pages.specs.Pages.{ask_page, decoded_page, PageDecoded}
use Rattle.store_pages.specs.BothDecoders.{SameButSteps}
use Rattle.store_pages.specs.WrittenPages.{CameBack}
use Rattle.store_pages.specs.Reports.{Marked, MarksOf, LowestColumn}
use Rattle.store_pages.proofs.Asked.{settled, Numbered, refusals_are_numbered}
use Rattle.store_pages.proofs.BothDecoders.{dead_paths, decode_page_and_decode_page_whole, refusals_agree}
use Rattle.store_pages.proofs.WrittenPages.{written_page_comes_back_from_the_calls}
use Rattle.store_pages.proofs.Reports.{reports_are_marked, bits_are_the_columns, low_is_of_the_lowest_column}
use Rattle.questions.specs.Number.{number_of}
use Rattle.searches.specs.Searches as searches
use Rattle.store_chip.specs.Chip.{refused_search, unfound, ended_answer, column_answer, chip_answer, chip_page, ChipDecoded}
use Rattle.store_chip.specs.declared.ChipAnswer.{ChipAnswer}

-- ---- pages where none was pushed out

module _ (soft : List ℕ) (limit : ℕ) (old : List ℕ) (r : ChipPage) (new : List ℕ) (call : ChipDecoded soft limit old r new) (none : r.pushed ≡ false) where
  abbrev room : Bool
  room = eqb (length old) 150

  abbrev asked : Outcome
  asked = ask_page off soft limit room refused done

  -- past the questions the flag is that of the page's searches
  none_of_the_page : asked ≡ done → chip_pushed_out limit short_outer (soft_columns short_page soft) ≡ false
  none_of_the_page asks = sym (call.flag ∙ settled off soft limit room (λ q p. false) _ done (sym asks)) ∙ none

  same_page : asked ≡ done → chip_page soft limit ≡ decoded_page off supercode soft limit
  same_page asks = none_pushed_out_is_the_decoding chip_places short level_values limit searchable short_outer (soft_columns short_page soft) (none_of_the_page asks)

  -- 02: on such pages the answer is that of decode_page, in every field, and so are the bytes
  pub none_pushed_out_decodes_as_decode_page : (rs : PageOutcome) (ns : List ℕ) → PageDecoded supercode soft limit old rs ns → (r.page ≡ rs) × (new ≡ ns)
  none_pushed_out_decodes_as_decode_page rs ns s = go asked refl
    where
      go : (o : Outcome) → asked ≡ o → (r.page ≡ rs) × (new ≡ ns)
      go (Ok v) asks =
          (call.filled.answer ∙ ap (λ (d : PageAnswer). ask_page off soft limit room refused (outcome_of d)) (same_page asks) ∙ sym s.answer, call.filled.bytes ∙ ap (λ (d : PageAnswer). ask_page off soft limit room (λ q p. old) (filled data_buffer old d)) (same_page asks) ∙ sym s.bytes)
      go (Err refusal) asks = (
        call.filled.answer ∙ settled off soft limit room refused _ (Err refusal) (sym asks) ∙ sym (s.answer ∙ settled off soft limit room refused _ (Err refusal) (sym asks)),
        call.filled.bytes ∙ settled off soft limit room (λ q p. old) _ (Err refusal) (sym asks) ∙ sym (s.bytes ∙ settled off soft limit room (λ q p. old) _ (Err refusal) (sym asks)),
      )

  -- 02: "Users of the chip model get demand 3's agreement of the two decoders, under its own premise on spent columns, only on such pages."
  pub none_pushed_out_agrees_with_decode_page_whole : NoneSpent short short_outer (chip_reader limit) (soft_columns short_page soft) → (rw : PageOutcome) (nw : List ℕ) → PageDecoded whole soft limit old rw nw
      → SameButSteps (dead_paths off soft limit) r.page rw × (new ≡ nw)
  none_pushed_out_agrees_with_decode_page_whole none_spent rw nw w = go asked refl
    where
      go : (o : Outcome) → asked ≡ o → SameButSteps (dead_paths off soft limit) r.page rw × (new ≡ nw)
      go (Ok v) asks =
          let by_supercode : PageDecoded supercode soft limit old _ _ = record { answer = refl; bytes = refl } in
          let same = none_pushed_out_decodes_as_decode_page _ _ by_supercode in
          let none_of = none_spent_either chip_places short level_values limit searchable short_outer (soft_columns short_page soft) (none_of_the_page asks) none_spent in
          let both = decode_page_and_decode_page_whole soft limit none_of old _ rw _ nw by_supercode w in
          (subst⁻¹ (λ (o : PageOutcome). SameButSteps (dead_paths off soft limit) o rw) same.0 both.0, same.1 ∙ both.1)
      go (Err refusal) asks =
          let numbered : 1 ≤ number_of refusal.question = subst (Numbered off soft limit room) asks (refusals_are_numbered off soft limit room) in (
            subst⁻¹ (λ (o : PageOutcome). SameButSteps (dead_paths off soft limit) o rw) (call.filled.answer ∙ settled off soft limit room refused _ (Err refusal) (sym asks))
                (subst⁻¹ (SameButSteps (dead_paths off soft limit) (Err refusal)) (w.answer ∙ settled off soft limit room refused _ (Err refusal) (sym asks)) (refusals_agree (dead_paths off soft limit) refusal (λ z. omega (arith, numbered, z)))),
            call.filled.bytes ∙ settled off soft limit room (λ q p. old) _ (Err refusal) (sym asks) ∙ sym (w.bytes ∙ settled off soft limit room (λ q p. old) _ (Err refusal) (sym asks)),
          )

-- ---- every page

module _ (soft : List ℕ) (limit : ℕ) (old : List ℕ) (r : ChipPage) (new : List ℕ) (call : ChipDecoded soft limit old r new) where
  -- demand 2: "A written page comes back", the columns being misread or unread by the chip's search
  pub written_page_comes_back_from_the_chip : Values 1890 7 soft → 1 ≤ limit → limit ≤ 2000 → length old ≡ 150 → (bytes : List ℕ) → length bytes ≡ 150 → Below 256 bytes
      → WithinReach short_page short_outer (chip_reader limit) (columns_of 63 (written_rows short_page short_encoder bytes)) (soft_columns short_page soft) → CameBack (chip_page soft limit) bytes r.page new
  written_page_comes_back_from_the_chip values_soft some most room bytes full are_bytes within =
      written_page_comes_back_from_the_calls soft values_soft limit some most off refl old room (chip_reader limit) bytes full are_bytes within r.page new call.filled

  -- the report: its marks, and its low point
  pub chip_reports_are_marked : Marked (report r.page)
  chip_reports_are_marked = reports_are_marked limit (chip_reader limit) (chip_reads_words limit) soft off data_buffer old r.page new call.filled

  pub chip_bits_are_the_columns : number r.page ≡ 0 → MarksOf (chip_page soft limit) (report r.page)
  chip_bits_are_the_columns = bits_are_the_columns limit (chip_reader limit) (chip_reads_words limit) soft off data_buffer old r.page new call.filled

  pub chip_low_is_of_the_lowest_column : (number r.page ≡ 0 → LowestColumn (chip_page soft limit) (report r.page)) × ((number r.page ≡ 0 → ⊥) → (report r.page).low ≡ pos 0)
  chip_low_is_of_the_lowest_column = low_is_of_the_lowest_column limit (chip_reader limit) (chip_reads_words limit) soft off data_buffer old r.page new call.filled

-- 02: "in a page it is an erasure, counting the steps taken, and the column is unread": a column of a page is read as the column call answers, a 9 or a 13 as an erasure with the call's count
pub page_reads_what_the_call_answers : (soft : List ℕ) (level limit : ℕ) → Allowed level soft limit
    → (let a = chip_answer soft level limit in ((searches.number a.found ≡ 0) × (chip_reader limit level soft ≡ Decode.found (record { column = searches.word a.found; low = searches.low a.found }) a.count)) ⊎ (((searches.number a.found ≡ 9) ⊎ (searches.number a.found ≡ 13)) × (chip_reader limit level soft ≡ Decode.spent a.count)))
unfolding ended_answer reader_within reading_within
page_reads_what_the_call_answers soft level limit allowed = subst⁻¹ Reads (all_yes off level soft limit refl allowed refused_search _) (go (chip_column limit level soft).result refl)
  where
    Reads : ChipAnswer → Type 0
    Reads a = ((searches.number a.found ≡ 0) × (chip_reader limit level soft ≡ Decode.found (record { column = searches.word a.found; low = searches.low a.found }) a.count)) ⊎ (((searches.number a.found ≡ 9) ⊎ (searches.number a.found ≡ 13)) × (chip_reader limit level soft ≡ Decode.spent a.count))

    by_count : (c : ℕ) → Dec (limit ≤ c) → (number_of (unfound limit c) ≡ 9) ⊎ (number_of (unfound limit c) ≡ 13)
    by_count c (yes l) = inl (rw (le-ltb c limit l) refl)
    by_count c (no l) = let less : c < limit = omega arith in inr (rw (lt-ltb c limit less) refl)

    go : (x : SearchResult WordFound) → (chip_column limit level soft).result ≡ x → Reads (column_answer limit (chip_column limit level soft))
    go (answer w c) k = subst⁻¹ (λ (x : SearchResult WordFound). Reads (ended_answer limit (chip_column limit level soft).any_pushed_out x)) k (inl ((refl, ap reading_within k)))
    go (spent c) k = subst⁻¹ (λ (x : SearchResult WordFound). Reads (ended_answer limit (chip_column limit level soft).any_pushed_out x)) k (inr ((by_count c (dec_le limit c), ap reading_within k)))
