-- 02, point 5: the questions put to the calls of the chip model, and their answers. Assumes nothing.
use Rattle.std.specs.Prelude.{Bool, false, cond, List, Option, None, Some, Ok, ◌≡◌, ℕ, eqb, ltb, length}
use Rattle.column.specs.Shape.{short}
use Rattle.paths.specs.Search.{SearchResult, answer, spent}
use Rattle.paths.specs.Bounded.{BoundedResult}
use Rattle.trellis.specs.Trellis.{WordFound}
use Rattle.trellis.specs.Demand.{supercode}
use Rattle.trellis.specs.TwoWords.{off}
use Rattle.concatenated.specs.Format.{short_page}
use Rattle.concatenated.specs.SoftPage.{soft_columns}
use Rattle.concatenated.specs.Decode.{PageAnswer, decoded}
use Rattle.concatenated.specs.OuterCode.{short_outer}
use Rattle.concatenated.specs.Chip.{chip_column, chip_reader, chip_pushed_out}
use Rattle.page.specs.Outcomes.{data_buffer}
use Rattle.chip_pages.specs.declared.ChipPage.{ChipPage}
use Rattle.questions.specs.Answer.{refused}
use Rattle.questions.specs.declared.refusal.Question.{Question}
use Rattle.questions.specs.declared.refusal.Question.TheVariants.{Spent, EmptyStack}
use Rattle.search.specs.declared.Found.{Found}
use Rattle.chip.specs.declared.ChipOutcome.{ChipOutcome}
use Rattle.searches.specs.Searches.{SearchAnswer, found, ask_search, search_answer}
use Rattle.searches.specs.Searches as searches
use Rattle.store_pages.specs.Pages.{ask_page, FilledBy}
use Rattle.store_chip.specs.declared.ChipAnswer.{ChipAnswer}

-- ---- the search of a column

-- what a refusal before the search gives: no path was taken, and none was pushed out
abbrev pub refused_search : Question → ℕ → ChipAnswer
refused_search q p = record { found = refused q p; count = 0; pushed = false }

-- the question that a search without a word is refused by after c paths. 02: "Turned away: 13, the stack is empty, asked right after 9": 9 where the limit was taken
abbrev pub unfound : ℕ → ℕ → Question
unfound limit c = cond (ltb c limit) EmptyStack Spent

-- 9, then 13; 02: "Its answer says whether any path was pushed out, and so do its 9 and 13", which count the paths taken
unfoldable pub ended_answer : ℕ → Bool → SearchResult WordFound → ChipAnswer
ended_answer limit lost (answer w c) = record { found = found w.column c w.low; count = c; pushed = lost }
ended_answer limit lost (spent c) = record { found = refused (unfound limit c) 0; count = c; pushed = lost }

abbrev pub column_answer : ℕ → BoundedResult WordFound → ChipAnswer
column_answer limit e = ended_answer limit e.any_pushed_out e.result

-- 1, 3, 4 and 5, as for every column search; then 9 and 13
abbrev pub chip_answer : List ℕ → ℕ → ℕ → ChipAnswer
chip_answer soft level limit = ask_search off level soft limit refused_search (column_answer limit (chip_column limit level soft))

-- the chip's search gives what the supercode search gives: number, place, word and low point; the count of an answer; a 9 counts the limit
pub record AsSupercode (soft : List ℕ) (level limit : ℕ) (r : ChipAnswer) : Type 0 where
  pub number : searches.number r.found ≡ searches.number (search_answer off supercode level soft limit)
  pub place : searches.place r.found ≡ searches.place (search_answer off supercode level soft limit)
  pub word : searches.word r.found ≡ searches.word (search_answer off supercode level soft limit)
  pub low : searches.low r.found ≡ searches.low (search_answer off supercode level soft limit)
  pub count : searches.number r.found ≡ 0 → r.count ≡ searches.count (search_answer off supercode level soft limit)
  pub steps : searches.number r.found ≡ 9 → r.count ≡ limit

-- ---- pages

-- page decoding by the chip's search of every column at every level
abbrev pub chip_page : List ℕ → ℕ → PageAnswer
chip_page soft limit = decoded short short_outer (chip_reader limit) (soft_columns short_page soft)

-- the answer and the bytes, as of every page decoder; 02: "a page's answer and its 10 say it of all searches made"; any other refusal says that none was pushed out
pub record ChipDecoded (soft : List ℕ) (limit : ℕ) (old : List ℕ) (r : ChipPage) (new : List ℕ) : Type 0 where
  pub filled : FilledBy (chip_page soft limit) data_buffer off soft limit old r.page new
  pub flag : r.pushed ≡ ask_page off soft limit (eqb (length old) 150) (λ q p. false) (chip_pushed_out limit short_outer (soft_columns short_page soft))

-- ---- For the code's contracts

-- a word, or a refusal by a question
abbrev pub or_refused : Question → Option Found → SearchAnswer
or_refused q (Some f) = Ok f
or_refused q None = refused q 0

-- the outcome of the code's search as the call's answer
abbrev pub as_answer : ℕ → ChipOutcome → ChipAnswer
as_answer limit o = record { found = or_refused (unfound limit o.count) o.found; count = o.count; pushed = o.pushed }
