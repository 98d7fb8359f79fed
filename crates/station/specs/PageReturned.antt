-- 01: "Its decoding and the program use the supercode search": the questions of page decoding and of asking for C with a limit (02, points 9 and 7), with list of two (point 1) or without, and their answers. Assumes nothing.
use Rattle.std.specs.Prelude.{Bool, Ok, Err, ◌&&◌, List, ◌≡◌, ℕ, eqb, ℤ, length}
use Rattle.trellis.specs.Demand.{supercode}
use Rattle.trellis.specs.TwoWords.{Choice, off, on}
use Rattle.page.specs.Outcomes.{outcome_of, data_buffer, filled, symbol_buffer, Buffer, PageOutcome}
use Rattle.questions.specs.Questions.{ask}
use Rattle.store_pages.specs.Pages.{ask_page, decoded_page}
use Rattle.station.specs.Returned.{returned}
use Rattle.station.specs.Report.{report_bytes}
use Rattle.questions.specs.Answer.{number, place, Outcome, refused, done}
use Rattle.questions.specs.declared.refusal.Question.TheVariants.{InputLength, OutputLength}

-- 2: the buffer has its places, and the report 78
abbrev pub have_room : Buffer → List ℕ → List ℕ → Bool
have_room B buffer report = eqb (length buffer) B.places && eqb (length report) 78

-- For the code's contracts: the lengths that an entry asks about itself, the soft page's and the report's
abbrev pub own_lengths : ℕ → ℕ → Outcome
own_lengths soft report = ask (eqb soft 1890) (refused InputLength 0) (ask (eqb report 78) (refused OutputLength 0) done)

-- what an entry that fills such a buffer is due to answer
abbrev pub page_answer : Buffer → Choice → List ℕ → ℕ → List ℕ → List ℕ → PageOutcome
page_answer B choice soft limit buffer report = ask_page choice soft limit (have_room B buffer report) refused (outcome_of (decoded_page choice supercode soft limit))

-- For the code's contracts: the report of an answered page; after a refusal the old bytes
abbrev pub report_after : List ℕ → PageOutcome → List ℕ
report_after old (Ok r) = report_bytes r
report_after old (Err r) = old

-- For the code's contracts: the entry returned r and left the bytes and the report that the page settles
pub record PageReturned (B : Buffer) (choice : Choice) (soft : List ℕ) (limit : ℕ) (buffer report : List ℕ) (r : ℕ) (new_buffer new_report : List ℕ) : Type 0 where
  pub answer : r ≡ returned (number (page_answer B choice soft limit buffer report)) (place (page_answer B choice soft limit buffer report))
  pub buffer_is : new_buffer ≡ ask_page choice soft limit (have_room B buffer report) (λ q p. buffer) (filled B buffer (decoded_page choice supercode soft limit))
  pub report_is : new_report ≡ report_after report (page_answer B choice soft limit buffer report)

-- decoding: 150 bytes of data
abbrev pub PageDecodedForC : List ℕ → ℕ → List ℕ → List ℕ → ℕ → List ℕ → List ℕ → Type 0
PageDecodedForC = PageReturned data_buffer off

-- asking: 252 corrected symbols
abbrev pub PageAskedForC : List ℕ → ℕ → List ℕ → List ℕ → ℕ → List ℕ → List ℕ → Type 0
PageAskedForC = PageReturned symbol_buffer off

-- decoding with list of two and its threshold
abbrev pub ListDecodedForC : ℤ → List ℕ → ℕ → List ℕ → List ℕ → ℕ → List ℕ → List ℕ → Type 0
ListDecodedForC threshold = PageReturned data_buffer (on threshold)
