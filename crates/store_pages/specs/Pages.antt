-- 01: the questions put to the page calls, and their answers; 02, point 1: with list of two; point 7: asking; point 9: the default limit. Assumes nothing.
use Rattle.std.specs.Prelude.{Bool, List, ◌≡◌, ℕ, eqb, leb, ℤ, length}
use Rattle.column.specs.Shape.{short}
use Rattle.trellis.specs.Demand.{Search}
use Rattle.trellis.specs.TwoWords.{Choice, off, on, threshold_allowed}
use Rattle.concatenated.specs.Format.{short_page}
use Rattle.concatenated.specs.SoftPage.{soft_columns}
use Rattle.concatenated.specs.Decode.{PageAnswer, decoded}
use Rattle.concatenated.specs.Readers.{short_reader}
use Rattle.concatenated.specs.OuterCode.{short_outer}
use Rattle.page.specs.Outcomes.{outcome_of, data_buffer, filled, symbol_buffer, Buffer, PageOutcome}
use Rattle.questions.specs.declared.refusal.Question.{Question}
use Rattle.questions.specs.Questions.{ask, first_above}
use Rattle.questions.specs.Answer.{Outcome, refused, done}
use Rattle.questions.specs.declared.refusal.Question.TheVariants.{InputLength, OutputLength, Limit, Range, Threshold}

-- 1: 150 bytes, 2: 252 places
abbrev pub encode_page_answer : List ℕ → List ℕ → Outcome
encode_page_answer bytes out =
    ask (eqb (length bytes) 150) (refused InputLength 0)
    (ask (eqb (length out) 252) (refused OutputLength 0)
    done)

-- 02, point 9: "Calls that name no limit, and `readpage`, now use 200"
abbrev pub default_limit : ℕ
default_limit = 200

-- page decoding with one of the two searches for every column at every level, with list of two or without
abbrev pub decoded_page : Choice → Search → List ℕ → ℕ → PageAnswer
decoded_page choice s soft limit = decoded short short_outer (short_reader choice s limit) (soft_columns short_page soft)

-- 1: 1,890 values, 2: whether the outputs have their places, 4: the limit 1..2,000, 11: with list of two, its threshold, 5: each value 0..7; `refusal` gives what a no gives
abbrev pub ask_page : {A : Type 0} → Choice → List ℕ → ℕ → Bool → (Question → ℕ → A) → A → A
ask_page choice soft limit room refusal next =
    ask (eqb (length soft) 1890) (refusal InputLength 0)
    (ask room (refusal OutputLength 0)
    (ask (leb 1 limit) (refusal Limit 0)
    (ask (leb limit 2000) (refusal Limit 0)
    (ask (threshold_allowed choice) (refusal Threshold 0)
    (ask (leb 1890 (first_above soft 7)) (refusal Range (first_above soft 7))
    next)))))

-- a call that decodes to `page`: the answer, 10 with its level included, and the bytes after it: what the answer fills the buffer with, or the old ones
pub record FilledBy (page : PageAnswer) (B : Buffer) (choice : Choice) (soft : List ℕ) (limit : ℕ) (old : List ℕ) (r : PageOutcome) (new : List ℕ) : Type 0 where
  pub answer : r ≡ ask_page choice soft limit (eqb (length old) B.places) refused (outcome_of page)
  pub bytes : new ≡ ask_page choice soft limit (eqb (length old) B.places) (λ q p. old) (filled B old page)

-- with one of the two searches
abbrev pub PageFilled : Buffer → Choice → Search → List ℕ → ℕ → List ℕ → PageOutcome → List ℕ → Type 0
PageFilled B choice s soft limit = FilledBy (decoded_page choice s soft limit) B choice soft limit

-- page decoding: 150 bytes
abbrev pub PageDecoded : Search → List ℕ → ℕ → List ℕ → PageOutcome → List ℕ → Type 0
PageDecoded = PageFilled data_buffer off

-- 02, point 7: "Asking fills a lent buffer of 252 corrected symbols, row after row, and gives the report"
abbrev pub PageAsked : Search → List ℕ → ℕ → List ℕ → PageOutcome → List ℕ → Type 0
PageAsked = PageFilled symbol_buffer off

-- 02, point 1: both with list of two and its threshold
abbrev pub ListDecoded : ℤ → Search → List ℕ → ℕ → List ℕ → PageOutcome → List ℕ → Type 0
ListDecoded threshold = PageFilled data_buffer (on threshold)

abbrev pub ListAsked : ℤ → Search → List ℕ → ℕ → List ℕ → PageOutcome → List ℕ → Type 0
ListAsked threshold = PageFilled symbol_buffer (on threshold)
