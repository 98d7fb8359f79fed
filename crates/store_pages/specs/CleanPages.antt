-- 02, point 12: clean bits, weak readings: a written page in which each soft value reads as the written bit, as a call reads it. Assumes nothing.
use Rattle.std.specs.Prelude.{Ok, List, ◌≡◌, ℕ, replicate}
use Rattle.dump.specs.Accepted.{Values}
use Rattle.trellis.specs.Demand.{Search}
use Rattle.trellis.specs.TwoWords.{Choice}
use Rattle.concatenated.specs.Format.{short_page}
use Rattle.concatenated.specs.SoftPage.{soft_columns}
use Rattle.concatenated.specs.Decode.{Level, PageAnswer, answered, page_low}
use Rattle.concatenated.specs.Written.{written_rows, written_page}
use Rattle.concatenated.specs.Symbols.{row_after_row}
use Rattle.concatenated.specs.Readers.{short_reader}
use Rattle.concatenated.specs.Clean.{ReadsAsWritten, TooManyUnread}
use Rattle.concatenated.specs.OuterCode.{short_outer, short_encoder}
use Rattle.page.specs.Outcomes.{no_columns, report_of, PageOutcome, report}
use Rattle.store_pages.specs.Pages.{decoded_page}
use Rattle.questions.specs.declared.refusal.Question.TheVariants.{Reach}
use Rattle.questions.specs.Answer.{refused}

-- 150 bytes of data, and 1,890 soft values each of which reads as the bit that `encode_page` writes there, at any sureness
pub record RightReadings (bytes soft : List ℕ) : Type 0 where
  pub are_bytes : Values 150 255 bytes
  pub are_values : Values 1890 7 soft
  pub read_as_written : ReadsAsWritten short_page (written_page short_page short_encoder bytes) soft

-- what asking is to fill in: the symbols of the written rows
abbrev pub written_symbols : List ℕ → List ℕ
written_symbols bytes = row_after_row (written_rows short_page short_encoder bytes)

-- the call answers as the definition does, with number 0, place 0 and the definition's report, which has no changed column, by every total and mark; the buffer holds what it is to hold
pub record CameBackUnchanged (answer : PageAnswer) (contents : List ℕ) (r : PageOutcome) (new : List ℕ) : Type 0 where
  pub levels : List Level
  pub steps : ℕ
  pub answered_so : answer ≡ answered levels steps
  pub outcome : r ≡ Ok (report_of levels steps)
  pub changed : (report r).changed ≡ replicate 4 0
  pub changed_marks_are : (report r).changed_marks ≡ replicate 4 0
  pub holds : new ≡ contents

-- and no erased column either: the report is that of no columns, with the definition's steps and low point
pub record CameBackUnharmed (answer : PageAnswer) (contents : List ℕ) (r : PageOutcome) (new : List ℕ) : Type 0 where
  pub unchanged : CameBackUnchanged answer contents r new
  pub outcome : r ≡ Ok (no_columns unchanged.steps (page_low unchanged.levels))

-- the call refuses by 10, at a level where more columns are unread than its row has roots, 30, 12, 6 or 4; the buffer is as it was
pub record RefusedForUnread (choice : Choice) (s : Search) (soft : List ℕ) (limit : ℕ) (old : List ℕ) (r : PageOutcome) (new : List ℕ) : Type 0 where
  pub unread : TooManyUnread short_page short_outer (short_reader choice s limit) (soft_columns short_page soft) (decoded_page choice s soft limit)
  pub outcome : r ≡ refused Reach unread.level
  pub holds : new ≡ old
