-- 01: a written page, as a call reads it: what demand 2 says that a page decoder gives. Assumes nothing.
use Rattle.std.specs.Prelude.{List, ◌≡◌, ℕ}
use Rattle.concatenated.specs.Format.{short_page}
use Rattle.concatenated.specs.Decode.{PageAnswer, answered, Level, rows}
use Rattle.concatenated.specs.Written.{written_rows}
use Rattle.concatenated.specs.OuterCode.{short_encoder}
use Rattle.page.specs.Outcomes.{report_of, PageOutcome, report}
use Rattle.questions.specs.Answer.{number, place}

-- demand 2: "A written page comes back": the call answers with number 0, place 0 and the data; its report is that of levels whose rows are the written ones
pub record CameBack (answer : PageAnswer) (bytes : List ℕ) (r : PageOutcome) (new : List ℕ) : Type 0 where
  pub number : number r ≡ 0
  pub place : place r ≡ 0
  pub data_are : new ≡ bytes
  pub levels : List Level
  pub answered_so : answer ≡ answered levels (report r).steps
  pub rows_are_written : rows levels ≡ written_rows short_page short_encoder bytes
  pub reported : report r ≡ report_of levels (report r).steps
