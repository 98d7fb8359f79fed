-- 01: the two decoders, as calls: what demand 3 says that `decode_page` and `decode_page_whole`, and `ask_page` and `ask_page_whole`, have in common. Assumes nothing.
use Rattle.std.specs.Prelude.{◌≡◌, ℕ, ◌+◌}
use Rattle.page.specs.Outcomes.{PageOutcome, report}
use Rattle.questions.specs.Answer.{number, place}
use Rattle.questions.specs.Answer

-- the same number and place; the same totals and marks of changed and erased columns; the same low point; and, for an answered page, the step sum of the first is larger by exactly `dead`
pub record SameButSteps (dead : ℕ) (supercode whole : PageOutcome) : Type 0 where
  pub number : number supercode ≡ number whole
  pub place : place supercode ≡ place whole
  pub changed : (report supercode).changed ≡ (report whole).changed
  pub erased : (report supercode).erased ≡ (report whole).erased
  pub changed_marks_are : (report supercode).changed_marks ≡ (report whole).changed_marks
  pub erased_marks_are : (report supercode).erased_marks ≡ (report whole).erased_marks
  pub low : (report supercode).low ≡ (report whole).low
  pub steps : Answer.number whole ≡ 0 → (report supercode).steps ≡ (report whole).steps + dead
