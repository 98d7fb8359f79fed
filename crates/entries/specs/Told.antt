-- For the code's contracts: the calls' answers as the numbers that C gets. Assumes nothing.
use Rattle.page.specs.Outcomes.{Buffer, PageOutcome, report}
use Rattle.questions.specs.Answer.{Answer, Outcome, number, place, value, after}
use Rattle.searches.specs.Searches.{SearchAnswer, word, count, low}
use Rattle.std.specs.Prelude.{List, ◌≡◌, ℕ}
use Rattle.trellis.specs.Demand.{Search}
use Rattle.trellis.specs.TwoWords.{Choice}
use Rattle.store_pages.specs.Pages.{PageFilled}
use Rattle.entries.specs.declared.PageReply.{PageReply}
use Rattle.entries.specs.declared.Reply.{Reply}
use Rattle.entries.specs.declared.Told.{Told}
use Rattle.entries.specs.declared.Found.{Found}

abbrev pub told_of : Answer → Told
told_of a = record { number = number a; place = place a; value = value a }

abbrev pub found_of : SearchAnswer → Found
found_of a = record { number = number a; place = place a; word = word a; count = count a; low = low a }

abbrev pub reply_of : Outcome → Reply
reply_of o = record { number = number o; place = place o }

-- a call that is due to answer `due`, and to make `made` where it does not refuse, told r and left `new` in the place of `old`
pub record Replied (due : Outcome) (made old : List ℕ) (r : Reply) (new : List ℕ) : Type 0 where
  pub answer : r ≡ reply_of due
  pub bytes : new ≡ after due made old

abbrev pub page_reply_of : PageOutcome → PageReply
page_reply_of o =
    let r = report o in
    record { number = number o; place = place o; steps = r.steps; changed = r.changed; erased = r.erased; changed_marks = r.changed_marks; erased_marks = r.erased_marks; low = r.low }

-- a page call told r of the outcome that its contract settles, and left `new` in the place of `old`
pub record PageReplied (B : Buffer) (choice : Choice) (s : Search) (soft : List ℕ) (limit : ℕ) (old : List ℕ) (r : PageReply) (new : List ℕ) : Type 0 where
  pub outcome : PageOutcome
  pub filled : PageFilled B choice s soft limit old outcome new
  pub told : r ≡ page_reply_of outcome
