-- The text of page decoding, as the code has its outcome. Assumes nothing.
use mathlib.Core.Path.{◌≡◌, refl, ap, ◌∙◌}
use mathlib.Core.Bool.{true}
use mathlib.Core.List.{List}
use Prim.Native.Nat.{ℕ}
use borrow.Author.Tests.{eq-eqb}
use lib.Dec.{leb}
use lib.ListN.{length}
use Rattle.trellis.specs.Demand.{Search}
use Rattle.trellis.specs.TwoWords.{off}
use Rattle.concatenated.specs.Decode.{PageAnswer, answered, refused}
use Rattle.page.specs.Outcomes.{PageOutcome, outcome_of, data_buffer, filled}
use Rattle.page.specs.declared.Report.{Report}
use Rattle.questions.specs.Number.{number_of}
use Rattle.questions.specs.Questions.{first_above}
use Rattle.std.specs.Prelude.{Ok, Err}
use Rattle.store_pages.specs.Pages.{decoded_page, default_limit, PageDecoded}
use Rattle.listing.specs.Lines.{refused_line, page_text}
use Rattle.readpage.specs.Report.{decoded_text}

-- the lines of an answered page's report and bytes
abbrev report_text : Report → List ℕ → List ℕ
report_text r bytes = page_text r.steps r.changed r.changed_marks r.erased r.erased_marks bytes

-- the text of a page call's outcome, and of the bytes after it
abbrev pub text_of : PageOutcome → List ℕ → List ℕ
text_of (Ok r) bytes = report_text r bytes
text_of (Err r) bytes = refused_line (number_of r.question) r.place

outcome_text : (old : List ℕ) (d : PageAnswer) → text_of (outcome_of d) (filled data_buffer old d) ≡ decoded_text d
unfolding outcome_of filled decoded_text
outcome_text old (answered ls n) = refl
outcome_text old (refused l) = refl

-- a call with nothing to refuse before page decoding
module _ (s : Search) (soft old new : List ℕ) (r : PageOutcome) (decoded : PageDecoded s soft default_limit old r new)
    (long : length soft ≡ 1890) (room : length old ≡ 150) (five : leb 1890 (first_above soft 7) ≡ true) where
  outcome : r ≡ outcome_of (decoded_page off s soft default_limit)
  outcome = decoded.answer ∙ simp (eq-eqb _ _ long, eq-eqb _ _ room, five)

  bytes : new ≡ filled data_buffer old (decoded_page off s soft default_limit)
  bytes = decoded.bytes ∙ simp (eq-eqb _ _ long, eq-eqb _ _ room, five)

  pub text_is : text_of r new ≡ decoded_text (decoded_page off s soft default_limit)
  text_is =
      ap (λ (o : PageOutcome). text_of o new) outcome ∙ ap (text_of (outcome_of (decoded_page off s soft default_limit))) bytes
      ∙ outcome_text old (decoded_page off s soft default_limit)
