-- 01: what page decoding reports, as the code gives it, and what it leaves in the buffer it fills: the data, or 02's corrected symbols. Assumes nothing.
use Rattle.std.specs.Prelude.{Result, Ok, Err, List, map, ℕ, ℤ, pos, replicate}
use Rattle.questions.specs.declared.refusal.Question.TheVariants.{Reach}
use Rattle.questions.specs.declared.refusal.Refusal.{Refusal}
use Rattle.questions.specs.Answer.{refused as refused_by}
use Rattle.page.specs.declared.Report.{Report}
use Rattle.concatenated.specs.Lists.{total}
use Rattle.concatenated.specs.Format.{short_page}
use Rattle.concatenated.specs.Decode.{Level, page_low, rows, PageAnswer, answered, refused}
use Rattle.concatenated.specs.Marks.{changed_marks, erased_marks}
use Rattle.concatenated.specs.Written.{bytes_of_rows}
use Rattle.concatenated.specs.Symbols.{row_after_row}

-- how many columns each level changed, and how many it erased
abbrev pub changed_totals : List Level → List ℕ
changed_totals = map (λ l. total l.changed)

abbrev pub erased_totals : List Level → List ℕ
erased_totals = map (λ l. total l.erased)

-- a page answer's report: "the steps", of each level the changed and erased columns, by their totals and their marks, and 02's point 8, the low point
abbrev pub report_of : List Level → ℕ → Report
report_of ls n =
    record { steps = n; changed = changed_totals ls; erased = erased_totals ls; changed_marks = changed_marks ls; erased_marks = erased_marks ls; low = page_low ls }

-- a report of n steps, no column changed or erased at any level, and the low point z
abbrev pub no_columns : ℕ → ℤ → Report
no_columns n z =
    record { steps = n; changed = replicate 4 0; erased = replicate 4 0; changed_marks = replicate 4 0; erased_marks = replicate 4 0; low = z }

-- the report of a refusal: no steps either, and 0 for the low point
abbrev pub refusal_report : Report
refusal_report = no_columns 0 (pos 0)

-- what a page call answers: its number and place are those of crate questions' specs/Answer.antt; and its report
abbrev pub PageOutcome : Type 0
PageOutcome = Result Report Refusal

abbrev pub report : PageOutcome → Report
report (Ok r) = r
report (Err r) = refusal_report

-- number 0 with the report; or 01's number 10, "Place: the level in a page decode"
unfoldable pub outcome_of : PageAnswer → PageOutcome
outcome_of (answered ls n) = Ok (report_of ls n)
outcome_of (refused l) = refused_by Reach l

-- a buffer that a page's answer fills: how many bytes it has, and what is made for it of the rows
pub record Buffer : Type 0 where
  pub places : ℕ
  pub made : List (List ℕ) → List ℕ

-- 01: the 150 bytes of a page answer
abbrev pub data_buffer : Buffer
data_buffer = record { places = 150; made = bytes_of_rows short_page }

-- 02, point 7: "252 corrected symbols, row after row"
abbrev pub symbol_buffer : Buffer
symbol_buffer = record { places = 252; made = row_after_row }

-- the buffer after the answer; after a refusal the old bytes
unfoldable pub filled : Buffer → List ℕ → PageAnswer → List ℕ
filled b old (answered ls n) = b.made (rows ls)
filled b old (refused l) = old
