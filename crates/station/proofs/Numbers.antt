-- Number 0 is success: of a page entry's report, what stands there after an answer and after a refusal. Assumes nothing.
use mathlib.Core.List.{List}
use mathlib.Core.Path.{◌≡◌, refl}
use Prim.Native.Nat.{ℕ, ◌≤◌}
use native.Mathlib.Omega.{arith}
use Rattle.std.specs.Prelude.{Ok, Err}
use Rattle.page.specs.Outcomes.{PageOutcome, report as reported}
use Rattle.questions.specs.Answer.{number}
use Rattle.questions.specs.Number.{number_of}
use Rattle.questions.specs.declared.refusal.Question.{Question}
use Rattle.questions.specs.declared.refusal.Question.TheVariants.{InputLength, OutputLength, Level, Limit, Range, Word, FixedBytes, Check, Spent, Reach, Threshold, Bytes, EmptyStack, OuterWord, Lines, Name, Held, SummedLimit}
use Rattle.station.specs.Report.{report_bytes}
use Rattle.station.specs.PageReturned.{report_after}

-- a question has a number, so that 0 is success
has_a_number : (q : Question) → 1 ≤ number_of q
has_a_number InputLength = omega arith
has_a_number OutputLength = omega arith
has_a_number Level = omega arith
has_a_number Limit = omega arith
has_a_number Range = omega arith
has_a_number Word = omega arith
has_a_number FixedBytes = omega arith
has_a_number Check = omega arith
has_a_number Spent = omega arith
has_a_number Reach = omega arith
has_a_number Threshold = omega arith
has_a_number Bytes = omega arith
has_a_number EmptyStack = omega arith
has_a_number OuterWord = omega arith
has_a_number Lines = omega arith
has_a_number Name = omega arith
has_a_number Held = omega arith
has_a_number SummedLimit = omega arith

-- what a page entry leaves of its report: that of an answer, by number 0, or the old bytes
pub answer_is_reported : (old : List ℕ) (o : PageOutcome) → number o ≡ 0 → report_after old o ≡ report_bytes (reported o)
answer_is_reported old (Ok r) e = refl
answer_is_reported old (Err r) e = absurd (omega (arith, has_a_number r.question, e))

pub refusal_is_not_reported : (old : List ℕ) (o : PageOutcome) → (number o ≡ 0 → ⊥) → report_after old o ≡ old
refusal_is_not_reported old (Ok r) other = absurd (other refl)
refusal_is_not_reported old (Err r) other = refl
