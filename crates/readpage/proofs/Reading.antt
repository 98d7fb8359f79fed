-- What reading the dump leaves, and the output by it. Assumes nothing.
use mathlib.Core.Path.{◌≡◌, ap, ◌∙◌, sym}
use mathlib.Core.Bool.{true}
use mathlib.Core.List.{List}
use Prim.Native.Nat.{ℕ}
use lib.Dec.{leb}
use lib.ListN.{replicate}
use Rattle.std.specs.Prelude.{Err}
use Rattle.trellis.specs.Demand.{supercode}
use Rattle.trellis.specs.TwoWords.{off}
use Rattle.dump.specs.Dump.{soft_of}
use Rattle.questions.specs.Answer.{Outcome, after, done, Filled}
use Rattle.questions.specs.Number.{number_of}
use Rattle.questions.specs.declared.refusal.Refusal.{Refusal}
use Rattle.store_dumps.specs.Dumps.{read_answer}
use Rattle.store_pages.specs.Pages.{decoded_page, default_limit}
use Rattle.questions.specs.Questions.{first_above}
use Rattle.store_dumps.proofs.DumpAnswers.{read_passes}
use Rattle.questions.proofs.AllInRange.{no_value_above}
use Rattle.listing.specs.Lines.{refused_line}
use Rattle.readpage.specs.Report.{decoded_text, read_text, output_of}

-- where nothing is refused, the values are those of the dump
pub soft_read : {due r : Outcome} {made old new : List ℕ} → Filled due made old r new → r ≡ done → new ≡ made
soft_read {made = made} {old = old} filled answered = filled.bytes ∙ ap (λ (o : Outcome). after o made old) (sym filled.answer ∙ answered)

-- and each is 0..7
pub soft_in_range : (dump old new : List ℕ) (r : Outcome) → Filled (read_answer dump old) (soft_of dump) old r new → r ≡ done
    → leb 1890 (first_above new 7) ≡ true
soft_in_range dump old new r filled answered =
    let page = (read_passes dump old (sym filled.answer ∙ answered)).values in
    ap (λ (l : List ℕ). leb 1890 (first_above l 7)) (soft_read filled answered) ∙ no_value_above (soft_of dump) 1890 7 page.size page.range

pub output_read : (dump new : List ℕ) (r : Outcome) → Filled (read_answer dump (replicate 1890 0)) (soft_of dump) (replicate 1890 0) r new → r ≡ done
    → decoded_text (decoded_page off supercode new default_limit) ≡ output_of dump
unfolding output_of
output_read dump new r filled answered =
    ap (λ (l : List ℕ). decoded_text (decoded_page off supercode l default_limit)) (soft_read filled answered)
    ∙ ap (λ (o : Outcome). read_text o (decoded_text (decoded_page off supercode (soft_of dump) default_limit))) (sym answered ∙ filled.answer)

pub output_refused : (dump new : List ℕ) (r : Outcome) (refusal : Refusal) → Filled (read_answer dump (replicate 1890 0)) (soft_of dump) (replicate 1890 0) r new → r ≡ Err refusal
    → refused_line (number_of refusal.question) refusal.place ≡ output_of dump
unfolding output_of
output_refused dump new r refusal filled refused =
    ap (λ (o : Outcome). read_text o (decoded_text (decoded_page off supercode (soft_of dump) default_limit))) (sym refused ∙ filled.answer)
