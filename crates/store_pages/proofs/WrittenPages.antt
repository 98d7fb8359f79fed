-- Demand 2 of the calls: a written page comes back from every page decoder: by either search, with list of two or without, and as the chip decodes it. Assumes nothing.
use mathlib.Core.Bool.{true}
use mathlib.Core.List.{List}
use mathlib.Core.Path.{◌≡◌, sym, ap, ◌∙◌}
use Prim.Native.Nat.{ℕ, ◌≤◌}
use lib.ListN.{length}
use Rattle.column.specs.Shape.{short}
use Rattle.dump.specs.Accepted.{Values}
use Rattle.trellis.specs.TwoWords.{Choice, threshold_allowed}
use Rattle.concatenated.specs.Format.{short_page}
use Rattle.concatenated.specs.SoftPage.{soft_columns}
use Rattle.concatenated.specs.Decode.{Reader, answered, decoded}
use Rattle.concatenated.specs.Written.{written_rows, columns_of}
use Rattle.concatenated.specs.Misread.{WithinReach}
use Rattle.concatenated.specs.OuterCode.{short_outer, short_encoder, ShortCodeword}
use Rattle.page.specs.Outcomes.{report_of, outcome_of, data_buffer, filled, PageOutcome, report}
use Rattle.concatenated.proofs.Digits.{Below}
use Rattle.concatenated.proofs.OuterJoint.{outer_laws}
use Rattle.concatenated.proofs.Short.{written_page_comes_back}
use Rattle.questions.specs.Answer.{number, place}
use Rattle.store_pages.specs.Pages.{FilledBy}
use Rattle.store_pages.specs.WrittenPages.{CameBack}
use Rattle.store_pages.proofs.Asked.{accepted_call}

module _ (soft : List ℕ) (values_soft : Values 1890 7 soft) (limit : ℕ) (some : 1 ≤ limit) (at_most : limit ≤ 2000) (choice : Choice) (in_range : threshold_allowed choice ≡ true) (old : List ℕ) (room : length old ≡ 150) where
  -- what `encode_page` wrote, read within reach at each level by whatever reader the call decodes by, comes back from the call
  pub written_page_comes_back_from_the_calls : (read : Reader) (bytes : List ℕ) → length bytes ≡ 150 → Below 256 bytes
      → WithinReach short_page short_outer read (columns_of 63 (written_rows short_page short_encoder bytes)) (soft_columns short_page soft)
      → (r : PageOutcome) (new : List ℕ) → FilledBy (decoded short short_outer read (soft_columns short_page soft)) data_buffer choice soft limit old r new → CameBack (decoded short short_outer read (soft_columns short_page soft)) bytes r new
  unfolding outcome_of filled
  written_page_comes_back_from_the_calls read bytes full are_bytes within r new call =
      let back = written_page_comes_back short_outer short_encoder ShortCodeword outer_laws read bytes full are_bytes soft within in
      let made = accepted_call (decoded short short_outer read (soft_columns short_page soft)) data_buffer choice soft limit old values_soft some at_most in_range room r new call in
      let outcome : r ≡ outcome_of (answered back.0 back.1) = made.0 ∙ ap outcome_of back.2 in
      record {
        number = ap number outcome;
        place = ap place outcome;
        data_are = made.1 ∙ ap (filled data_buffer old) back.2 ∙ back.4;
        levels = back.0;
        answered_so = back.2 ∙ ap (λ (x : PageOutcome). answered back.0 (report x).steps) (sym outcome);
        rows_are_written = back.3;
        reported = ap report outcome ∙ ap (λ (x : PageOutcome). report_of back.0 (report x).steps) (sym outcome);
      }
