-- What the questions of the chip's page decoder lead to: the first no, or the page's answer. Assumes nothing.
use mathlib.Core.Bool.{Bool, false}
use mathlib.Core.List.{List}
use mathlib.Core.Path.{◌≡◌, sym, ◌∙◌}
use Prim.Native.Nat.{ℕ}
use lib.Dec.{eqb}
use lib.ListN.{length}
use Rattle.trellis.specs.TwoWords.{off}
use Rattle.concatenated.specs.Format.{short_page}
use Rattle.concatenated.specs.SoftPage.{soft_columns}
use Rattle.concatenated.specs.OuterCode.{short_outer}
use Rattle.concatenated.specs.Chip.{chip_pushed_out}
use Rattle.std.specs.Prelude.{Err}
use Rattle.page.specs.Outcomes.{PageOutcome, outcome_of, data_buffer, filled}
use Rattle.chip_pages.specs.declared.ChipPage.{ChipPage}
use Rattle.questions.specs.Answer.{refused, done}
use Rattle.questions.specs.declared.refusal.Refusal.{Refusal}
use Rattle.store_pages.specs.Pages.{ask_page}
use Rattle.store_pages.proofs.Asked.{settled, refused_as, filled_as}
use Rattle.store_chip.specs.Chip.{chip_page, ChipDecoded}

module _ (soft : List ℕ) (limit : ℕ) (old : List ℕ) where
  abbrev room : Bool
  room = eqb (length old) 150

  pub chip_refused : (refusal : Refusal) → Err refusal ≡ ask_page off soft limit room refused done → (r : PageOutcome) → r ≡ Err refusal → ChipDecoded soft limit old (record { page = r; pushed = false }) old
  chip_refused refusal asked r e = record {
    filled = refused_as (chip_page soft limit) data_buffer off soft limit old refusal asked r e;
    flag = sym (settled off soft limit room (λ q p. false) _ (Err refusal) asked);
  }

  pub chip_filled : done ≡ ask_page off soft limit room refused done → (r : ChipPage) (new : List ℕ) → r.page ≡ outcome_of (chip_page soft limit) → r.pushed ≡ chip_pushed_out limit short_outer (soft_columns short_page soft)
      → new ≡ filled data_buffer old (chip_page soft limit) → ChipDecoded soft limit old r new
  chip_filled asked r new e flag b = record {
    filled = filled_as (chip_page soft limit) data_buffer off soft limit old asked r.page new e b;
    flag = flag ∙ sym (settled off soft limit room (λ q p. false) _ done asked);
  }
