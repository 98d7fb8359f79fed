-- For the code's contracts: the answers of the chip model's calls as the numbers that C gets. Assumes nothing.
use Rattle.std.specs.Prelude.{List, ◌≡◌, ℕ}
use Rattle.chip_pages.specs.declared.ChipPage.{ChipPage}
use Rattle.searches.specs.Searches.{number, place, word, low}
use Rattle.store_chip.specs.Chip.{ChipDecoded}
use Rattle.store_chip.specs.declared.ChipAnswer.{ChipAnswer}
use Rattle.entries.specs.Told.{page_reply_of}
use Rattle.chip_entries.specs.declared.ChipFound.{ChipFound}
use Rattle.chip_entries.specs.declared.ChipReply.{ChipReply}

abbrev pub chip_found_of : ChipAnswer → ChipFound
chip_found_of a =
    let f = a.found in
    record { number = number f; place = place f; word = word f; count = a.count; low = low f; pushed = a.pushed }

abbrev pub chip_reply_of : ChipPage → ChipReply
chip_reply_of d = record { page = page_reply_of d.page; pushed = d.pushed }

-- the page call told r, and left `new` in the place of `old`
pub record ChipReplied (soft : List ℕ) (limit : ℕ) (old : List ℕ) (r : ChipReply) (new : List ℕ) : Type 0 where
  pub outcome : ChipPage
  pub decoded : ChipDecoded soft limit old outcome new
  pub told : r ≡ chip_reply_of outcome
