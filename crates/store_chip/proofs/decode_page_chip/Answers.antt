-- `store_chip::decode_page_chip` meets its contract: by the answer of the questions. Assumes nothing.
use mathlib.Core.Path.{refl, sym, ◌∙◌}
use lib.Dec.{eqb}
use lib.ListN.{length}
use borrow.Author.Tests.{eqb-true}
use Rattle.trellis.specs.TwoWords.{off}
use Rattle.store_pages.proofs.Asked.{ready}
use Rattle.store_chip.proofs.Pages.{chip_refused, chip_filled}
use Rattle.store_chip.proofs.decode_page_chip.Goals as goal

pub decode_page-requires : goal.decode_page-requires
decode_page-requires c =
    let args = c.args in
    let ok = ready off args.soft.now args.limit (eqb (length args.«data».now) 150) (sym c.page_questions.ensures ∙ c.in-Ok.is) in
    (ok.long, ok.values, ok.most, eqb-true _ _ ok.has_room)

pub returns-in-Ok : goal.returns-in-Ok
returns-in-Ok c =
    let args = c.args in
    chip_filled args.soft.now args.limit args.«data».now (sym c.in-Ok.is ∙ c.page_questions.ensures) _ _ c.decode_page.ensures.page_value c.decode_page.ensures.pushed_value c.decode_page.ensures.data_after

pub returns-in-Err : goal.returns-in-Err
returns-in-Err c =
    let args = c.args in
    chip_refused args.soft.now args.limit args.«data».now _ (sym c.in-Err.is ∙ c.page_questions.ensures) _ refl
