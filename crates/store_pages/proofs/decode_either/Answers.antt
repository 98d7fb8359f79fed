-- `store_pages::decode_either` meets its contract: by the answer of the questions. Assumes nothing.
use mathlib.Core.Path.{refl, sym, ◌∙◌, subst⁻¹}
use Rattle.std.proofs.lemmas.Result.{err_from_is_err_and}
use Prim.Native.Nat.{ℕ, ◌≤◌}
use lib.Dec.{eqb}
use lib.ListN.{length}
use borrow.Author.Tests.{eqb-true}
use Rattle.search.specs.Outcomes.{search_of}
use Rattle.list_of_two.specs.Ways.{choice}
use Rattle.page.specs.Outcomes.{data_buffer}
use Rattle.store_pages.specs.Pages.{decoded_page}
use Rattle.store_pages.proofs.Asked.{ready, refused_as, filled_in_its_way}
use Rattle.store_pages.proofs.decode_either.Goals as goal

pub way_of-way-requires : goal.way_of-way-requires
way_of-way-requires c =
    let args = c.args in
    (ready (choice args.threshold) args.soft.now args.limit (eqb (length args.«data».now) 150) (sym c.page_questions.ensures ∙ c.in_ok-page_questions.was)).in_range

pub decode_page-requires : goal.decode_page-requires
decode_page-requires c =
    let args = c.args in
    let ok = ready (choice args.threshold) args.soft.now args.limit (eqb (length args.«data».now) 150) (sym c.page_questions.ensures ∙ c.in_ok-page_questions.was) in
    (ok.long, ok.values, subst⁻¹ (λ (l : ℕ). l ≤ 2000) c.way_of-way.ensures.0 ok.most, eqb-true _ _ ok.has_room)

pub returns-in_err-page_questions : goal.returns-in_err-page_questions
returns-in_err-page_questions c =
    let args = c.args in
    let p = err_from_is_err_and c.from_residual.result c.from_residual.ensures.1 in
    refused_as (decoded_page (choice args.threshold) (search_of args.in_supercodes) args.soft.now args.limit) data_buffer (choice args.threshold) args.soft.now args.limit args.«data».now _ (sym c.in_err-page_questions.was ∙ c.page_questions.ensures) _ (rw (p.1, p.2) refl)

pub returns : goal.returns
returns c =
    let args = c.args in
    filled_in_its_way data_buffer c.way_of-way.result args.threshold args.in_supercodes args.soft.now args.limit args.«data».now c.way_of-way.ensures (sym c.in_ok-page_questions.was ∙ c.page_questions.ensures) _ _ c.decode_page.ensures.value c.decode_page.ensures.data_after
