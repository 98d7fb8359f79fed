-- `station::station_commit_page` meets its contract: the call's outcome as one number, and its bytes. Assumes nothing.
use mathlib.Core.Path.{ap, ◌∙◌, subst⁻¹}
use Rattle.questions.specs.Answer.{Outcome, number, place}
use Rattle.station.specs.Returned.{returned}
use Rattle.station.proofs.Places.{SmallOutcome, commit_small}
use Rattle.station.proofs.station_commit_page.Goals as goal

pub returned_outcome-requires : goal.returned_outcome-requires
returned_outcome-requires c =
    let args = c.args in
    subst⁻¹ SmallOutcome c.commit_page.ensures.answer (commit_small args.symbols.now args.«data».now)

pub returns : goal.returns
returns c =
    let filled = c.commit_page.ensures in
    record { answer = c.returned_outcome.ensures ∙ ap (λ (o : Outcome). returned (number o) (place o)) filled.answer; bytes = filled.bytes }
