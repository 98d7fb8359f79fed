-- `station::station_read_dump` meets its contract: the call's outcome as one number, and its bytes. Assumes nothing.
use mathlib.Core.Path.{ap, ◌∙◌, subst⁻¹}
use Rattle.questions.specs.Answer.{Outcome, number, place}
use Rattle.station.specs.Returned.{returned}
use Rattle.station.proofs.Places.{SmallOutcome, read_small}
use Rattle.station.proofs.station_read_dump.Goals as goal

pub returned_outcome-requires : goal.returned_outcome-requires
returned_outcome-requires c =
    let args = c.args in
    subst⁻¹ SmallOutcome c.read_dump.ensures.answer (read_small args.dump.now args.soft.now)

pub returns : goal.returns
returns c =
    let filled = c.read_dump.ensures in
    record { answer = c.returned_outcome.ensures ∙ ap (λ (o : Outcome). returned (number o) (place o)) filled.answer; bytes = filled.bytes }
