-- `station::returned_page` meets its contract: the report is written where the number is 0. Assumes nothing.
use mathlib.Core.Path.{refl, ap, ◌∙◌}
use mir.Syntax.{w16}
use mir.Val.{SFits}
use mir.Facts.{to_z-of_z}
use Rattle.station.specs.Report.{low_bytes}
use Prim.Native.Nat.{ℕ}
use mathlib.Core.List.{List, ◌++◌}
use lib.ListN.{length, drop}
use Rattle.station.proofs.Marking.{front_length, front_copied, report_is}
use borrow.Author.Rules.{rules}
use Rattle.station.proofs.returned_page.Goals as goal

pub returns-in-Ok : goal.returns-in-Ok
returns-in-Ok c =
    let told = c.in-Ok.told in
    let fits : SFits w16 told.low = record { sfits = search rules } in
    let is = report_is told _ _ _ _ _ c.requires.2 c.steps_and_totals-front.ensures (ap (λ (s : List ℕ). s ++ drop 12 c.args.report.now) c.copy_from_slice.ensures.after ∙ front_copied _ c.args.report.now (ap length c.steps_and_totals-front.ensures ∙ front_length told)) c.write_marks.ensures (c.write_low.ensures ∙ ap low_bytes (to_z-of_z {w = w16} fits)) in
    rw (c.in-Ok.is) (refl, is)
