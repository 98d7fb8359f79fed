use mathlib.Core.Path.{sym, ap, ap₂, ◌∙◌}
use Prim.Native.Nat.{◌<◌}
use mathlib.Core.List.{[]}
use lib.ListN.{length}
use Rattle.column.specs.Shape.{short}
use Rattle.column.specs.Level.{level_word}
use Rattle.concatenated.specs.SoftPage.{column_off}
use Rattle.concatenated.proofs.Filling.{in_place_none, in_place_at, in_place_more}
use Rattle.concatenated.proofs.Columns.{row_off_length}
use Rattle.concatenated.proofs.Entries.{row_off_at}
use native.Mathlib.Omega.{arith}
use Rattle.softpage.proofs.rows.take_off.Goals as goal

pub loop-j-init : goal.loop-j-init
loop-j-init c = in_place_none _ _ 63 (row_off_length short _ _ _ (c.requires.2.0 ∙ sym c.requires.1.many) ∙ c.requires.1.many) c.requires.1.many

pub loop-j-preserved : goal.loop-j-preserved
loop-j-preserved c =
    let turn = c in
    let start = turn in
    let j = turn.loop-j.j in
    let h = c.loop-j-test.true in
    let row = start.args.row.now in
    let work = start.args.work.now in
    let long_row : j < length row = omega (arith, start.requires.2.0, h) in
    let long_work : j < length work = omega (arith, start.requires.1.many, h) in
    in_place_more _ _ _ 63 _ _ [] turn.loop-j.invariant h
    (c.column_off.ensures ∙ ap₂ column_off (c.level_word-w.ensures ∙ ap (level_word short start.args.level) c.from.ensures) (in_place_at _ _ _ 63 j [] turn.loop-j.invariant) ∙ sym (row_off_at short start.args.level row work j long_row long_work))
