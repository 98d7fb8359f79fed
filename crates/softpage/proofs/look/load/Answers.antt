use mathlib.Core.Path.{sym, ap, ◌∙◌}
use Rattle.concatenated.proofs.Filling.{front_none, front_more}
use mathlib.Core.List.{[]}
use lib.ListN.{length}
use Rattle.concatenated.specs.Format.{short_page}
use Rattle.concatenated.proofs.SoftPages.{as_many_columns, column_at, part_length}
use native.Mathlib.Omega.{arith}
use borrow.Author.Rules.{rules}
use Rattle.softpage.proofs.look.load.Goals as goal

pub loop-j-init : goal.loop-j-init
loop-j-init c = front_none _ _ 63 (as_many_columns short_page _) (search rules)

pub copy_from_slice-requires : goal.copy_from_slice-requires
copy_from_slice-requires c = omega (arith, ap length c.column_of.ensures.result_value ∙ part_length short_page _ c.requires _ c.loop-j-test.true)

pub loop-j-preserved : goal.loop-j-preserved
loop-j-preserved c =
    let found = c in
    let start = found in
    let inside = found.loop-j-test.true in
    front_more _ _ 63 _ _ [] found.loop-j.invariant inside
    (c.copy_from_slice.ensures.after ∙ found.column_of.ensures.result_value ∙ sym (column_at short_page _ _ inside))
