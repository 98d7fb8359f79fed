use Rattle.std.proofs.Common.{◌+◌, ◌-◌, ◌*◌, ◌≤◌, length, take, drop, ap, arith}
use mathlib.Core.Path.{◌∙◌}
use Rattle.search.proofs.ShortSearch.{column_searchable}
use Rattle.list_of_two.specs.Ways.{choice_of}
use Rattle.measured.specs.Folds.{folded, searched_number}
use Rattle.measured.proofs.Parts.{part_long, part_range, none_folded, one_more_folded}
use Rattle.measured.proofs.search_all.Goals as goal

pub loop-j-init : goal.loop-j-init
loop-j-init c s i h tables hard = none_folded _ _

pub search_by-found-requires-clause-searchable30 : goal.search_by-found-requires-clause-searchable30
search_by-found-requires-clause-searchable30 c =
    let soft = c.args.soft.now in
    let a = c.loop-j.j * 30 in
    let fits : a + 30 ≤ length soft = omega (arith, c.loop-j-test.true) in
    let some = c.requires.by_index_2 in
    let t = c.trellis.ensures in
    rw (t.1, t.2, t.3, t.4) (column_searchable some.0 some.1 some.2 (take (a + 30 - a) (drop a soft)) _ _ _ (part_long soft a fits) (part_range soft a fits c.requires.by_index) some.3)

pub loop-j-preserved : goal.loop-j-preserved
loop-j-preserved c s i h tables hard =
    let way = c.args.way in
    let t = c.trellis.ensures in
    let found = c.search_by-found.ensures s i h (rw (t.2, t.3, t.4) tables) (rw t.4 hard) in
    one_more_folded (searched_number (choice_of way) s i way.limit) c.args.soft.now c.loop-j.j _ _ (c.loop-j.invariant s i h tables hard) (c.folded-fold.ensures ∙ ap folded (rw t.1 at found))
