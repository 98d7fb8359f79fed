use mathlib.Core.Path.{◌≡◌, sym, ap, ◌∙◌}
use Prim.Native.Nat.{◌<◌}
use mathlib.Core.Bool.{false}
use mathlib.Core.List.{map}
use lib.ListN.{length, length-map}
use Rattle.concatenated.specs.Flags.{flag, is_one}
use Rattle.column.proofs.Tabulated.{map_at}
use Rattle.concatenated.proofs.Marks.{mark_none, mark_more}
use native.Mathlib.Omega.{arith}
use borrow.Author.Rules.{rules}
use Rattle.softpage.proofs.Flags.{byte_of_flag}
use Rattle.softpage.proofs.sets.mark_of.Goals as goal

pub loop-j-init : goal.loop-j-init
loop-j-init c = mark_none (map is_one c.args.flags.now)

pub loop-j-preserved : goal.loop-j-preserved
loop-j-preserved c =
    let turn = c in
    let flags = turn.args.flags.now in
    let j = turn.loop-j.j in
    let long : length flags ≡ 63 = search rules in
    let inside : j < length flags = omega (arith, c.loop-j-test.true) in
    mark_more (map is_one flags) j _ _ (omega (arith, length-map flags is_one, inside)) (omega (arith, c.loop-j-test.true)) turn.loop-j.invariant (c.from.ensures ∙ byte_of_flag _ ∙ ap flag (sym (map_at is_one flags j 0 false inside)))
