use mathlib.Core.Path.{◌≡◌, sym, ap, ◌∙◌}
use Prim.Native.Nat.{◌<◌}
use mathlib.Core.Bool.{Bool, false}
use mathlib.Core.List.{map}
use lib.ListN.{length, length-map, get_or}
use lib.Seq.{take_all}
use Rattle.concatenated.specs.Decode.{is_changed, changed}
use Rattle.concatenated.specs.Flags.{flag, is_one}
use Rattle.concatenated.specs.Marks.{mark_of}
use Rattle.column.proofs.Tabulated.{map_at}
use Rattle.concatenated.proofs.Entries.{changed_length, changed_at}
use Rattle.concatenated.proofs.Marks.{mark_none, mark_more}
use native.Mathlib.Omega.{arith}
use borrow.Author.Rules.{rules}
use Rattle.softpage.proofs.Flags.{byte_of_flag}
use Rattle.softpage.proofs.sets.changed_mark.Goals as goal

pub loop-j-init : goal.loop-j-init
loop-j-init c = mark_none (changed c.args.symbols.now (map is_one c.args.erased.now) c.args.row.now)

pub loop-j-preserved : goal.loop-j-preserved
loop-j-preserved c =
    let turn = c in
    let start = turn in
    let h = c.loop-j-test.true in
    let symbols = start.args.symbols.now in
    let erased = start.args.erased.now in
    let row = start.args.row.now in
    let j = turn.loop-j.j in
    let in_63 : length symbols ≡ 63 = search rules in
    let erased_63 : length erased ≡ 63 = search rules in
    let row_63 : length row ≡ 63 = search rules in
    let long_erased : length (map is_one erased) ≡ length symbols = length-map erased is_one ∙ erased_63 ∙ sym in_63 in
    let long_row : length row ≡ length symbols = row_63 ∙ sym in_63 in
    let in_symbols : j < length symbols = omega (arith, in_63, h) in
    let in_erased : j < length erased = omega (arith, erased_63, h) in
    let in_changed : j < length (changed symbols (map is_one erased) row) = omega (arith, changed_length symbols (map is_one erased) row long_erased long_row, in_symbols) in
    mark_more (changed symbols (map is_one erased) row) j _ _ in_changed (omega (arith, h)) turn.loop-j.invariant
    (c.from.ensures ∙ byte_of_flag _ ∙ ap flag c.altered.ensures ∙ ap (λ (m : Bool). flag (is_changed m (get_or symbols j 0) (get_or row j 0))) (sym (map_at is_one erased j 0 false in_erased))
    ∙ ap flag (sym (changed_at symbols (map is_one erased) row j long_erased long_row in_symbols)))

pub returns : goal.returns
returns c =
    let start = c in
    let symbols = start.args.symbols.now in
    let erased = start.args.erased.now in
    let row = start.args.row.now in
    let in_63 : length symbols ≡ 63 = search rules in
    let erased_63 : length erased ≡ 63 = search rules in
    let row_63 : length row ≡ 63 = search rules in
    let long_erased : length (map is_one erased) ≡ length symbols = length-map erased is_one ∙ erased_63 ∙ sym in_63 in
    let long = changed_length symbols (map is_one erased) row long_erased (row_63 ∙ sym in_63) in
    c.loop-j.invariant ∙ ap mark_of (take_all c.loop-j.j (changed symbols (map is_one erased) row) (omega (arith, long, in_63, c.loop-j-test.false)))
