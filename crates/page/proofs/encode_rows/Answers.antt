use mathlib.Core.Path.{refl, ap, ◌∙◌}
use Rattle.concatenated.proofs.Filling.{front_none, front_more, front_all}
use mathlib.Core.List.{[]}
use lib.ListN.{length}
use Rattle.concatenated.proofs.Digits.{repacked_length}
use Rattle.concatenated.specs.Format.{data_before}
use Rattle.concatenated.proofs.DataGroups.{row_data_within_200}
use Rattle.page.proofs.RowEncoding.{four_rows, part_and_roots, part_is_of_symbols, row_written, next_place}
use native.Mathlib.Omega.{arith}
use Rattle.page.proofs.encode_rows.Goals as goal

pub loop-level-init : goal.loop-level-init
unfolding data_before
loop-level-init c = (front_none _ _ 4 (four_rows _) (omega arith), refl)

pub overflow_add-end : goal.overflow_add-end
overflow_add-end c = record { fits = omega (arith, row_data_within_200 c.loop-level.level c.loop-level-test.true, c.loop-level.invariant.1, c.roots-t.ensures.0) }

pub slice_bounds-encode-end : goal.slice_bounds-encode-end
slice_bounds-encode-end c = omega (arith, row_data_within_200 c.loop-level.level c.loop-level-test.true, c.loop-level.invariant.1, c.roots-t.ensures.0, ap length c.symbols_of.ensures ∙ repacked_length 256 3 64 4 50 c.args.«data».now)

pub encode-requires : goal.encode-requires
encode-requires c =
    let bytes = c.args.«data».now in
    let h = c.loop-level-test.true in
    let t = c.roots-t.ensures.0 in
    let level = c.loop-level.level in
    (record { level = level; level_exists = h; is_its = t }, part_and_roots bytes level h _ c.symbols_of.ensures _ _ c.loop-level.invariant.1 t, part_is_of_symbols bytes level h _ c.symbols_of.ensures _ _ c.loop-level.invariant.1 t, refl)

pub loop-level-preserved : goal.loop-level-preserved
loop-level-preserved c =
    let bytes = c.args.«data».now in
    let h = c.loop-level-test.true in
    let t = c.roots-t.ensures.0 in
    let level = c.loop-level.level in
    let next = next_place bytes level h _ c.symbols_of.ensures _ _ c.loop-level.invariant.1 t in
    (front_more _ _ 4 _ _ [] c.loop-level.invariant.0 h (row_written bytes level h _ c.symbols_of.ensures _ _ c.loop-level.invariant.1 t _ c.encode.ensures), omega (arith, next))

pub returns : goal.returns
returns c = front_all _ _ 4 _ c.loop-level.invariant.0 c.loop-level-test.false
