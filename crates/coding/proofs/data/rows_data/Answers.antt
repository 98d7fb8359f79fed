use mathlib.Core.Path.{◌≡◌, refl, sym, ap, ◌∙◌}
use Prim.Native.Nat.{ℕ, ◌-◌}
use lib.Seq.{take_all}
use Rattle.concatenated.specs.Format.{short_page, data_before}
use Rattle.concatenated.specs.Written.{rows_data}
use Rattle.concatenated.proofs.Short.{short_page_numbers}
use Rattle.concatenated.proofs.DataGroups.{no_row_put, one_more_row_put, row_cut_out, cut_out_row_is_a_word, row_data_within_200}
use native.Mathlib.Omega.{arith}
use Rattle.coding.proofs.Put.{put_is_pasted}
use Rattle.coding.proofs.data.rows_data.Goals as goal

pub loop-level-init : goal.loop-level-init
loop-level-init c = no_row_put _ _ c.requires.1

pub put-requires : goal.put-requires
put-requires c =
    let turn = c in
    let start = turn in
    let h = c.loop-level-test.true in
    let t = c.roots-n.ensures.0 in
    let row = cut_out_row_is_a_word start.args.symbols.now start.requires.0 turn.loop-level.level _ _ h refl refl in
    (omega (arith, row.0), omega (arith, row_data_within_200 turn.loop-level.level h, turn.loop-level.invariant.long_out, turn.loop-level.invariant.place, t))

pub overflow_add-at : goal.overflow_add-at
overflow_add-at c =
    let turn = c in
    let h = c.loop-level-test.true in
    record { fits = omega (arith, row_data_within_200 turn.loop-level.level h, turn.loop-level.invariant.place, c.roots-n.ensures.0) }

pub loop-level-preserved : goal.loop-level-preserved
loop-level-preserved c =
    let turn = c in
    let start = turn in
    let symbols = start.args.symbols.now in
    let level = turn.loop-level.level in
    let h = c.loop-level-test.true in
    let t = c.roots-n.ensures.0 in
    let row = cut_out_row_is_a_word symbols start.requires.0 level _ _ h refl refl in
    one_more_row_put _ _ _ _ _ level _ turn.loop-level.invariant h (row_cut_out symbols level _ _ h refl refl) (cut_out_row_is_a_word symbols start.requires.0 level _ _ h refl refl).0 (ap (λ (x : ℕ). 63 - x) t)
    (put_is_pasted _ _ _ _ _ (omega (arith, row.0)) (omega (arith, row_data_within_200 level h, turn.loop-level.invariant.long_out, turn.loop-level.invariant.place, t)) c.put.auto.b c.put.ensures)

pub returns : goal.returns
returns c =
    let f = c.loop-level.invariant in
    let last : c.loop-level.level ≡ 4 = omega (arith, f.within, c.loop-level-test.false) in
    let place : c.loop-level.at ≡ 200 = f.place ∙ ap (data_before short_page) last ∙ short_page_numbers.5 in
    sym (take_all c.loop-level.at c.loop-level.out (omega (arith, f.long_out, place))) ∙ f.so_far ∙ ap (rows_data short_page _) last
