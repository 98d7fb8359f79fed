use Rattle.std.proofs.Common.{◌≡◌, ℕ, suc, ◌-◌, ◌<◌, ap, sym, arith}
use mathlib.Core.Path.{◌∙◌}
use Rattle.column.specs.Shape.{short}
use Rattle.column.specs.Level.{taken_off}
use Rattle.column.proofs.Cascade.{shown_symbol, shown_lt, level_taken_off}
use Rattle.column.proofs.Short.{sound, level_room, nothing_taken_off}
use Rattle.column.proofs.reimage.Goals as goal

pub loop-i-init : goal.loop-i-init
loop-i-init c = (nothing_taken_off c.args.column, omega arith)

-- the level whose word comes next, and what was taken off before it
next : {i : ℕ} → 0 < i → suc (i - 1) ≡ i
next more = omega arith

pub overflow_shr-w : goal.overflow_shr-w
overflow_shr-w c = let room = level_room _ _ (omega arith) c.degree_of.ensures in omega arith

pub level_word-w-requires-clause-symbol_bound : goal.level_word-w-requires-clause-symbol_bound
level_word-w-requires-clause-symbol_bound c =
    let before = c.loop-i.invariant.0 ∙ ap (λ (t : ℕ). taken_off short (4 - t) c.args.column) (sym (next (omega arith))) in
    shown_lt short c.args.column c.loop-i.w (c.loop-i.i - 1) c.degree_of.result (omega arith) before c.degree_of.ensures sound c.requires.column_bound

pub loop-i-preserved : goal.loop-i-preserved
loop-i-preserved c =
    let before = c.loop-i.invariant.0 ∙ ap (λ (t : ℕ). taken_off short (4 - t) c.args.column) (sym (next (omega arith))) in
    let taken = level_taken_off short c.args.column c.loop-i.w (c.loop-i.i - 1) c.degree_of.result (omega arith) before c.degree_of.ensures c.level_word-w.result (omega arith)
    c.level_word-w.ensures in
    (taken ∙ ap (λ (t : ℕ). taken_off short (4 - t) c.args.column) (next (omega arith)), omega arith)

pub overflow_shr-result : goal.overflow_shr-result
overflow_shr-result c = let room = level_room _ _ c.requires.level_bound c.degree_of-2.ensures in omega arith

pub returns : goal.returns
returns c =
    let here : c.loop-i.i ≡ suc c.args.level = omega arith in
    shown_symbol short c.args.column c.loop-i.w c.args.level c.degree_of-2.result c.requires.level_bound
    (c.loop-i.invariant.0 ∙ ap (λ (t : ℕ). taken_off short (4 - t) c.args.column) here) c.degree_of-2.ensures
