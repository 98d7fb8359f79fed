use mathlib.Core.Path.{◌≡◌, refl, sym, ap, ◌∙◌}
use Prim.Native.Nat.{ℕ, suc, ◌-◌, ◌<◌}
use Rattle.concatenated.proofs.Filling.{front_none, front_more}
use lib.ListN.{length, get_or}
use Rattle.packing.specs.Packing.{digit}
use Rattle.concatenated.specs.Soft.{taken_off_by}
use Rattle.concatenated.proofs.TakingOff.{off_length}
use Rattle.concatenated.proofs.Entries.{off_at}
use native.Mathlib.Omega.{arith}
use borrow.Author.Rules.{rules}
use Rattle.softpage.proofs.rows.column_off.Goals as goal

pub loop-p-init : goal.loop-p-init
loop-p-init c =
    let full : length c.args.column ≡ 30 = search rules in
    front_none _ _ 30 (off_length _ _ ∙ full) refl

pub loop-p-preserved : goal.loop-p-preserved
loop-p-preserved c =
    let start = c in
    let p = c.loop-p.p in
    let column = start.args.column in
    let full : length column ≡ 30 = search rules in
    let long : p < length column = omega (arith, full, c.loop-p-test.true) in
    let place : length column - suc p ≡ 29 - p = omega (arith, full) in
    front_more _ _ 30 _ _ 0 c.loop-p.invariant c.loop-p-test.true
    (c.value_off.ensures ∙ ap (λ (k : ℕ). taken_off_by (digit 2 k start.args.w) (get_or column p 0)) (sym place) ∙ sym (off_at start.args.w column p long))
