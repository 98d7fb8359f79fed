use mathlib.Core.Path.{◌≡◌, ap, ◌∙◌}
use Prim.Native.Nat.{ℕ, suc, ◌-◌, ◌+◌}
use Rattle.field.proofs.Short.{field64}
use Rattle.reedsolomon.specs.Sums.{reversed}
use Rattle.reedsolomon.specs.Row.{symbol}
use Rattle.reedsolomon.specs.Steps.{coefficient, row_value}
use Rattle.reedsolomon.proofs.Lanes.{value_at, values_begin, values_go_on}
use native.Mathlib.Omega.{arith}
use borrow.Author.Rules.{rules}
use Rattle.locator.proofs.root.values.Goals as goal

pub loop-k-init : goal.loop-k-init
loop-k-init c = (search rules, values_begin 6 67 field64 16 (reversed (suc c.args.d) (coefficient 6 67 c.args.row.now)) c.args.xs)

pub loop-k-preserved : goal.loop-k-preserved
loop-k-preserved c =
    let a = c.args in
    let l = c.loop-k in
    let r = c.raised in
    let e : 16 + (a.d - l.k) ≡ 16 + (suc a.d - suc l.k) = omega arith in (
      r.auto.v ∙ l.invariant.0,
      values_go_on 6 67 field64 (reversed (suc a.d) (coefficient 6 67 a.row.now)) a.xs l.v r.new.v l.k _ (ap (symbol a.row.now) e) l.invariant.1 r.ensures,
    )

pub returns : goal.returns
unfolding row_value
returns c =
    let e : c.loop-k.k ≡ suc c.args.d = omega arith in
    λ i l. c.loop-k.invariant.1 i l
    ∙ ap (λ (n : ℕ). value_at 6 67 field64 n (reversed (suc c.args.d) (coefficient 6 67 c.args.row.now)) c.args.xs i) e
