use mathlib.Core.Path.{◌≡◌, refl, ap, ◌∙◌}
use Prim.Native.Nat.{suc, ◌-◌, ◌+◌}
use Rattle.field.proofs.Short.{field64}
use Rattle.reedsolomon.specs.Row.{symbol}
use Rattle.reedsolomon.proofs.Lanes.{values_begin, values_go_on, denominators_begin, denominators_go_on, numerators_begin, numerators_go_on, magnitudes_end}
use native.Mathlib.Omega.{arith}
use borrow.Author.Rules.{rules}
use Rattle.magnitude.proofs.magnitudes.Invariants.{from}
use Rattle.magnitude.proofs.magnitudes.Goals as goal

pub loop-j-init : goal.loop-j-init
loop-j-init c =
    let x = c.args in (
      search rules,
      search rules,
      search rules,
      values_begin 6 67 field64 16 (from x.g.now x.k) x.xs,
      denominators_begin 6 67 field64 16 (from x.g.now x.k) x.xs,
      numerators_begin 6 67 field64 16 x.k (symbol x.s.now) (from x.g.now x.k) x.xs,
    )

pub loop-j-preserved : goal.loop-j-preserved
loop-j-preserved c =
    let x = c.args in
    let l = c.loop-j in
    let r = c.raised in
    let f = c.fold in
    let t = c.gather in
    let p = from x.g.now x.k in
    let q = values_go_on 6 67 field64 p x.xs l.q r.new.v l.j _ refl l.invariant.3 r.ensures in
    let e : x.k - (l.j + 1) ≡ x.k - suc l.j = omega arith in (
      r.auto.v ∙ l.invariant.0,
      f.auto.d ∙ l.invariant.1,
      t.auto.a ∙ l.invariant.2,
      q,
      denominators_go_on 6 67 field64 p x.xs r.new.v l.d f.new.d l.j q l.invariant.4 f.ensures,
      numerators_go_on 6 67 field64 x.k (symbol x.s.now) p x.xs r.new.v l.a t.new.a l.j _ (ap (symbol x.s.now) e) q l.invariant.5 t.ensures,
    )

pub returns : goal.returns
returns c =
    let x = c.args in
    let l = c.loop-j in
    let e : l.j ≡ x.k = omega arith in
    magnitudes_end 6 67 field64 x.k (symbol x.s.now) (from x.g.now x.k) x.xs l.a l.d c.products-e.result c.inverses-f.result c.products.result
    (rw e at l.invariant.5) (rw e at l.invariant.4) c.products-e.ensures c.inverses-f.ensures c.products.ensures
