use mathlib.Core.Path.{refl, ◌∙◌}
use lib.Dec.{lit<}
use Rattle.field.proofs.Short.{field64}
use Rattle.reedsolomon.proofs.ErasedColumns.{product_begins, product_goes_on}
use native.Mathlib.Omega.{arith}
use borrow.Author.Rules.{rules}
use Rattle.magnitude.proofs.polynomial.Goals as goal

pub loop-i-init : goal.loop-i-init
loop-i-init c = (search rules, product_begins 6 67 field64 c.args.xs.now 33 31 (lit< tt))

pub loop-i-preserved : goal.loop-i-preserved
loop-i-preserved c =
    let a = c.args in
    let l = c.loop-i in
    let s = c.modify in (
      s.auto.s ∙ l.invariant.0,
      product_goes_on 6 67 field64 a.xs.now 31 l.i _ l.g s.new.s (omega arith) refl l.invariant.1 s.ensures,
    )
