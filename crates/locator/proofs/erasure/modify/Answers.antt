use mathlib.Core.Path.{ap, ap₂, ◌∙◌}
use Prim.Native.Nat.{◌+◌}
use native.Mathlib.Nat.{le_refl}
use native.Mathlib.Numerals.{add-one}
use lib.Bits.{bit_xor}
use lib.ListN.{length-set}
use Rattle.poly.specs.Polynomial.{add}
use Rattle.field.specs.Element.{mul}
use Rattle.reedsolomon.specs.Row.{symbol}
use Rattle.reedsolomon.proofs.Fill.{one_more_written}
use native.Mathlib.Omega.{arith}
use Rattle.locator.proofs.erasure.modify.Goals as goal

pub loop-i-preserved : goal.loop-i-preserved
unfolding add
loop-i-preserved c =
    let l = c.loop-i in
    let f = l.invariant.1 in
    let a = c.args in (
      simp length-set (omega arith),
      one_more_written _ _ _ _ _ f (omega arith) (ap₂ bit_xor (f.kept (l.i + 1) (omega arith) ∙ ap (symbol a.s.now) (add-one l.i)) (c.product.ensures ∙ ap (mul 6 67 a.y) (f.kept l.i (le_refl l.i)))),
    )
