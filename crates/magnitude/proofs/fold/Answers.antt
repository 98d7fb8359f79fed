use mathlib.Core.Path.{ap, ◌∙◌}
use Prim.Native.Nat.{ℕ}
use native.Mathlib.Nat.{le_refl}
use lib.Bits.{bit_xor}
use lib.ListN.{length-set}
use Rattle.poly.specs.Polynomial.{add}
use Rattle.field.specs.Element.{mul}
use Rattle.reedsolomon.specs.Row.{symbol}
use Rattle.reedsolomon.proofs.Fill.{one_more_written}
use native.Mathlib.Omega.{arith}
use Rattle.magnitude.proofs.fold.Goals as goal

pub loop-i-preserved : goal.loop-i-preserved
unfolding add
loop-i-preserved c =
    let l = c.loop-i in
    let f = l.invariant.1 in
    let a = c.args in (
      simp length-set (omega arith),
      one_more_written _ _ _ _ _ f (omega arith) (ap (λ (x : ℕ). bit_xor x (symbol a.q.now l.i)) (c.product.ensures ∙ ap (mul 6 67 (symbol a.xs.now l.i)) (f.kept l.i (le_refl l.i)))),
    )
