use mathlib.Core.Path.{◌≡◌, refl}
use Prim.Native.Nat.{ℕ}
use lib.ListN.{get_or}
use Rattle.reedsolomon.specs.Sums.{sum}
use Rattle.syndromes.specs.Packed.{multiple_in}
use Rattle.syndromes.proofs.Multiples.{one_digit_more}
use native.Mathlib.Omega.{arith}
use Rattle.syndromes.proofs.encoder.multiple.Goals as goal

pub loop-k-init : goal.loop-k-init
unfolding sum
loop-k-init c = (refl)

pub loop-k-preserved : goal.loop-k-preserved
loop-k-preserved c =
    let s = c.args in
    let l = c.loop-k in
    (one_digit_more (λ (j : ℕ). get_or s.ms.now j 0) l.k s.f _ _ l.invariant c.pick-r.ensures)

pub returns : goal.returns
unfolding multiple_in
returns c = let e : c.loop-k.k ≡ 6 = omega arith in rw e at c.loop-k.invariant
