use mathlib.Core.Path.{ap₂, ◌∙◌}
use Prim.Native.Nat.{◌+◌}
use native.Mathlib.Nat.{le_refl}
use lib.Bits.{bit_xor}
use lib.ListN.{length-set}
use Rattle.poly.specs.Polynomial.{add}
use Rattle.field.proofs.Short.{field64}
use Rattle.reedsolomon.specs.Steps.{Entries}
use Rattle.reedsolomon.proofs.Fill.{nothing_written, one_more_written}
use Rattle.reedsolomon.proofs.Lanes.{weight, weights_begin, weights_go_on, sum_of_weights}
use native.Mathlib.Omega.{arith}
use borrow.Author.Rules.{rules}
use Rattle.syndromes.proofs.syndrome.add_sums.Goals as goal

pub loop-i-init : goal.loop-i-init
loop-i-init c = (search rules, search rules, weights_begin 6 67 field64 16 c.args.w c.args.xs c.requires.1, nothing_written _ _)

pub loop-i-preserved : goal.loop-i-preserved
unfolding add
loop-i-preserved c =
    let a = c.args in
    let l = c.loop-i in
    let p = c.powered in
    let h : Entries 16 (weight 6 67 field64 a.w a.xs (l.i + 1)) p.new.c = weights_go_on 6 67 field64 16 a.w a.xs l.c p.new.c l.i l.invariant.2 p.ensures in (
      simp length-set (omega arith),
      p.auto.c ∙ l.invariant.1,
      h,
      one_more_written _ _ _ _ _ l.invariant.3 (omega arith)
          (ap₂ bit_xor (l.invariant.3.kept l.i (le_refl l.i)) (c.total.ensures ∙ sum_of_weights 6 67 field64 16 a.w a.xs p.new.c l.i h)),
    )
