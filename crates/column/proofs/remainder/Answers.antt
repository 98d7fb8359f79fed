use Rattle.std.proofs.Common.{arith, refl}
use Rattle.column.proofs.Division.{highest_digit, divide_turn, divide_end}
use Rattle.column.proofs.remainder.Goals as goal

pub loop-i-init : goal.loop-i-init
loop-i-init c = (c.requires.w_bound, refl)

pub pick-r-requires : goal.pick-r-requires
pick-r-requires c = highest_digit c.loop-i.r c.args.d c.loop-i.i (omega arith) c.loop-i.invariant.0

pub loop-i-preserved : goal.loop-i-preserved
loop-i-preserved c =
    let inv = c.loop-i.invariant in
    divide_turn c.args.d c.args.g c.requires.degree c.args.w c.loop-i.r c.pick-r.result c.loop-i.i (omega arith) (omega arith) inv.0 inv.1 c.pick-r.ensures

pub returns : goal.returns
returns c =
    let inv = c.loop-i.invariant in
    divide_end c.args.d c.args.g c.requires.degree c.args.w c.loop-i.r c.loop-i.i (omega arith) inv.0 inv.1
