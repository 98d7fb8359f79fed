use mathlib.Core.Path.{◌∙◌}
use Prim.Native.Nat.{◌+◌}
use Rattle.reedsolomon.specs.Row.{marked}
use Rattle.reedsolomon.proofs.Counting.{count_at_most}
use Rattle.reedsolomon.proofs.Marks.{none_counted, one_more_counted}
use native.Mathlib.Omega.{arith}
use Rattle.locator.proofs.Flags.{byte_of_flag}
use Rattle.locator.proofs.erasure.number.Goals as goal

pub loop-j-init : goal.loop-j-init
loop-j-init c = (none_counted _)

pub overflow_add-n : goal.overflow_add-n
overflow_add-n c =
    let ms = c.args.marks.now in
    let l = c.loop-j in
    omega (arith, one_more_counted ms l.j l.n c.from-n.result l.invariant (c.from-n.ensures ∙ byte_of_flag _), count_at_most (marked ms) (l.j + 1))

pub loop-j-preserved : goal.loop-j-preserved
loop-j-preserved c =
    let l = c.loop-j in
    (one_more_counted c.args.marks.now l.j l.n c.from-n.result l.invariant (c.from-n.ensures ∙ byte_of_flag _))
