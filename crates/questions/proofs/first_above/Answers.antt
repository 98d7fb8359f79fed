use Rattle.std.proofs.Common.{arith}
use mathlib.Core.Path.{◌∙◌}
use Rattle.questions.proofs.FirstAbove.{first_more, first_here, first_none}
use Rattle.questions.proofs.first_above.Goals as goal

pub loop-i-preserved : goal.loop-i-preserved
loop-i-preserved c = c.loop-i.invariant ∙ first_more _ _ _ c.loop-i-test.true c.if-x-top.false

pub returns-then-x-top : goal.returns-then-x-top
returns-then-x-top c = omega (arith, c.loop-i.invariant, first_here c.args.s.now c.args.top c.loop-i.i c.loop-i-test.true c.if-x-top.true)

pub returns : goal.returns
returns c = omega (arith, c.loop-i.invariant, first_none c.args.s.now c.args.top c.loop-i.i (omega (arith, c.loop-i-test.false, c.loop-i.auto.i-end)))
