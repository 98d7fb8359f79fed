use Prim.Native.Nat.{ℕ}
use mathlib.Core.Bool.{not}
use mathlib.Core.Path.{ap}
use Rattle.held.specs.State.{Placed}
use Rattle.held.proofs.Testing.{refuted, shown, fails, one_more}
use native.Mathlib.Omega.{arith}
use Rattle.held.proofs.ready.all_placed.Goals as goal

pub loop-j-init : goal.loop-j-init
loop-j-init c = λ k h. absurd (omega arith)

pub returns-then-not-is_placed : goal.returns-then-not-is_placed
returns-then-not-is_placed c = refuted (λ all. fails c.is_placed.ensures (ap not c.if-not-is_placed.true) (all _ c.loop-j-test.true))

pub loop-j-preserved : goal.loop-j-preserved
loop-j-preserved c =
    one_more (λ (k : ℕ). Placed _ k) _ c.loop-j.invariant (c.is_placed.ensures.0 c.if-not-is_placed.false)

pub returns : goal.returns
returns c =
    shown (λ k h. c.loop-j.invariant k (omega (arith, h, c.loop-j-test.false)))
