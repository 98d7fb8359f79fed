use Prim.Native.Nat.{◌+◌}
use mathlib.Core.Path.{refl, sym, ap, ◌∙◌}
use mathlib.Core.Logic.{inl, inr}
use native.Mathlib.Omega.{arith}
use Rattle.heap.proofs.Ways.{rising_start}
use Rattle.stack.specs.Places.{row_keys, Upto, Stands, Stacked}
use Rattle.stack.proofs.KeyOrder.{upto_trans}
use Rattle.stack.proofs.KeyWays.{risen_step, risen_stands, risen_weight}
use Rattle.stack.proofs.Stack.push.Goals as goal
use Rattle.stack.proofs.Stack.push.Goals.{After-put-2, else-loop-i-test, then-loop-i-test+then-stands_before}

pub loop-i-init : goal.loop-i-init
loop-i-init c = (refl, rising_start Upto upto_trans _ _ _ c.self.invariant.heap)

pub loop-i-preserved : goal.loop-i-preserved
loop-i-preserved c =
    let v = c.loop-i.invariant in
    (v.0, risen_step _ _ _ _ _ v.1 _ _ c.loop-i-test.true c.get-above.ensures (sym c.stands_before.ensures ∙ c.if-stands_before.false) c.put.ensures)

stood : (c : After-put-2) → Stands (row_keys c.put-2.new.self) (c.self.inside.paths + 1)
stood c =
    risen_stands _ _ _ _ _ c.loop-i.invariant.1 _ c.put-2.ensures (omega (arith, c.requires.room, ap (λ (s : Stacked). s.paths) c.self.view_is)) c.requires.small c.self.invariant.small
    (elim c.loop-i-test.branch [
      | else-loop-i-test w ↦ inl (omega arith)
      | then-loop-i-test+then-stands_before w ↦ inr ((_, w.get-above.ensures, sym w.stands_before.ensures ∙ w.if-stands_before.true))
    ])

pub invariant_of-self : goal.invariant_of-self
invariant_of-self c = rw c.loop-i.invariant.0 (stood (goal.at.invariant_of-self c).After-put-2)

pub returns : goal.returns
returns c =
    rw (← c.self.view_is, c.loop-i.invariant.0)
    (record { paths = refl; heap = (stood (goal.at.returns c).After-put-2).heap; by_index = risen_weight _ _ _ _ _ c.loop-i.invariant.1 _ c.put-2.ensures })
