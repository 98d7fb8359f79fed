-- `stack::Stack::pop` meets its contract: the root comes out, and the path at the last place sinks. Assumes nothing.
use Prim.Native.Nat.{◌+◌, ◌-◌}
use mathlib.Core.Path.{refl, sym, ap, ◌∙◌}
use native.Mathlib.Omega.{arith}
use Rattle.heap.specs.Heap.{weigh}
use Rattle.stack.specs.Places.{row_keys}
use Rattle.stack.proofs.Outs.{out_last, out_moved}
use Rattle.stack.proofs.Stack.pop.Goals as goal

pub returns-then-self-gt0 : goal.returns-then-self-gt0
returns-then-self-gt0 c =
    let keys = row_keys c.self.inside.row in
    let last = c.self.inside.paths - 1 in
    rw (← c.self.view_is, c.sink.ensures.paths)
    ((omega arith, refl, out_moved keys _ _ _ (omega arith) c.self.invariant.heap (sym c.get-root.ensures) c.sink.ensures.heap (λ h. c.sink.ensures.by_index h ∙ ap (λ k. weigh h keys last + h k) c.get-last.ensures)))

pub returns-else-self-gt0 : goal.returns-else-self-gt0
returns-else-self-gt0 c =
    rw (← c.self.view_is) ((omega arith, refl, out_last _ _ _ (omega arith) (omega arith) (sym c.get-root.ensures)))
