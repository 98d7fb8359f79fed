-- `stack::Stack::exchange` meets its contract: the path given comes out, or the root, in whose place it sinks. Assumes nothing.
use mathlib.Core.Path.{sym, ap, ◌∙◌, subst}
use lib.IntN.{pos}
use lib.ListN.{get_or}
use borrow.Author.Rules.{rules}
use Rattle.trellis.specs.Keys.{key_before}
use Rattle.heap.specs.Heap.{Heap}
use Rattle.stack.specs.Places.{path_key, places, Upto}
use Rattle.stack.proofs.Outs.{out_none, out_same, out_sunk, root_after}
use Rattle.stack.proofs.Sums.{lt_flag}
use Rattle.stack.proofs.Stack.exchange.Goals as goal
use Rattle.stack.proofs.Stack.exchange.Goals.{then-self-eq0-via-then-self-eq0, then-self-eq0-via-else-self-eq0+then-self-path}

pub returns-then-self-eq0-clause-out : goal.returns-then-self-eq0-clause-out
returns-then-self-eq0-clause-out c =
    rw (← c.self.view_is) (elim c.then-self-eq0.branch [
      | then-self-eq0-via-then-self-eq0 w ↦ out_none _ _ _ w.if-self-eq0.true c.self.invariant.heap
      | then-self-eq0-via-else-self-eq0+then-self-path w ↦ out_same _ _ (path_key c.args.path) c.self.invariant.heap
          (root_after _ _ _ _ _ _ (lt_flag (get_or c.self.inside.row.sums 0 (pos 0)) c.args.path.sum (record { sfits = search rules }) (record { sfits = search rules }) w.if-self-path.true))
    ])

pub returns-then-stands_before-clause-out : goal.returns-then-stands_before-clause-out
returns-then-stands_before-clause-out c =
    let root = c.get-root.ensures ∙ ap (λ s. places s 0) c.self.view_is in
    rw c.sink.ensures.paths
    (out_sunk (places c.args.self.now) _ _ (path_key c.args.path) _ (subst (λ s. Heap Upto (places s) s.paths) c.self.view_is c.self.invariant.heap) c.sink.ensures.heap c.sink.ensures.by_index
    (ap (λ k. key_before k (path_key c.args.path)) (sym root) ∙ sym c.stands_before.ensures ∙ c.if-stands_before.true) (sym root))

pub returns-clause-out : goal.returns-clause-out
returns-clause-out c =
    rw (← c.self.view_is)
    (out_same _ _ (path_key c.args.path) c.self.invariant.heap (ap (λ k. key_before k (path_key c.args.path)) (sym c.get-root.ensures) ∙ sym c.stands_before.ensures ∙ c.if-stands_before.false))
