use Prim.Native.Nat.{◌+◌}
use lib.IntN.{ℤ}
use mathlib.Core.Path.{sym, ap, ap₂, ◌∙◌}
use native.Mathlib.Omega.{arith}
use borrow.Author.Rules.{rules}
use Rattle.std.specs.Prelude.{None, Some}
use Rattle.paths.specs.Bounded.{Bounded}
use Rattle.trellis.specs.Keys.{Key}
use Rattle.stack.specs.Places.{path_key}
use Rattle.chip.proofs.Placed.{standing_of}
use Rattle.chip.proofs.Growth.{crowded_is}
use Rattle.chip.proofs.Loop.{ended_with, lower_of, pushed_before, pushed_now, going_next, found_is, emptied_is, spent_is, contract}
use Rattle.chip.proofs.search.Goals as goal

pub returns-in_default : goal.returns-in_default
returns-in_default c vs tb =
    let t = c.args.trellis.now in
    contract t.n t.values.now t.col.now t.left.now t.right.now c.args.limit vs c.requires.given tb _
    (ap (λ (s : Bounded Key). ended_with None c.loop-count.count s.any_pushed_out) c.stack.view_is ∙ emptied_is t.n t.values.now t.col.now t.left.now t.right.now c.args.limit _ _ _ _ _ c.loop-count-test.true c.loop-count.invariant c.in_default.ensures)

pub returns-then-path-trellis : goal.returns-then-path-trellis
returns-then-path-trellis c vs tb =
    let t = c.args.trellis.now in
    let low = lower_of _ c.in-Some.path.sum _ (record { sfits = search rules }) (record { sfits = c.min-low.type_inv }) c.min-low.ensures.value in
    contract t.n t.values.now t.col.now t.left.now t.right.now c.args.limit vs c.requires.given tb _
    (ap₂ (λ (z : ℤ) (s : Bounded Key). ended_with (Some (record { word = c.in-Some.path.bits; count = c.loop-count.count + 1; low = z })) (c.loop-count.count + 1) s.any_pushed_out) low c.stack.view_is
    ∙ found_is t.n t.values.now t.col.now t.left.now t.right.now c.args.limit _ _ _ _ _ c.loop-count-test.true c.loop-count.invariant _ c.in-Some.ensures c.if-path-trellis.true)

pub loop-count-preserved : goal.loop-count-preserved
loop-count-preserved c =
    let t = c.args.trellis.now in
    let low = lower_of _ c.in-Some.path.sum _ (record { sfits = search rules }) (record { sfits = c.min-low.type_inv }) c.min-low.ensures.value in
    rw low (going_next t.n t.values.now t.col.now t.left.now t.right.now c.args.limit _ _ _ _ _ c.loop-count-test.true c.loop-count.invariant _ c.in-Some.ensures c.if-path-trellis.false)

pub returns-then-stack : goal.returns-then-stack
returns-then-stack c vs tb =
    let t = c.args.trellis.now in
    contract t.n t.values.now t.col.now t.left.now t.right.now c.args.limit vs c.requires.given tb _
    (spent_is t.n t.values.now t.col.now t.left.now t.right.now c.args.limit _ _ _ _ _ (omega (arith, c.loop-count-test.false, c.loop-count.auto.count-end)) c.loop-count.invariant
    (pushed_before _ _ _ (ap (λ (s : Bounded Key). s.any_pushed_out) c.stack-2.view_is) c.if-stack.true))

pub returns-else-stack : goal.returns-else-stack
returns-else-stack c vs tb =
    let t = c.args.trellis.now in
    let v = c.loop-count.invariant in
    contract t.n t.values.now t.col.now t.left.now t.right.now c.args.limit vs c.requires.given tb _
    (spent_is t.n t.values.now t.col.now t.left.now t.right.now c.args.limit _ _ _ _ _ (omega (arith, c.loop-count-test.false, c.loop-count.auto.count-end)) v
    (pushed_now _ _ _ _ (ap (λ (s : Bounded Key). s.any_pushed_out) c.stack-2.view_is) c.if-stack.false
    (c.crowds.ensures
    ∙ sym (crowded_is t.n t.col.now t.left.now t.right.now t.values.now c.requires.given c.requires.leading (path_key c.loop-count.last) v.part v.good c.loop-count.stack.any_pushed_out c.loop-count.stack.stack
    (standing_of _ _ _ _ c.stack-2.view_is c.stack-2.invariant.0 c.stack-2.invariant.1) v.held))))
