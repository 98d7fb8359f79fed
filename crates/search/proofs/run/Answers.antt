use Prim.Native.Nat.{◌+◌}
use mathlib.Core.Logic.{inl, inr}
use mathlib.Core.Path.{refl, ap}
use mir.Syntax.{w16}
use mir.Facts.{to_z-of_z}
use native.Mathlib.Omega.{arith}
use borrow.Author.Rules.{rules}
use Rattle.search.proofs.Continues.{going_start, going_next, answered, ended, standing_next, reached_by}
use Rattle.search.proofs.run.Goals as goal

pub loop-init : goal.loop-init
loop-init c =
    let t = c.args.trellis.now in
    (refl, c.requires.standing, λ xs h. going_start t.n t.values.now t.col.now t.left.now t.right.now c.args.limit _ _ _ _ _ xs h)

pub returns-in_default-clause-reached : goal.returns-in_default-clause-reached
returns-in_default-clause-reached c vs tb xs h =
    let t = c.args.trellis.now in
    reached_by t.n t.col.now t.left.now t.right.now t.values.now vs c.requires.given tb c.args.limit _ _ _ _ xs _ _ _ _
    (rw (to_z-of_z {w = w16} {z = c.loop.state.low} (record { sfits = search rules }))
    (record { way = inr (inr (ended t.n t.values.now t.col.now t.left.now t.right.now c.args.limit _ _ _ _ _ xs _ _ _ _ _ (omega (arith, c.loop.invariant.0, c.loop-test.true)) c.in_default.ensures (c.loop.invariant.2 xs h))) }))

pub returns-then-last-trellis-clause-reached : goal.returns-then-last-trellis-clause-reached
returns-then-last-trellis-clause-reached c vs tb xs h =
    let t = c.args.trellis.now in
    let s = c.next-state.ensures in
    rw (s.count, s.last, s.low)
    (reached_by t.n t.col.now t.left.now t.right.now t.values.now vs c.requires.given tb c.args.limit _ _ _ _ xs _ _ _ _
    (record { way = inr (inl (answered t.n t.values.now t.col.now t.left.now t.right.now c.args.limit _ _ _ _ _ xs _ _ _ _ c.in-Some.last _ (omega (arith, c.loop.invariant.0, c.loop-test.true)) c.in-Some.ensures (c.loop.invariant.2 xs h) c.if-last-trellis.true)) }))

pub loop-preserved : goal.loop-preserved
loop-preserved c =
    let t = c.args.trellis.now in
    let s = c.next-state.ensures in
    rw (s.count, s.last, s.low) ((
      ap (λ n. n + 1) c.loop.invariant.0,
      standing_next t.n t.values.now t.col.now t.left.now t.right.now c.args.limit _ _ _ _ _ _ c.loop.invariant.1 c.in-Some.last c.in-Some.ensures,
      λ xs h. going_next t.n t.values.now t.col.now t.left.now t.right.now c.args.limit _ _ _ _ _ xs _ _ _ _ c.in-Some.last _ (omega (arith, c.loop.invariant.0, c.loop-test.true)) c.in-Some.ensures (c.loop.invariant.2 xs h) c.if-last-trellis.false,
    ))

pub returns-clause-reached : goal.returns-clause-reached
returns-clause-reached c vs tb xs h =
    let t = c.args.trellis.now in
    reached_by t.n t.col.now t.left.now t.right.now t.values.now vs c.requires.given tb c.args.limit _ _ _ _ xs _ _ _ _
    (record { way = inl ((omega (arith, c.loop.invariant.0, c.loop-test.false), c.loop.invariant.2 xs h)) })
