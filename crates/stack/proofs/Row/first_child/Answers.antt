-- `stack::Row::first_child` meets its contract. By how many of the four places have a path. Assumes nothing.
use Prim.Native.Nat.{◌+◌}
use mathlib.Core.Path.{◌≡◌, refl}
use mathlib.Core.Logic.{inl, inr}
use Rattle.stack.proofs.Ranks.{span_code, span_lead}
use native.Mathlib.Omega.{arith}
use Rattle.stack.proofs.Row.first_child.Goals as goal

pub returns-then-paths-c-lt2 : goal.returns-then-paths-c-lt2
returns-then-paths-c-lt2 g c =
    span_lead _ c.args.paths c.args.c (c.args.c + 1) _ _ c.spot-first.ensures (omega (arith, c.requires.paths_bound)) (omega arith) (inl (omega (arith, c.if-paths-c-lt2.true)))

pub returns-then-paths-c-lt3 : goal.returns-then-paths-c-lt3
returns-then-paths-c-lt3 g c =
    let two = span_code _ _ _ _ _ _ _ _ _ _ _ c.spot-first.ensures c.spot.ensures refl c.larger-first.ensures.0 c.larger-first.ensures.1 in
    span_lead _ c.args.paths c.args.c (c.args.c + 1 + 1) _ _ two (omega (arith, c.if-paths-c-lt2.false)) (omega arith) (inl (omega (arith, c.if-paths-c-lt3.true)))

pub returns-then-paths-c-lt4 : goal.returns-then-paths-c-lt4
returns-then-paths-c-lt4 g c =
    let two = span_code _ _ _ _ _ _ _ _ _ _ _ c.spot-first.ensures c.spot.ensures refl c.larger-first.ensures.0 c.larger-first.ensures.1 in
    let e : c.args.c + 1 + 1 ≡ c.args.c + 2 = omega arith in
    let three = span_code _ _ _ _ _ _ _ _ _ _ _ two c.spot-then-paths-c-lt4.ensures e c.larger.ensures.0 c.larger.ensures.1 in
    span_lead _ c.args.paths c.args.c (c.args.c + 2 + 1) _ _ three (omega (arith, c.if-paths-c-lt3.false)) (omega arith) (inl (omega (arith, c.requires.paths_bound, c.if-paths-c-lt4.true)))

pub returns : goal.returns
returns g c =
    let two = span_code _ _ _ _ _ _ _ _ _ _ _ c.spot-first.ensures c.spot-2.ensures refl c.larger-first-2.ensures.0 c.larger-first-2.ensures.1 in
    let e3 : c.args.c + 2 + 1 ≡ c.args.c + 3 = omega arith in
    let last = span_code _ _ _ _ _ _ _ _ _ _ _ c.spot-3.ensures c.spot-4.ensures e3 c.larger-second.ensures.0 c.larger-second.ensures.1 in
    let e : c.args.c + 1 + 1 ≡ c.args.c + 2 = omega arith in
    let four = span_code _ _ _ _ _ _ _ _ _ _ _ two last e c.larger-2.ensures.0 c.larger-2.ensures.1 in
    span_lead _ c.args.paths c.args.c (c.args.c + 3 + 1) _ _ four (omega (arith, c.if-paths-c-lt4.false)) (omega arith) (inr (omega arith))
