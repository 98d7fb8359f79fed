use mathlib.Core.Path.{ap, ◌∙◌, subst}
use Prim.Native.Nat.{ℕ, ◌+◌, ◌≤◌, ◌<◌}
use native.Mathlib.Nat.{le_refl}
use native.Mathlib.Decide.{ℕ_discrete}
use Rattle.std.specs.Prelude.{unwrap_or}
use lib.ListN.{length-set, replicate}
use Rattle.field.proofs.Short.{field64}
use Rattle.reedsolomon.specs.Words.{nonzeros}
use Rattle.reedsolomon.specs.Row.{symbol}
use Rattle.reedsolomon.specs.Steps.{RowAt, StoppedAt}
use Rattle.reedsolomon.proofs.Rows.{slots_begin_at, none_used, row_is_kept_at, one_more_used, row_finishes}
use native.Mathlib.Omega.{arith}
use borrow.Author.Rules.{rules}
use Rattle.locator.proofs.locate.locator_polynomial.Goals as goal

pub loop-b-init : goal.loop-b-init
loop-b-init c =
    let a = c.args in
    (search rules, search rules, none_used 6 67 field64 a.n a.m.now 16, slots_begin_at 6 67 field64 a.n a.m.now (replicate 512 0) 16)

pub loop-b-preserved : goal.loop-b-preserved
loop-b-preserved c =
    let s = c in
    let n = s.args.n in
    let m = s.args.m.now in
    let l = c.loop-b in
    let t = c.attempt-stop in
    let p = c.put in
    let q = c.inverse.result in
    let i = c.in-Some.i in
    let h : i < n = t.ensures.1 i c.in-Some.is in
    let stopped : StoppedAt 6 67 n m l.qs t.result.row l.b i = rw c.in-Some.is at t.ensures.0 in (
      p.auto.b ∙ l.invariant.0,
      length-set l.qs i q ∙ l.invariant.1,
      one_more_used 6 67 field64 n m l.slots p.new.b l.qs t.result.row q l.b i h s.requires.0 l.invariant.1 stopped c.inverse.ensures
          ∙ ap (λ (x : ℕ). x + 1) l.invariant.2,
      row_is_kept_at 6 67 field64 n m l.slots p.new.b l.qs t.result.row q l.b i h s.requires.0 l.invariant.1 stopped c.inverse.ensures
          l.invariant.3 p.ensures,
    )

pub returns : goal.returns
returns c =
    let s = c in
    let l = c.loop-b in
    let t = c.attempt in
    let full : s.args.n ≤ nonzeros ℕ_discrete 0 s.args.n (symbol l.qs) = omega arith in
    let e = row_finishes 6 67 field64 s.args.n s.args.m.now l.qs t.result.row s.args.n (unwrap_or t.result.stop s.args.n) full t.ensures.0 in
    (le_refl s.args.n, subst (RowAt 6 67 s.args.n s.args.m.now t.result.row s.args.n) e t.ensures.0.row)
