use mathlib.Core.Path.{sym, ap, ◌∙◌, subst}
use Prim.Native.Nat.{ℕ, ◌*◌, ◌<◌}
use lib.Dec.{lit<}
use Rattle.field.proofs.Short.{field64}
use Rattle.reedsolomon.specs.Row.{symbol}
use Rattle.reedsolomon.proofs.Fill.{put_inside, one_more_block_put}
use Rattle.reedsolomon.proofs.Correcting.{magnitude_inside}
use Rattle.reedsolomon.proofs.Remainders.{zeros_at}
use borrow.Author.Rules.{rules}
use Rattle.magnitude.proofs.all_magnitudes.Invariants.{meant}
use Rattle.magnitude.proofs.all_magnitudes.Goals as goal

pub loop-b-init : goal.loop-b-init
loop-b-init c = (search rules, λ i l. absurd (native.Mathlib.Nat.not-suc-le-zero l), λ i. subst (λ (x : ℕ). x < 64) (sym (zeros_at 64 i)) (lit< tt))

pub loop-b-preserved : goal.loop-b-preserved
loop-b-preserved c =
    let a = c.args in
    let l = c.loop-b in
    let p = c.put in (
      p.auto.b ∙ l.invariant.0,
      one_more_block_put (λ i. meant a.g.now a.s.now a.k (symbol a.xs.now i)) 16 l.b c.magnitudes-y.result l.ys p.new.b l.invariant.1 p.ensures
          (λ i u. c.magnitudes-y.ensures i u ∙ ap (meant a.g.now a.s.now a.k) (c.block-x.ensures i u)),
      put_inside 6 (l.b * 16) 16 (symbol c.magnitudes-y.result) l.ys p.new.b l.invariant.2
          (λ i u. subst (λ (x : ℕ). x < 64) (sym (c.magnitudes-y.ensures i u)) (magnitude_inside 6 67 field64 _ _ _ _)) p.ensures,
    )
