use mathlib.Core.Path.{ap, ◌∙◌}
use Prim.Native.Nat.{ℕ}
use Rattle.reedsolomon.specs.Row.{symbol}
use Rattle.reedsolomon.specs.Steps.{row_value}
use Rattle.reedsolomon.proofs.Fill.{one_more_block_put}
use Rattle.locator.proofs.root.all_values.Goals as goal

pub loop-b-preserved : goal.loop-b-preserved
loop-b-preserved c =
    let a = c.args in
    let l = c.loop-b in
    let all = c.locators-all.result in
    let p = c.put in (
      p.auto.b ∙ l.invariant.0,
      one_more_block_put (λ (j : ℕ). row_value 6 67 a.row.now a.d (symbol all j)) 16 l.b c.values-v.result l.r p.new.b l.invariant.1 p.ensures
          (λ i u. c.values-v.ensures i u ∙ ap (row_value 6 67 a.row.now a.d) (c.block-xs.ensures i u)),
    )
