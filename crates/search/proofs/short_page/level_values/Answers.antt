use mathlib.Core.Path.{ap, ◌∙◌}
use Prim.Native.Nat.{◌*◌}
use native.Mathlib.Omega.{arith}
use lib.IntN.{ℤ, pos, ◌+ℤ◌}
use Rattle.trellis.specs.Values.{values}
use Rattle.stack.proofs.Sums.{sum_fits, sum_back}
use Rattle.search.proofs.Tables.{table_length, raising_fits, one_more_raised, all_raised}
use Rattle.search.proofs.short_page.level_values.Goals as goal

pub overflow_add-table : goal.overflow_add-table
overflow_add-table c =
    let k = c.loop-k.k in
    let fits = raising_fits c.args.level c.requires k _ (c.loop-k.invariant.left k (omega arith)) in
    sum_fits _ _ fits.0 fits.1 fits.2

pub loop-k-preserved : goal.loop-k-preserved
loop-k-preserved c =
    let k = c.loop-k.k in
    let same = c.loop-k.invariant.left k (omega arith) in
    let fits = raising_fits c.args.level c.requires k _ same in
    one_more_raised _ _ k _ _ (omega (arith, c.loop-k-test.true, table_length values)) c.loop-k.invariant (sum_back _ _ fits.0 fits.1 fits.2 ∙ ap (λ (x : ℤ). x +ℤ pos (2 * c.args.level)) same)

pub returns : goal.returns
returns c = all_raised _ _ _ c.loop-k-test.false c.loop-k.invariant
