-- `syndromes::syndrome::syndromes` meets its contract: the power sums of all columns, and of one more with 0 in it. Assumes nothing.
use lib.Dec.{lit≤}
use Rattle.field.proofs.Short.{field64}
use Rattle.reedsolomon.proofs.Lanes.{syndromes_by_sums}
use Rattle.syndromes.proofs.syndrome.syndromes.Goals as goal

pub returns : goal.returns
returns c =
    let s = c in
    syndromes_by_sums 6 67 field64 63 64 s.args.t 33 s.args.w.now c.locators-all.result c.summed.result (lit≤ tt) s.requires.2 c.locators-all.ensures c.summed.ensures
