use lib.ListN.{length-set}
use Rattle.reedsolomon.proofs.Fill.{one_more_written}
use Rattle.syndromes.specs.Packed.{number_of}
use Rattle.syndromes.proofs.Packed.{symbol_at, one_symbol_less}
use native.Mathlib.Omega.{arith}
use Rattle.syndromes.proofs.encoder.symbols.Goals as goal

pub loop-i-preserved : goal.loop-i-preserved
loop-i-preserved c =
    let n = number_of c.args.words in
    let l = c.loop-i in
    let w = l.w in
    let left = l.invariant.2 in (
      simp length-set (omega arith),
      c.shifted-w.ensures.1,
      one_symbol_less n l.i _ _ left c.shifted-w.ensures.0,
      one_more_written _ _ _ _ _ l.invariant.3 (omega arith) (symbol_at n l.i w.low w.middle w.high left),
    )
