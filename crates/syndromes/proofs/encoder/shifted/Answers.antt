-- `syndromes::encoder::shifted` meets its contract: each word takes the next one's first symbol. Assumes nothing.
use Rattle.syndromes.proofs.Packed.{carried_lt, joined_shift}
use native.Mathlib.Omega.{arith}
use Rattle.syndromes.proofs.encoder.shifted.Goals as goal

pub returns : goal.returns
returns c =
    let s = c in
    let w = s.args.w in
    let h = s.requires in
    (joined_shift w.low w.middle w.high, record { low = carried_lt w.low w.middle h.low; middle = carried_lt w.middle w.high h.middle; high = omega (arith, h.high) })
