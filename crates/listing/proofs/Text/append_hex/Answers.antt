use Rattle.std.proofs.Common.{arith, rules, take_all}
use Rattle.std.proofs.lemmas.Grind.{common_steps}
use Rattle.std.proofs.lemmas.List.{take_more}
use Rattle.listing.specs.Text.{hex_of}
use Rattle.listing.proofs.Lengths.{hex_of_length}
use Rattle.listing.proofs.Hex.{hex_snoc}
use Rattle.listing.proofs.Text.append_hex.Goals as goal

pub loop-b-init : goal.loop-b-init
unfolding hex_of
loop-b-init g c = search rules

pub append-requires : goal.append-requires
append-requires g c = grind (arith, rules, hex_of_length, common_steps)

pub loop-b-preserved : goal.loop-b-preserved
loop-b-preserved g c =
    let bytes = c.args.bytes.now in
    let i = c.loop-b.b-index in
    rw (take_more bytes i 0 c.loop-b-test.true, hex_snoc) (grind (arith, common_steps))

pub returns : goal.returns
returns g c = rw (← take_all c.loop-b.b-index c.args.bytes.now c.loop-b-test.false) c.loop-b.invariant
