-- `outer::encode` meets its contract: the data and their remainder, one behind the other. Assumes nothing.
use mathlib.Core.Path.{◌≡◌, ◌∙◌}
use Prim.Native.Nat.{◌≤◌}
use lib.ListN.{length}
use lib.Dec.{lit<}
use Rattle.field.proofs.Short.{primitive64}
use Rattle.reedsolomon.proofs.ShortRows.{row_roots_bounded}
use Rattle.reedsolomon.proofs.Remainders.{row_of_data_and_remainder}
use native.Mathlib.Omega.{arith}
use Rattle.outer.proofs.encode.Goals as goal

pub put-requires-2 : goal.put-requires-2
put-requires-2 c =
    let s = c in
    let r = c.remainder-r in
    let e : length c.put.new.b ≡ 63 = c.put.auto.b ∙ s.requires.3 in
    let h : s.args.t ≤ 30 = row_roots_bounded _ s.requires.0 in
    let n : length r.result ≡ 33 = omega arith in
    (omega arith, omega arith)

pub returns : goal.returns
returns c =
    let s = c in
    let put = c.put in
    let put2 = c.put-2 in
    let r = c.remainder-r in
    row_of_data_and_remainder 6 67 63 s.args.t primitive64 (lit< tt) s.args.«data».now r.result s.args.out.now put.new.b put2.new.b
    s.requires.1 s.requires.2 (put2.auto.b ∙ put.auto.b ∙ s.requires.3) r.ensures put.ensures put2.ensures
