-- `outer::is_codeword` meets its contract: by the syndromes of the row. Assumes nothing.
use lib.Dec.{lit<}
use Rattle.field.proofs.Short.{primitive64}
use Rattle.reedsolomon.proofs.Deciding.{padded_row, row_is_tested}
use native.Mathlib.Omega.{arith}
use Rattle.outer.proofs.is_codeword.Goals as goal

pub syndromes-s-requires : goal.syndromes-s-requires
syndromes-s-requires c =
    let put = c.put in
    let s = c in
    (omega arith, omega (arith, s.requires.2), padded_row 6 63 64 s.args.symbols.now _ s.requires.0 s.requires.1 put.ensures (lit< tt))

pub returns : goal.returns
returns c =
    let s = c in
    row_is_tested 6 67 63 s.args.t 64 primitive64 (lit< tt) s.args.symbols.now _ _ _ c.put.ensures c.syndromes-s.ensures c.all_zero.ensures
