-- `coding::writing::write_columns` meets its contract: the bytes of the first j columns are written. Assumes nothing.
use Prim.Native.Nat.{◌*◌}
use Rattle.concatenated.proofs.Filling.{Front}
use Rattle.concatenated.specs.Format.{short_page}
use Rattle.concatenated.specs.Written.{page_in_bytes}
use Rattle.coding.proofs.writing.write_columns.Given as goal

abbrev pub invariant-loop-j : goal.invariant-loop-j
invariant-loop-j l = Front (page_in_bytes short_page l.rows) l.out 252 (l.j * 4)
