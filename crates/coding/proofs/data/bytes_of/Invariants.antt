-- `coding::data::bytes_of` meets its contract: the bytes of the first g groups are written. Assumes nothing.
use Prim.Native.Nat.{◌*◌}
use Rattle.concatenated.proofs.Filling.{Front}
use Rattle.concatenated.specs.Format.{short_page}
use Rattle.concatenated.specs.Data.{data_bytes}
use Rattle.coding.proofs.data.bytes_of.Given as goal

abbrev pub invariant-loop-g : goal.invariant-loop-g
invariant-loop-g l = Front (data_bytes short_page l.symbols) l.out 150 (l.g * 3)
