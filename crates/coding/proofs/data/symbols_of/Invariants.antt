-- `coding::data::symbols_of` meets its contract: the symbols of the first g groups are written. Assumes nothing.
use Prim.Native.Nat.{◌*◌}
use Rattle.concatenated.proofs.Filling.{Front}
use Rattle.concatenated.specs.Format.{short_page}
use Rattle.concatenated.specs.Data.{data_symbols}
use Rattle.coding.proofs.data.symbols_of.Given as goal

abbrev pub invariant-loop-g : goal.invariant-loop-g
invariant-loop-g l = Front (data_symbols short_page l.«data») l.out 200 (l.g * 4)
