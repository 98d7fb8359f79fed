-- `census::count_from` meets its contract and ends: the measure is what is left of the column. Where a flip is left and a position, the patterns are those with a one there and those without. Assumes nothing.
use Prim.Native.Nat.{◌-◌}
use Rattle.census.proofs.+count_from.Given as goal

abbrev pub decreases-count_from : goal.decreases-count_from
decreases-count_from l = 30 - l.from
