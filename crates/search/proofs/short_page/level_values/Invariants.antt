-- `search::short_page::level_values` meets its contract: the first k entries of 01's table are raised. Assumes nothing.
use Prim.Native.Nat.{◌*◌}
use lib.IntN.{pos}
use Rattle.trellis.specs.Values.{values}
use Rattle.extension.specs.Steps.{table_of}
use Rattle.search.proofs.Tables.{RaisedUpTo}
use Rattle.search.proofs.short_page.level_values.Given as goal

abbrev pub invariant-loop-k : goal.invariant-loop-k
invariant-loop-k l = RaisedUpTo (pos (2 * l.level)) (table_of values) l.k l.table
