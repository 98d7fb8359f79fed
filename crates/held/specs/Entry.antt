-- 02, point 13: an entry of the store of names. Assumes nothing.
use Rattle.std.specs.Prelude.{List, ℕ, pos, replicate}
use Rattle.column.specs.Shape.{short}
use Rattle.paths.specs.Tree.{Tree}
use Rattle.trellis.specs.Values.{level_values}
use Rattle.trellis.specs.Keys.{Key, key, none_taken}
use Rattle.trellis.specs.Demand.{supercode_trellis}
use Rattle.stack.specs.Places.{at}
use Rattle.held.specs.declared.Held.{Held}

-- nothing is held
unfoldable pub nothing_held : Held
nothing_held = record {
  limit = 0;
  level = 0;
  paths = 0;
  last = 0;
  sum = pos 0;
  low = pos 0;
  len = 0;
  column = replicate 30 0;
  lens = replicate 2002 0;
  sums = replicate 2002 (pos 0);
  bits = replicate 2002 0;
}

-- the search of a column at a level, of which no step is made
unfoldable pub begun_held : List ℕ → ℕ → Held
begun_held soft level = record {
  limit = 0;
  level = level;
  paths = 0;
  last = 0;
  sum = pos 0;
  low = none_taken;
  len = 0;
  column = soft;
  lens = replicate 2002 0;
  sums = replicate 2002 (pos 0);
  bits = replicate 2002 0;
}

-- 02: "Held are supercode searches without list of two, each with its column": the trellis of a column that is searched
abbrev pub column_trellis : List ℕ → ℕ → Tree
column_trellis soft level = supercode_trellis short (level_values level) soft level

abbrev pub held_trellis : Held → Tree
held_trellis h = column_trellis h.column h.level

-- the last path taken
abbrev pub last_of : Held → Key
last_of h = key h.sum h.len h.last

-- the paths in the three arrays
abbrev pub paths_of : Held → ℕ → Key
paths_of h = at h.sums h.lens h.bits
