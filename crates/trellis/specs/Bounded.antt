-- 02, point 5: the search of a column with a number of places on its stack. Assumes nothing.
use Rattle.std.specs.Prelude.{List, [], ℕ, take, pos}
use Rattle.paths.specs.Tree.{Tree}
use Rattle.paths.specs.Stack.{extend}
use Rattle.paths.specs.Keys.{WithLow}
use Rattle.paths.specs.Bounded.{BoundedResult, crowded, bounded_search, ended_with_key, run_keys_within}
use Rattle.trellis.specs.Values.{Values}
use Rattle.trellis.specs.Trellis.{WordFound, found_word}
use Rattle.trellis.specs.Keys.{Key, key, key_nodes, none_taken}

-- how a search with that many places ends, the word as a column's number with its low point
abbrev pub searched_within : ℕ → Tree → ℕ → BoundedResult WordFound
searched_within places t limit = ended_with_key (found_word t.sum) (bounded_search t places limit)

-- ---- for the code's contracts: on keys

unfoldable pub key_search_within : ℕ → ℕ → Values → List ℕ → List ℕ → List ℕ → ℕ → BoundedResult (WithLow Key)
key_search_within places n vs soft left right limit =
    let nodes = key_nodes n vs soft left right in
    let start = extend nodes (key (pos 0) 0 0) [] in
    run_keys_within nodes places limit 0 none_taken (crowded nodes places start) (take places start)
