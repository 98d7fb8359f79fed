-- `search::run` meets its contract. The loop's invariant: the search stands, and every run goes on from there as it does from the start. Assumes nothing.
use mathlib.Core.List.{List}
use mathlib.Core.Path.{◌≡◌}
use Rattle.heap.specs.Holds.{Holds}
use Rattle.trellis.specs.Keys.{Key}
use Rattle.stack.specs.Places.{path_key, places, Upto}
use Rattle.extension.specs.Lent.{nodes_of}
use Rattle.search.specs.Progress.{Standing, Going}
use Rattle.search.proofs.run.Given as goal

abbrev pub invariant-loop : goal.invariant-loop
invariant-loop l =
    (l.counter ≡ l.state.count) × Standing l.trellis.n (places l.stack) l.stack.paths l.state.count (path_key l.state.last)
    × ((xs : List Key) → Holds Upto (places l.initial.stack) l.initial.stack.paths xs → Going (nodes_of l.trellis) l.trellis.n l.limit (places l.stack) l.initial.state.count (path_key l.initial.state.last) l.initial.state.low xs l.stack.paths l.state.count (path_key l.state.last) l.state.low)
