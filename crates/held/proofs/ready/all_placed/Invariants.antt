-- `held::ready::all_placed` meets its contract. The loop's invariant: those passed are placed. Assumes nothing.
use Prim.Native.Nat.{ℕ, ◌<◌}
use Rattle.held.specs.Entry.{paths_of}
use Rattle.held.specs.State.{Placed}
use Rattle.held.proofs.ready.all_placed.Given as goal

abbrev pub invariant-loop-j : goal.invariant-loop-j
invariant-loop-j l = (k : ℕ) → k < l.j → Placed (paths_of l.held) k
