-- `list_of_two::search_words` meets its contract: at most two runs, the second from where the first stands. The loop's invariant: nothing is taken, or the first word. Assumes nothing.
use Prim.Native.Nat.{ℕ, ◌-◌}
use lib.IntN.{ℤ}
use Rattle.stack.specs.Places.{Stacked, path_key, places}
use Rattle.extension.specs.Steps.{TableOf}
use Rattle.extension.specs.declared.Trellis.{Trellis}
use Rattle.search.specs.Progress.{Standing}
use Rattle.search.specs.declared.Progress.{Progress}
use Rattle.list_of_two.proofs.TwoRuns.{At, Before}
use Rattle.list_of_two.proofs.search_words.Given as goal

-- where a state of the code stands
abbrev pub at_of : Stacked → Progress → At
at_of s p = record { paths = s.paths; count = p.count; last = path_key p.last; low = p.low }

-- what stands before a run, for a threshold
abbrev pub Before-run : Trellis → ℕ → Stacked → Progress → ℤ → Type 0
Before-run t limit stack first threshold =
    Before (λ vs. TableOf vs t.values.now) (λ vs. record { n = t.n; vs = vs; soft = t.col.now; left = t.left.now; right = t.right.now; threshold = threshold; limit = limit }) (places stack) (at_of stack first)

abbrev pub invariant-loop-first : goal.invariant-loop-first
invariant-loop-first l =
    Standing l.trellis.n (places l.stack) l.stack.paths l.first.count (path_key l.first.last) × Before-run l.trellis l.limit l.stack l.first l.threshold

abbrev pub decreases-loop-first : goal.decreases-loop-first
decreases-loop-first l = l.trellis.n - l.first.last.len
