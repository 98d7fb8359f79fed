-- `held::widened` meets its contract: the first k are filled. Assumes nothing.
use mathlib.Core.Path.{◌≡◌}
use Prim.Native.Nat.{ℕ, ◌<◌}
use lib.ListN.{length, get_or}
use Rattle.held.proofs.widened.Given as goal

abbrev pub invariant-loop-k : goal.invariant-loop-k
invariant-loop-k l = (length l.wide ≡ 2002) × ((j : ℕ) → j < l.k → get_or l.wide j 0 ≡ get_or l.bits j 0)
