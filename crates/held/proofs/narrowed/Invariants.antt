-- `held::narrowed` meets its contract: the first k are filled. Assumes nothing.
use mathlib.Core.Path.{◌≡◌}
use Prim.Native.Nat.{ℕ, ◌<◌}
use lib.ListN.{length, get_or}
use Rattle.held.proofs.narrowed.Given as goal

abbrev pub invariant-loop-k : goal.invariant-loop-k
invariant-loop-k l = (length l.narrow ≡ 2002) × ((j : ℕ) → j < l.k → get_or l.bits j 0 < 4294967296 → get_or l.narrow j 0 ≡ get_or l.bits j 0)
