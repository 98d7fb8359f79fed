-- `syndromes::encoder::multiples` meets its contract: each entry is the one before it times α. Assumes nothing.
use mathlib.Core.Path.{◌≡◌}
use Prim.Native.Nat.{ℕ, suc, ◌<◌}
use lib.ListN.{length, get_or}
use Rattle.syndromes.specs.Packed.{TimesAlpha}
use Rattle.syndromes.proofs.encoder.multiples.Given as goal

abbrev pub invariant-loop-k : goal.invariant-loop-k
invariant-loop-k l = (length l.r ≡ 6) × (get_or l.r 0 0 ≡ l.w) × ((j : ℕ) → j < l.k → TimesAlpha (get_or l.r j 0) (get_or l.r (suc j) 0))
