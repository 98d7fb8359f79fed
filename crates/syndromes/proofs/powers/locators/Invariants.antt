-- `syndromes::powers::locators` meets its contract: one entry at each end a turn of the loop. Assumes nothing.
use mathlib.Core.Path.{◌≡◌}
use lib.ListN.{length}
use Rattle.syndromes.proofs.Reversal.{Reversed}
use Rattle.syndromes.proofs.powers.locators.Given as goal

abbrev pub invariant-loop-i : goal.invariant-loop-i
invariant-loop-i l = (length l.r ≡ length l.initial.r) × Reversed 62 l.i l.all l.r
