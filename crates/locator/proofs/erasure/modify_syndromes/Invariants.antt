-- `locator::erasure::modify_syndromes` meets its contract: one column a turn of the loop. Assumes nothing.
use mathlib.Core.Path.{◌≡◌}
use lib.ListN.{length}
use Rattle.poly.specs.Polynomial.{add}
use Rattle.field.specs.Element.{mul}
use Rattle.reedsolomon.specs.ModifiedSyndromes.{Left}
use Rattle.reedsolomon.specs.Row.{symbol, Symbols, marked}
use Rattle.reedsolomon.specs.Steps.{locator_at}
use Rattle.locator.proofs.erasure.modify_syndromes.Given as goal

abbrev pub invariant-loop-j : goal.invariant-loop-j
invariant-loop-j l = (length l.s ≡ length l.initial.s) × Left add (mul 6 67) (locator_at 6 67 63) (marked l.marks) l.j 33 (symbol l.initial.s) (symbol l.s) × Symbols 6 l.s
