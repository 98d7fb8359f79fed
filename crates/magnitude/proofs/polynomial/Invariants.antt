-- `magnitude::polynomial` meets its contract: one locator a turn of the loop. Assumes nothing.
use mathlib.Core.Path.{◌≡◌}
use mathlib.Core.Bool.{true}
use lib.ListN.{length}
use Rattle.poly.specs.Polynomial.{add}
use Rattle.field.specs.Element.{mul}
use Rattle.reedsolomon.specs.Product.{ProductPolynomial}
use Rattle.reedsolomon.specs.Row.{symbol}
use Rattle.reedsolomon.specs.Steps.{Element}
use Rattle.magnitude.proofs.polynomial.Given as goal

abbrev pub invariant-loop-i : goal.invariant-loop-i
invariant-loop-i l = (length l.g ≡ 33) × ProductPolynomial (Element 6 67) add (mul 6 67) 0 1 (symbol l.xs) (λ i. true) l.i 31 (symbol l.g)
