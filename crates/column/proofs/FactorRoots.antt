-- 01: the factors f1, f3, f5, f7 have the roots α, α^3, α^5, α^7. Assumes nothing.
use mathlib.Core.Path.{refl}
use Rattle.poly.specs.Polynomial.{add, scale, product_in, product, reduced, remainder_in, remainder}
use Rattle.field.specs.Element.{mul, power}
use Rattle.column.specs.Shape.{f1, f3, f5, f7}
use Rattle.column.specs.Roots.{value_in, Root}

pub factors_have_their_roots : Root f1 1 × Root f3 3 × Root f5 5 × Root f7 7
unfolding value_in mul power remainder remainder_in reduced product product_in scale add
factors_have_their_roots = (refl, refl, refl, refl)
