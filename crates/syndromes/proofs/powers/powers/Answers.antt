-- `syndromes::powers::powers` meets its contract: the table's rule, computed once over it. Assumes nothing.
use mathlib.Core.Path.{refl}
use Rattle.poly.specs.Polynomial.{add, scale, product, product_in, reduced, remainder, remainder_in}
use Rattle.field.specs.Element.{mul}
use Rattle.reedsolomon.specs.PowerTable.{powers_from, power_table}
use Rattle.syndromes.proofs.powers.powers.Goals as goal

pub returns : goal.returns
unfolding power_table powers_from add scale mul product product_in reduced remainder remainder_in
returns c = refl
