-- The field of 512 elements: x ^ 9 + x ^ 4 + 1 passes the test of a modulus. Assumes nothing.
use mathlib.Core.Path.{refl}
use lib.Dec.{lit<}
use Prim.Native.Nat.{◌^◌, ◌<◌}
use Rattle.poly.specs.Polynomial.{add, scale, reduced}
use Rattle.field.specs.Element.{mul, inverse, next, first_one, Primitive}
use Rattle.field.specs.Laws.{Field}
use Rattle.field.proofs.Powers.{is_field}

pub primitive512 : Primitive 9 529
unfolding first_one next reduced scale add
primitive512 = record { wide = lit< tt; degree = refl; order = tt }

pub field512 : Field (λ a. a < 2 ^ 9) add (mul 9 529) 0 1 (inverse 9 529)
field512 = is_field 9 529 primitive512
