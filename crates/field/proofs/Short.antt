-- The field of 64 elements: x ^ 6 + x + 1 passes the test of a modulus. Assumes nothing.
use mathlib.Core.Path.{refl}
use lib.Dec.{lit<}
use Prim.Native.Nat.{◌^◌, ◌<◌}
use Rattle.poly.specs.Polynomial.{add, scale, reduced}
use Rattle.field.specs.Element.{mul, inverse, next, first_one, Primitive}
use Rattle.field.specs.Laws.{Field}
use Rattle.field.proofs.Powers.{is_field}

pub primitive64 : Primitive 6 67
unfolding first_one next reduced scale add
primitive64 = record { wide = lit< tt; degree = refl; order = tt }

pub field64 : Field (λ a. a < 2 ^ 6) add (mul 6 67) 0 1 (inverse 6 67)
field64 = is_field 6 67 primitive64
