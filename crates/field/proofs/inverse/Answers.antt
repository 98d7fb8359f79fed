-- `field::inverse` meets its contract: the exponents of the products add up to 62. Assumes nothing.
use mathlib.Core.Path.{refl}
use lib.Dec.{lit<}
use Rattle.field.specs.Element.{inverse}
use Rattle.field.proofs.Ring.{power_square, power_next, power_join}
use Rattle.field.proofs.inverse.Goals as goal

pub returns : goal.returns
unfolding inverse
returns c =
    let at31 = c in
    let at30 = at31 in
    let at15 = at30 in
    let at12 = at15 in
    let at6 = at12 in
    let at3 = at6 in
    let at2 = at3 in
    let a2 = power_square 6 67 refl (lit< tt) _ _ at2.product-a2.ensures in
    let a3 = power_next 6 67 refl (lit< tt) _ 2 _ _ a2 at3.product-a3.ensures in
    let a6 = power_join 6 67 refl (lit< tt) _ 3 3 _ _ _ a3 a3 at6.product-a6.ensures in
    let a12 = power_join 6 67 refl (lit< tt) _ 6 6 _ _ _ a6 a6 at12.product-a12.ensures in
    let a15 = power_join 6 67 refl (lit< tt) _ 12 3 _ _ _ a12 a3 at15.product-a15.ensures in
    let a30 = power_join 6 67 refl (lit< tt) _ 15 15 _ _ _ a15 a15 at30.product-a30.ensures in
    let a31 = power_next 6 67 refl (lit< tt) _ 30 _ _ a30 at31.product-a31.ensures in
    power_join 6 67 refl (lit< tt) _ 31 31 _ _ _ a31 a31 c.product.ensures
