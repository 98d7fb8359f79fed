-- `field::product` meets its contract: six digits of b, the highest first, each by the law of one digit more. Assumes nothing.
use mathlib.Core.Path.{refl}
use lib.Dec.{lit<}
use Rattle.field.proofs.Digits.{last, more, whole}
use Rattle.field.proofs.product.Goals as goal

pub returns : goal.returns
returns c =
    let t = c in
    let s5 = last 6 67 _ _ _ c.pick-6.ensures in
    let s4 = more 6 67 1 _ _ _ _ _ c.pick-5.ensures t.times_alpha-p5.ensures s5 in
    let s3 = more 6 67 2 _ _ _ _ _ c.pick-4.ensures t.times_alpha-p4.ensures s4 in
    let s2 = more 6 67 3 _ _ _ _ _ c.pick-3.ensures t.times_alpha-p3.ensures s3 in
    let s1 = more 6 67 4 _ _ _ _ _ c.pick-2.ensures t.times_alpha-p2.ensures s2 in
    let s0 = more 6 67 5 _ _ _ _ _ c.pick.ensures t.times_alpha-p1.ensures s1 in
    whole 6 67 refl (lit< tt) _ _ _ s0
