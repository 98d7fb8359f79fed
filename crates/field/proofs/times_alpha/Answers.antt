-- `field::times_alpha` meets its contract: the law of one shift and reduction, at m = 6. Assumes nothing.
use mathlib.Core.Path.{refl}
use Prim.Native.Nat.{◌*◌, ◌/◌, ◌%◌}
use native.Mathlib.Omega.{arith}
use lib.Dec.{lit<}
use Rattle.field.proofs.Digits.{times_α}
use Rattle.field.proofs.times_alpha.Goals as goal

pub returns : goal.returns
returns c =
    let a = c.args.a in
    times_α 6 67 refl (lit< tt) 3 a (a * 2 % 256 % 64) (a / 32) c.pick.result refl (lit< tt) (omega arith) (omega arith) c.pick.ensures
