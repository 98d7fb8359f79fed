-- `column::pick` meets its contract: the digit is 1 or 0. Assumes nothing.
use mathlib.Core.Path.{sym, subst}
use Prim.Native.Nat.{ℕ, ◌<◌, ◌^◌, ◌%◌}
use Rattle.poly.proofs.Sum.{scale_lt}
use Rattle.column.proofs.Division.{digit_product}
use Rattle.column.proofs.pick.Goals as goal

pub overflow_mul-result : goal.overflow_mul-result
overflow_mul-result c =
    let p = c.args.p in
    let q = c.args.q in
    record { fits = subst (λ (t : ℕ). t < 2 ^ 64) (sym (digit_product p q c.requires)) (scale_lt 64 (q % 2) p c.ranges.p.fits) }

pub returns : goal.returns
returns c = digit_product _ _ c.requires
