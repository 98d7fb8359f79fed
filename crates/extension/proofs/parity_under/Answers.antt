-- `extension::parity_under` meets its contract: the parity of the folded word. Assumes nothing.
use Prim.Native.Nat.{◌/◌, ◌^◌, ◌<◌, ◌≤◌}
use native.Mathlib.Omega.{arith}
use mathlib.Core.Path.{◌∙◌}
use lib.Bits.{bit_and, and_le_l}
use Rattle.column.specs.Mask.{parity}
use Rattle.extension.proofs.Folded.{folded_parity}
use Rattle.extension.proofs.parity_under.Goals as goal

pub returns : goal.returns
unfolding parity
returns c =
    let b = c.args.b in
    let m = c.args.m in
    let less : bit_and b m ≤ b = and_le_l b m in
    let high : bit_and b m / 2 ^ 32 < 2 ^ 32 = omega arith in
    (c.from.ensures ∙ folded_parity 32 (bit_and b m) high, omega (arith, c.from.ensures))
