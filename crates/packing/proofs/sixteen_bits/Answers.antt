-- `packing::sixteen_bits` meets its contract: the machine's bits are those of two's complement. Assumes nothing.
use mathlib.Core.Path.{ap, ◌∙◌}
use mir.Syntax.{w16}
use mir.Val.{of_z}
use mir.Facts.{to_z-of_z}
use Rattle.packing.proofs.Signed.{machine_bits}
use Rattle.packing.proofs.sixteen_bits.Goals as goal

pub returns : goal.returns
returns c = c.from.ensures ∙ c.cast_unsigned.ensures ∙ ap (of_z w16) (to_z-of_z c.ranges.z) ∙ machine_bits c.args.z
