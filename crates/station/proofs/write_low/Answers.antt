-- `station::write_low` meets its contract: the machine's bits are those of two's complement, in two bytes. Assumes nothing.
use mathlib.Core.Path.{ap, ◌∙◌}
use mir.Syntax.{w16}
use mir.Val.{of_z}
use mir.Facts.{to_z-of_z}
use Rattle.concatenated.specs.Data.{digits}
use Rattle.packing.proofs.Signed.{machine_bits}
use Rattle.station.proofs.Bytes.{two_bytes}
use Rattle.station.proofs.write_low.Goals as goal

pub returns : goal.returns
returns c =
    c.copy_from_slice.ensures.after ∙ c.to_be_bytes.ensures ∙ two_bytes c.cast_unsigned.result
    ∙ ap (digits 256 2) (c.cast_unsigned.ensures ∙ ap (of_z w16) (to_z-of_z c.ranges.low) ∙ machine_bits c.args.low)
