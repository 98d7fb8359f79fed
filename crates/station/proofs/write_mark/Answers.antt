use mathlib.Core.Path.{◌∙◌}
use Rattle.station.proofs.Bytes.{eight_bytes}
use Rattle.station.proofs.write_mark.Goals as goal

pub returns : goal.returns
returns c = c.copy_from_slice.ensures.after ∙ c.to_be_bytes.ensures ∙ eight_bytes c.args.mark
