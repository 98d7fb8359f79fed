-- 01: "001 is dead": the one dead path that is ahead of the four-bit code's answer. Assumes nothing.
use mathlib.Core.Bool.{false}
use mathlib.Core.List.{[], ◌∷◌}
use mathlib.Core.Path.{◌≡◌, refl}
use lib.Count.{ones}
use Rattle.column.specs.Mask.{parity}
use Rattle.paths.specs.Lists.{filter}
use Rattle.paths.specs.Paths.{same, prefix, shared, paths, extensions}
use Rattle.paths.specs.Order.{ahead, last_placed, later}
use Rattle.paths.specs.Dead.{dead_and_ahead}
use Rattle.trellis.specs.Values.{branch, reading, doubt}
use Rattle.trellis.specs.Order.{number, sum, zero_first, before}
use Rattle.known.specs.FourBits.{begins_some, four_bit_whole, four_bit_supercode, values_of_001, soft_of_001, path001}

-- the only dead path that is ahead of 0000 is 001
pub one_dead_path_ahead : filter (dead_and_ahead (four_bit_whole values_of_001 soft_of_001) (four_bit_supercode values_of_001 soft_of_001) (false ∷ false ∷ false ∷ false ∷ [])) (paths 4) ≡ path001 ∷ []
unfolding filter dead_and_ahead ahead last_placed later prefix shared paths extensions before sum zero_first same number branch reading doubt begins_some parity ones
one_dead_path_ahead = refl
