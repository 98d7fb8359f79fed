-- A flag as a byte counts as much as the flag. Assumes nothing.
use mathlib.Core.Path.{◌≡◌, refl}
use mathlib.Core.Bool.{Bool, true, false}
use mir.Val.{bool_byte}
use Rattle.reedsolomon.specs.Words.{indicator}

pub byte_of_flag : (b : Bool) → bool_byte b ≡ indicator b
unfolding indicator
byte_of_flag true = refl
byte_of_flag false = refl
