-- A flag as a byte. Assumes nothing.
use mathlib.Core.Path.{◌≡◌, refl}
use mathlib.Core.Bool.{Bool, true, false}
use mir.Val.{bool_byte}
use Rattle.concatenated.specs.Flags.{flag}

pub byte_of_flag : (b : Bool) → bool_byte b ≡ flag b
byte_of_flag true = refl
byte_of_flag false = refl
