-- Signed numbers in 16 bits: the machine's bits, and that the numbers come back. Assumes nothing.
use mathlib.Core.Path.{◌≡◌, refl}
use Prim.Native.Nat.{◌<◌}
use native.Mathlib.Omega.{arith}
use lib.IntN.{ℤ, pos, negsuc}
use lib.Signed.{mag}
use mir.Syntax.{w16}
use mir.Val.{of_z}
use mir.Facts.{to_z-of_z}
use Rattle.packing.specs.Packing.{sixteen_bits, signed_of}

pub machine_bits : (z : ℤ) → of_z w16 z ≡ sixteen_bits z
machine_bits (pos n) = refl
machine_bits (negsuc n) = refl

-- the number comes back from its bits
pub signed_back : (z : ℤ) → mag z < 32768 → signed_of (sixteen_bits z) ≡ z
signed_back (pos n) h = to_z-of_z {w = w16} (record { sfits = h })
signed_back (negsuc n) h = to_z-of_z {w = w16} (record { sfits = h })

pub sixteen_bits_few : (z : ℤ) → mag z < 32768 → sixteen_bits z < 65536
sixteen_bits_few (pos n) h = omega arith
sixteen_bits_few (negsuc n) h = omega arith
