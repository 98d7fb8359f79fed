-- Sums in 16 bits. Assumes nothing.
use Prim.Native.Nat.{◌<◌}
use native.Mathlib.Omega.{arith}
use mathlib.Core.Bool.{Bool}
use mathlib.Core.Path.{◌≡◌, sym, ap, ap₂, ◌∙◌, subst⁻¹}
use lib.IntN.{ℤ, nat_abs, ◌+ℤ◌}
use lib.Signed.{lt_z}
use mir.Syntax.{w16}
use mir.Val.{SFits, to_z, of_z}
use mir.Facts.{to_z-of_z}
use Rattle.trellis.proofs.Sums.{mag_le}

pub near_fits : (z : ℤ) → nat_abs z < 32768 → SFits w16 z
near_fits z h = record { sfits = omega (arith, mag_le z) }

-- the sum of two that are read back from their bits
pub sum_fits : (y z : ℤ) → SFits w16 y → SFits w16 z → SFits w16 (y +ℤ z) → SFits w16 (to_z w16 (of_z w16 y) +ℤ to_z w16 (of_z w16 z))
sum_fits y z fy fz f = subst⁻¹ (λ (x : ℤ). SFits w16 x) (ap₂ ◌+ℤ◌ (to_z-of_z fy) (to_z-of_z fz)) f

pub sum_back : (y z : ℤ) → SFits w16 y → SFits w16 z → SFits w16 (y +ℤ z) → to_z w16 (of_z w16 (to_z w16 (of_z w16 y) +ℤ to_z w16 (of_z w16 z))) ≡ y +ℤ z
sum_back y z fy fz f = ap (λ (x : ℤ). to_z w16 (of_z w16 x)) (ap₂ ◌+ℤ◌ (to_z-of_z fy) (to_z-of_z fz)) ∙ to_z-of_z f

-- what a test of two signed numbers says: a signed local holds bits, so the flag speaks of what is read back from them
pub lt_flag : {t : Bool} (a b : ℤ) → SFits w16 a → SFits w16 b → lt_z (to_z w16 (of_z w16 a)) (to_z w16 (of_z w16 b)) ≡ t → lt_z a b ≡ t
lt_flag a b fa fb e = sym (ap₂ lt_z (to_z-of_z fa) (to_z-of_z fb)) ∙ e

pub lt_back : (a b : ℤ) → SFits w16 a → SFits w16 b → lt_z (to_z w16 (of_z w16 a)) (to_z w16 (of_z w16 b)) ≡ lt_z a b
lt_back a b fa fb = ap₂ lt_z (to_z-of_z fa) (to_z-of_z fb)

-- sums with the same bits are one
pub one_sum : {a b : ℤ} → SFits w16 a → SFits w16 b → of_z w16 a ≡ of_z w16 b → a ≡ b
one_sum fa fb e = sym (to_z-of_z fa) ∙ ap (to_z w16) e ∙ to_z-of_z fb
