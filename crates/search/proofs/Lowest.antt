-- The smaller of two 16-bit numbers, as the standard library has it, is the lower of two sums. Assumes nothing.
use mathlib.Core.Path.{◌≡◌, refl, ap₂, ◌∙◌}
use lib.IntN.{ℤ}
use mir.Syntax.{w16}
use mir.Val.{SFits, to_z, of_z}
use mir.Facts.{to_z-of_z}
use Rattle.std.specs.Int.{int_min}
use Rattle.paths.specs.Low.{lower}

pub min_is_lower : (a b : ℤ) → int_min a b ≡ lower a b
unfolding lower
min_is_lower a b = refl

-- as a struct's fields have them
pub smaller_is_lower : (a b z : ℤ) → SFits w16 a → SFits w16 b → SFits w16 z → z ≡ int_min (to_z w16 (of_z w16 a)) (to_z w16 (of_z w16 b)) → to_z w16 (of_z w16 z) ≡ lower a b
smaller_is_lower a b z fa fb fz e = to_z-of_z fz ∙ e ∙ ap₂ int_min (to_z-of_z fa) (to_z-of_z fb) ∙ min_is_lower a b
