-- The order of integers is kept by sums. Assumes nothing.
use mathlib.Core.Bool.{true}
use mathlib.Core.Logic.{◌⊎◌, inl, inr}
use mathlib.Core.Path.{◌≡◌, ◌∙◌, subst}
use lib.IntN.{ℤ, ◌+ℤ◌}
use lib.Signed.{lt_z}
use Rattle.paths.proofs.Integers.{same_before, same_after}
use Rattle.trellis.proofs.Strict.{strict_int}

-- a smaller number with one that is not larger
pub sum_smaller : (x y u v : ℤ) → lt_z x y ≡ true → (u ≡ v) ⊎ (lt_z u v ≡ true) → lt_z (x +ℤ u) (y +ℤ v) ≡ true
sum_smaller x y u v l (inl e) = subst (λ (t : ℤ). lt_z (x +ℤ u) (y +ℤ t) ≡ true) e (same_after u x y ∙ l)
sum_smaller x y u v l (inr k) = strict_int.transitive (x +ℤ u) (y +ℤ u) (y +ℤ v) (same_after u x y ∙ l) (same_before y u v ∙ k)
