-- Sizes of sums: each bit gives at most its branch value's size, so sums and low points lie near zero. Assumes nothing.
use mathlib.Core.Bool.{Bool, true, false, cond}
use mathlib.Core.List.{List, [], ◌∷◌}
use mathlib.Core.Path.{◌≡◌, refl, subst⁻¹}
use Prim.Native.Nat.{ℕ, zero, suc, ◌+◌, ◌*◌, ◌≤◌, ◌<◌}
use native.Mathlib.Nat.{le_refl, mul-suc, mul-le-mul_left, le_trans}
use native.Mathlib.Omega.{arith}
use lib.Dec.{T, eqb, ltb, leb, leb→le, le→leb}
use lib.IntN.{ℤ, pos, negsuc, nat_abs, ◌+ℤ◌, sub_ℕ}
use lib.ListN.{length, get_or}
use lib.Signed.{mag, ◌≤ℤ◌}
use borrow.Author.Tests.{ltb-true, ltb-false}
use Rattle.paths.specs.Paths.{Path}
use Rattle.paths.specs.Low.{low_point}
use Rattle.paths.proofs.Prefixes.{prefix_length}
use Rattle.paths.proofs.Low.{some_prefix_has_the_low_point}
use Rattle.trellis.specs.Values.{Values, reading, doubt, branch, level_values}
use Rattle.trellis.specs.Order.{bit, sum}

sub_near : (a b : ℕ) → nat_abs (sub_ℕ a b) ≤ a + b
sub_near a b = go (ltb a b) refl
  where
    go : (t : Bool) → ltb a b ≡ t → nat_abs (sub_ℕ a b) ≤ a + b
    go true e = rw e (omega (arith, ltb-true a b e))
    go false e = rw e (omega (arith, ltb-false a b e))

pub add_near : (y z : ℤ) → nat_abs (y +ℤ z) ≤ nat_abs y + nat_abs z
add_near (pos a) (pos b) = le_refl (a + b)
add_near (pos a) (negsuc b) = sub_near a (suc b)
add_near (negsuc a) (pos b) = omega (arith, sub_near b (suc a))
add_near (negsuc a) (negsuc b) = omega arith

pub mag_le : (z : ℤ) → mag z ≤ nat_abs z
mag_le (pos n) = omega arith
mag_le (negsuc n) = omega arith

pub near_is_not_above : (z : ℤ) (k : ℕ) → nat_abs z ≤ k → z ≤ℤ pos k
near_is_not_above (pos n) k h = record { le = le→leb n k h }
near_is_not_above (negsuc n) k h = record { le = tt }

-- every value of a list within k of zero
abbrev near : ℕ → List ℤ → Bool
near k [] = true
near k (x ∷ xs) = elim (leb (nat_abs x) k) [ true ↦ near k xs | false ↦ false ]

near_at : (k : ℕ) (xs : List ℤ) → T (near k xs) → (j : ℕ) → nat_abs (get_or xs j (pos 0)) ≤ k
near_at k [] t j = omega arith
near_at k (x ∷ xs) t j = go (leb (nat_abs x) k) (leb→le (nat_abs x) k) t (near_at k xs) j
  where
    go : (b : Bool) → (T b → nat_abs x ≤ k) → T (elim b [ true ↦ near k xs | false ↦ false ]) → (T (near k xs) → (j : ℕ) → nat_abs (get_or xs j (pos 0)) ≤ k) → (j : ℕ) → nat_abs (get_or (x ∷ xs) j (pos 0)) ≤ k
    go false e t others j = absurd t
    go true e t others zero = e tt
    go true e t others (suc j) = others t j

-- every branch value of vs lies within k of zero
abbrev pub Near : ℕ → Values → Type 0
Near k vs = (b q : ℕ) → nat_abs (branch vs b q) ≤ k

branches_near : (k : ℕ) (vs : Values) → T (near k vs.agree) → T (near k vs.disagree) → Near k vs
unfolding branch
branches_near k vs agree disagree b q = go (eqb (reading q) b)
  where
    go : (t : Bool) → nat_abs (cond t (get_or vs.agree (doubt q) (pos 0)) (get_or vs.disagree (doubt q) (pos 0))) ≤ k
    go true = near_at k vs.agree agree (doubt q)
    go false = near_at k vs.disagree disagree (doubt q)

-- the values of the short page's levels lie within 60 of zero
pub level_values_near : (i : ℕ) → i < 4 → Near 60 (level_values i)
unfolding level_values
level_values_near zero h = branches_near 60 (level_values 0) tt tt
level_values_near (suc zero) h = branches_near 60 (level_values 1) tt tt
level_values_near (suc (suc zero)) h = branches_near 60 (level_values 2) tt tt
level_values_near (suc (suc (suc zero))) h = branches_near 60 (level_values 3) tt tt
level_values_near (suc (suc (suc (suc i)))) h = absurd (omega arith)

module _ (k : ℕ) (vs : Values) (near : Near k vs) (soft : List ℕ) where
  pub sum_near : (p : Path) → nat_abs (sum vs soft p) ≤ k * length p
  unfolding sum
  sum_near [] = omega arith
  sum_near (b ∷ p) = omega (arith, add_near (sum vs soft p) (branch vs (bit b) (get_or soft (length p) 0)), near (bit b) (get_or soft (length p) 0), sum_near p, mul-suc k (length p))

  pub low_point_near : (w : Path) → 0 < length w → nat_abs (low_point (sum vs soft) w) ≤ k * length w
  low_point_near w some =
      let r = some_prefix_has_the_low_point (sum vs soft) w some in
      subst⁻¹ (λ (z : ℤ). nat_abs z ≤ k * length w) r.2 (le_trans (sum_near r.0) (mul-le-mul_left k (prefix_length r.0 w r.1)))
