-- The branch values of a level: each is 01's, raised by 2·i. Assumes nothing.
use mathlib.Core.Bool.{Bool, true, false, cond}
use mathlib.Core.Path.{◌≡◌, refl}
use Prim.Native.Nat.{ℕ, ◌-◌, ◌*◌, ◌<◌}
use native.Mathlib.Omega.{arith}
use lib.Dec.{eqb, ltb}
use lib.IntN.{pos, ◌+ℤ◌}
use lib.ListN.{get_or}
use borrow.Author.Tests.{ltb-true, ltb-false}
use Rattle.column.proofs.Tabulated.{map_at}
use Rattle.trellis.specs.Values.{values, reading, doubt, branch, raised, level_values}

pub doubt_lt : (q : ℕ) → doubt q < 4
unfolding doubt
doubt_lt q = go (ltb q 4) refl
  where
    go : (b : Bool) → ltb q 4 ≡ b → cond b q (7 - q) < 4
    go true e = ltb-true q 4 e
    go false e = omega (arith, ltb-false q 4 e)

-- 02, point 3, of the branch value itself: every bit and soft value
pub branch_at_level : (i b q : ℕ) → branch (level_values i) b q ≡ branch values b q +ℤ pos (2 * i)
unfolding branch level_values
branch_at_level i b q = go (eqb (reading q) b)
  where
    go : (t : Bool)
        → cond t (get_or (raised (2 * i) values).agree (doubt q) (pos 0)) (get_or (raised (2 * i) values).disagree (doubt q) (pos 0))
        ≡ cond t (get_or values.agree (doubt q) (pos 0)) (get_or values.disagree (doubt q) (pos 0)) +ℤ pos (2 * i)
    go true = map_at (λ v. v +ℤ pos (2 * i)) values.agree (doubt q) (pos 0) (pos 0) (doubt_lt q)
    go false = map_at (λ v. v +ℤ pos (2 * i)) values.disagree (doubt q) (pos 0) (pos 0) (doubt_lt q)

-- at level 0 they are 01's
pub level_0_has_the_values_of_01 : level_values 0 ≡ values
unfolding level_values
level_0_has_the_values_of_01 = refl
