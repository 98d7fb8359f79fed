-- The numbers of roots of the short page's rows. Assumes nothing.
use mathlib.Core.Path.{◌≡◌, sym, subst}
use Prim.Native.Nat.{ℕ, zero, suc, ◌≤◌, ◌<◌}
use native.Mathlib.Omega.{arith}
use lib.Dec.{lit≤}
use Rattle.reedsolomon.specs.ShortRows.{short_roots, RowRoots}

pub at_most_30_roots : (i : ℕ) → short_roots i ≤ 30
unfolding short_roots
at_most_30_roots zero = lit≤ tt
at_most_30_roots (suc zero) = lit≤ tt
at_most_30_roots (suc (suc zero)) = lit≤ tt
at_most_30_roots (suc (suc (suc zero))) = lit≤ tt
at_most_30_roots (suc (suc (suc (suc i)))) = lit≤ tt

pub row_roots_bounded : (t : ℕ) → RowRoots t → t ≤ 30
row_roots_bounded t h = subst (λ (x : ℕ). x ≤ 30) (sym h.is_its) (at_most_30_roots h.level)

-- beside 30, 12 and 6 there is only 4
pub only_four_is_left : (t : ℕ) → RowRoots t → (t ≡ 30 → ⊥) → (t ≡ 12 → ⊥) → (t ≡ 6 → ⊥) → t ≡ 4
unfolding short_roots
only_four_is_left t h a b c = go h.level h.level_exists h.is_its
  where
    go : (i : ℕ) → i < 4 → t ≡ short_roots i → t ≡ 4
    go zero l e = absurd (a e)
    go (suc zero) l e = absurd (b e)
    go (suc (suc zero)) l e = absurd (c e)
    go (suc (suc (suc zero))) l e = e
    go (suc (suc (suc (suc i)))) l e = absurd (omega arith)
