-- The beginning that two paths share. Assumes nothing.
use mathlib.Core.Bool.{Bool, true, false, cond}
use mathlib.Core.List.{[], ◌∷◌}
use mathlib.Core.Logic.{◌⊎◌, inl, inr}
use mathlib.Core.Path.{◌≡◌, refl, subst}
use Prim.Native.Nat.{suc, ◌≤◌}
use native.Mathlib.Omega.{arith}
use native.Mathlib.Nat.{le_antisymm}
use lib.ListN.{length}
use Rattle.paths.specs.Paths.{Path, prefix, shared}
use Rattle.paths.proofs.Booleans.{not_both}
use Rattle.paths.proofs.Prefixes.{Prefix, prefix_is, is_prefix, prefix_some, prefix_length, prefix_trans, prefix_shorter}

-- a prefix of both is no longer
pub shared_longest : (p w q : Path) → Prefix q p → Prefix q w → length q ≤ shared p w
unfolding shared
shared_longest [] w q h k = elim h [ ]
shared_longest (b ∷ p) w q h k = go (prefix (b ∷ p) w) refl h (λ i. shared_longest p w q i k)
  where
    go : (t : Bool) → prefix (b ∷ p) w ≡ t → (q ≡ b ∷ p) ⊎ Prefix q p → (Prefix q p → length q ≤ shared p w) → length q ≤ cond t (suc (length p)) (shared p w)
    go true e i ih = prefix_length q (b ∷ p) i
    go false e (inl i) ih = absurd (not_both (prefix (b ∷ p) w) e (is_prefix (b ∷ p) w (subst (λ (x : Path). Prefix x w) i k)))
    go false e (inr i) ih = ih i

-- it is empty, or a prefix of both
shared_is : (p w : Path) → (shared p w ≡ 0) ⊎ ((r : Path) × Prefix r p × Prefix r w × (shared p w ≡ length r))
unfolding shared
shared_is [] w = inl refl
shared_is (b ∷ p) w = go (prefix (b ∷ p) w) refl (shared_is p w)
  where
    go : (t : Bool) → prefix (b ∷ p) w ≡ t → (shared p w ≡ 0) ⊎ ((r : Path) × Prefix r p × Prefix r w × (shared p w ≡ length r))
        → (cond t (suc (length p)) (shared p w) ≡ 0) ⊎ ((r : Path) × Prefix r (b ∷ p) × Prefix r w × (cond t (suc (length p)) (shared p w) ≡ length r))
    go true e ih = inr ((b ∷ p, inl refl, prefix_is (b ∷ p) w e, refl))
    go false e (inl k) = inl k
    go false e (inr (r, h, k, l)) = inr ((r, inr h, k, l))

-- a prefix of the one that is no longer is a prefix of the other
pub shared_left : (p w q : Path) → Prefix q p → length q ≤ shared p w → Prefix q w
shared_left p w q h l = go (shared_is p w)
  where
    go : (shared p w ≡ 0) ⊎ ((r : Path) × Prefix r p × Prefix r w × (shared p w ≡ length r)) → Prefix q w
    go (inl e) = absurd (omega (arith, prefix_some q p h))
    go (inr (r, i, k, e)) = prefix_trans q r w (prefix_shorter q r p h i (omega arith)) k

pub shared_swap : (p w : Path) → shared p w ≡ shared w p
shared_swap p w = le_antisymm (half p w (shared_is p w)) (half w p (shared_is w p))
  where
    half : (a b : Path) → (shared a b ≡ 0) ⊎ ((r : Path) × Prefix r a × Prefix r b × (shared a b ≡ length r)) → shared a b ≤ shared b a
    half a b (inl e) = omega arith
    half a b (inr (r, i, k, e)) = omega (arith, shared_longest b a r k i)
