-- The order of integers, by its tests; sums keep it. Assumes nothing.
use mathlib.Core.Bool.{Bool, true, false, not}
use mathlib.Core.Path.{◌≡◌, refl, sym, ap, ap₂, ◌∙◌, subst⁻¹}
use Prim.Native.Nat.{zero, suc}
use native.Mathlib.Nat.{le_antisymm, le_of_lt}
use lib.Dec.{T, leb→le, le→leb, ltb→lt, leb-zero, leb-suc-zero, leb-suc-suc}
use lib.IntN.{ℤ, pos, negsuc, suc_ℤ, pred_ℤ, suc-pred, ◌+ℤ◌, suc_ℤ-+ℤ, pred_ℤ-+ℤ, +ℤ_idl, +ℤ_comm}
use lib.Signed.{lt_z, le_z, ◌≤ℤ◌, lt_z_yes, lt_z_no, <ℤ-≤ℤ_trans, clash_ℤ}

pub not_below : (a b : ℤ) → lt_z a b ≡ false → b ≤ℤ a
not_below a b e = lt_z_no (subst⁻¹ (λ (t : Bool). T (not t)) e tt)

below' : (a b : ℤ) → T (lt_z a b) → T (le_z a b)
below' (pos a) (pos b) h = le→leb a b (le_of_lt (ltb→lt a b h))
below' (pos a) (negsuc b) h = h
below' (negsuc a) (pos b) h = tt
below' (negsuc a) (negsuc b) h = le→leb b a (le_of_lt (ltb→lt b a h))

pub below_is_not_above : (a b : ℤ) → lt_z a b ≡ true → a ≤ℤ b
below_is_not_above a b e = record { le = below' a b (subst⁻¹ T e tt) }

pub ≤ℤ_trans : (a b c : ℤ) → a ≤ℤ b → b ≤ℤ c → a ≤ℤ c
≤ℤ_trans a b c h k = go (lt_z c a) refl
  where
    go : (t : Bool) → lt_z c a ≡ t → a ≤ℤ c
    go true e = clash_ℤ (<ℤ-≤ℤ_trans (lt_z_yes (subst⁻¹ T e tt)) h) k
    go false e = not_below c a e

pub ≤ℤ_antisym : (a b : ℤ) → a ≤ℤ b → b ≤ℤ a → a ≡ b
≤ℤ_antisym (pos a) (pos b) h k = ap pos (le_antisymm (leb→le a b h.le) (leb→le b a k.le))
≤ℤ_antisym (pos a) (negsuc b) h k = absurd h.le
≤ℤ_antisym (negsuc a) (pos b) h k = absurd k.le
≤ℤ_antisym (negsuc a) (negsuc b) h k = ap negsuc (le_antisymm (leb→le a b k.le) (leb→le b a h.le))

-- ---- sums

successors : (x y : ℤ) → lt_z (suc_ℤ x) (suc_ℤ y) ≡ lt_z x y
successors (pos m) (pos n) = leb-suc-suc (suc m) n
successors (pos m) (negsuc zero) = leb-suc-zero (suc m)
successors (pos m) (negsuc (suc n)) = refl
successors (negsuc zero) (pos n) = leb-suc-suc 0 n ∙ leb-zero n
successors (negsuc zero) (negsuc zero) = refl
successors (negsuc zero) (negsuc (suc n)) = sym (leb-suc-zero (suc n))
successors (negsuc (suc m)) (pos n) = refl
successors (negsuc (suc m)) (negsuc zero) = sym (leb-suc-suc 0 m ∙ leb-zero m)
successors (negsuc (suc m)) (negsuc (suc n)) = sym (leb-suc-suc (suc n) m)

predecessors : (x y : ℤ) → lt_z (pred_ℤ x) (pred_ℤ y) ≡ lt_z x y
predecessors x y = sym (successors (pred_ℤ x) (pred_ℤ y)) ∙ ap₂ lt_z (suc-pred x) (suc-pred y)

-- a summand before both
pub same_before : (a x y : ℤ) → lt_z (a +ℤ x) (a +ℤ y) ≡ lt_z x y
same_before (pos zero) x y = ap₂ lt_z (+ℤ_idl x) (+ℤ_idl y)
same_before (pos (suc n)) x y = ap₂ lt_z (suc_ℤ-+ℤ (pos n) x) (suc_ℤ-+ℤ (pos n) y) ∙ successors (pos n +ℤ x) (pos n +ℤ y) ∙ same_before (pos n) x y
same_before (negsuc zero) x y =
    ap₂ lt_z (pred_ℤ-+ℤ (pos 0) x) (pred_ℤ-+ℤ (pos 0) y) ∙ predecessors (pos 0 +ℤ x) (pos 0 +ℤ y) ∙ ap₂ lt_z (+ℤ_idl x) (+ℤ_idl y)
same_before (negsuc (suc n)) x y =
    ap₂ lt_z (pred_ℤ-+ℤ (negsuc n) x) (pred_ℤ-+ℤ (negsuc n) y) ∙ predecessors (negsuc n +ℤ x) (negsuc n +ℤ y) ∙ same_before (negsuc n) x y

-- a summand after both
pub same_after : (a x y : ℤ) → lt_z (x +ℤ a) (y +ℤ a) ≡ lt_z x y
same_after a x y = ap₂ lt_z (+ℤ_comm x a) (+ℤ_comm y a) ∙ same_before a x y
