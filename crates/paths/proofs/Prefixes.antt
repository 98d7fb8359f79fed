-- Prefixes of paths. Assumes nothing.
use mathlib.Core.Bool.{Bool, true, false, false≢true}
use mathlib.Core.List.{List, [], ◌∷◌}
use mathlib.Core.Logic.{◌⊎◌, inl, inr, ⊎_elim}
use mathlib.Core.Path.{◌≡◌, refl, ap, subst, subst⁻¹}
use Prim.Native.Nat.{◌≤◌, ◌<◌}
use native.Mathlib.Omega.{arith}
use lib.ListN.{length}
use Rattle.paths.specs.Lists.{Mem}
use Rattle.paths.specs.Paths.{Path, same, prefix}
use Rattle.paths.proofs.Booleans.{or_either, either_or, not_both}

-- p is a prefix of w, by cases
abbrev pub Prefix : Path → Path → Type 0
Prefix p [] = ⊥
Prefix p (b ∷ w) = (p ≡ b ∷ w) ⊎ Prefix p w

-- ---- the tests

pub same_equal : (p q : Path) → same p q ≡ true → p ≡ q
unfolding same
same_equal [] [] e = refl
same_equal [] (c ∷ q) e = absurd (false≢true e)
same_equal (b ∷ p) [] e = absurd (false≢true e)
same_equal (true ∷ p) (true ∷ q) e = ap (λ (x : Path). true ∷ x) (same_equal p q e)
same_equal (true ∷ p) (false ∷ q) e = absurd (false≢true e)
same_equal (false ∷ p) (true ∷ q) e = absurd (false≢true e)
same_equal (false ∷ p) (false ∷ q) e = ap (λ (x : Path). false ∷ x) (same_equal p q e)

same_self : (p : Path) → same p p ≡ true
unfolding same
same_self [] = refl
same_self (true ∷ p) = same_self p
same_self (false ∷ p) = same_self p

pub equal_same : (p q : Path) → p ≡ q → same p q ≡ true
equal_same p q e = subst (λ (x : Path). same p x ≡ true) e (same_self p)

pub path_dec : (p q : Path) → Dec (p ≡ q)
path_dec p q = go (same p q) refl
  where
    go : (b : Bool) → same p q ≡ b → Dec (p ≡ q)
    go true e = yes (same_equal p q e)
    go false e = no (λ h. not_both (same p q) e (equal_same p q h))

pub prefix_is : (p w : Path) → prefix p w ≡ true → Prefix p w
unfolding prefix
prefix_is p [] e = absurd (false≢true e)
prefix_is p (b ∷ w) e = ⊎_elim (λ h. inl (same_equal p (b ∷ w) h)) (λ h. inr (prefix_is p w h)) (or_either (same p (b ∷ w)) (prefix p w) e)

pub is_prefix : (p w : Path) → Prefix p w → prefix p w ≡ true
unfolding prefix
is_prefix p [] x' = elim x' [ ]
is_prefix p (b ∷ w) (inl e) = either_or (same p (b ∷ w)) (prefix p w) (inl (equal_same p (b ∷ w) e))
is_prefix p (b ∷ w) (inr h) = either_or (same p (b ∷ w)) (prefix p w) (inr (is_prefix p w h))

pub prefix_dec : (p w : Path) → Dec (Prefix p w)
prefix_dec p w = go (prefix p w) refl
  where
    go : (b : Bool) → prefix p w ≡ b → Dec (Prefix p w)
    go true e = yes (prefix_is p w e)
    go false e = no (λ h. not_both (prefix p w) e (is_prefix p w h))

pub mem_dec : (p : Path) (l : List Path) → Dec (Mem p l)
mem_dec p [] = no (λ h. h)
mem_dec p (q ∷ l) = go (path_dec p q) (mem_dec p l)
  where
    go : Dec (p ≡ q) → Dec (Mem p l) → Dec (Mem p (q ∷ l))
    go (yes e) d = yes (inl e)
    go (no n) (yes m) = yes (inr m)
    go (no n) (no m) = no (⊎_elim n m)

-- ---- the order of prefixes

pub prefix_self : (p : Path) → 0 < length p → Prefix p p
prefix_self [] h = absurd (omega arith)
prefix_self (b ∷ p) h = inl refl

pub prefix_some : (p w : Path) → Prefix p w → 0 < length p
prefix_some p [] x' = elim x' [ ]
prefix_some p (b ∷ w) (inl e) = omega (arith, ap length e)
prefix_some p (b ∷ w) (inr h) = prefix_some p w h

pub prefix_length : (p w : Path) → Prefix p w → length p ≤ length w
prefix_length p [] x' = elim x' [ ]
prefix_length p (b ∷ w) (inl e) = omega (arith, ap length e)
prefix_length p (b ∷ w) (inr h) = omega (arith, prefix_length p w h)

pub prefix_trans : (p q r : Path) → Prefix p q → Prefix q r → Prefix p r
prefix_trans p q [] h x'' = elim x'' [ ]
prefix_trans p q (b ∷ r) h (inl e) = subst (λ (x : Path). Prefix p x) e h
prefix_trans p q (b ∷ r) h (inr k) = inr (prefix_trans p q r h k)

-- of two prefixes of one path, one is a prefix of the other
pub prefix_compare : (p q w : Path) → Prefix p w → Prefix q w → Prefix p q ⊎ Prefix q p
prefix_compare p q [] x'' k = elim x'' [ ]
prefix_compare p q (b ∷ w) (inl e) k = inr (subst⁻¹ (λ (x : Path). Prefix q x) e k)
prefix_compare p q (b ∷ w) (inr h) (inl e) = inl (subst⁻¹ (λ (x : Path). Prefix p x) e (inr h))
prefix_compare p q (b ∷ w) (inr h) (inr k) = prefix_compare p q w h k

-- a prefix that is as long is the path itself
pub prefix_whole : (p w : Path) → Prefix p w → length w ≤ length p → p ≡ w
prefix_whole p [] x'' l = elim x'' [ ]
prefix_whole p (b ∷ w) (inl e) l = e
prefix_whole p (b ∷ w) (inr h) l = absurd (omega (arith, prefix_length p w h))

-- a shorter prefix of w is a prefix of a longer one
pub prefix_shorter : (p q w : Path) → Prefix p w → Prefix q w → length p ≤ length q → Prefix p q
prefix_shorter p q w h k l = ⊎_elim (λ i. i) (λ i. again (prefix_whole q p i l)) (prefix_compare p q w h k)
  where
    again : q ≡ p → Prefix p q
    again e = subst⁻¹ (λ (x : Path). Prefix p x) e (prefix_self p (prefix_some p w h))

-- a prefix is the whole path, or the prefix one bit longer is a prefix too
pub prefix_next : (p w : Path) → Prefix p w → (p ≡ w) ⊎ ((b : Bool) × Prefix (b ∷ p) w)
prefix_next p [] x' = elim x' [ ]
prefix_next p (c ∷ w) (inl e) = inl e
prefix_next p (c ∷ w) (inr h) = go (prefix_next p w h)
  where
    go : (p ≡ w) ⊎ ((b : Bool) × Prefix (b ∷ p) w) → (p ≡ c ∷ w) ⊎ ((b : Bool) × Prefix (b ∷ p) (c ∷ w))
    go (inl e) = inr ((c, inl (ap (λ (x : Path). c ∷ x) e)))
    go (inr (b, k)) = inr ((b, inr k))

-- the one-bit prefix
pub prefix_first : (w : Path) → 0 < length w → (b : Bool) × Prefix (b ∷ []) w
prefix_first [] h = absurd (omega arith)
prefix_first (b ∷ []) h = (b, inl refl)
prefix_first (b ∷ c ∷ w) h = let r = prefix_first (c ∷ w) (omega arith) in (r.0, inr r.1)

pub longer_differs : (b : Bool) (p : Path) → p ≡ b ∷ p → ⊥
longer_differs b p e = omega (arith, ap length e)

pub bits_differ : (p : Path) → true ∷ p ≡ false ∷ p → ⊥
bits_differ p e = subst f e tt
  where
    f : Path → Type 0
    f [] = Unit {0}
    f (true ∷ q) = Unit {0}
    f (false ∷ q) = ⊥
