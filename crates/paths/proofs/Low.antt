-- The lowest of a list is one of its numbers and none is below it; so of a path's low point. The low point of the word that a search answers is the lowest sum of all paths that it took. Assumes nothing.
use mathlib.Core.Bool.{Bool, true, false, cond}
use mathlib.Core.List.{List, [], ◌∷◌, ◌++◌, map}
use mathlib.Core.Logic.{◌⊎◌, inl, inr, ⊎_elim}
use mathlib.Core.Path.{◌≡◌, refl, ap, ◌∙◌, subst⁻¹}
use Prim.Native.Nat.{ℕ, ◌<◌}
use native.Mathlib.Omega.{arith}
use lib.IntN.{ℤ}
use lib.ListN.{length}
use lib.Signed.{lt_z, ◌≤ℤ◌, ≤ℤ_refl}
use Rattle.paths.specs.Lists.{Mem}
use Rattle.paths.specs.Paths.{Path}
use Rattle.paths.specs.Tree.{Tree, Exists, Sound}
use Rattle.paths.specs.Search.{answer, start, after, run}
use Rattle.paths.specs.Low.{lower, lowest_from, lowest, Lowest, prefixes, low_point}
use Rattle.paths.proofs.Integers.{not_below, below_is_not_above, ≤ℤ_trans, ≤ℤ_antisym}
use Rattle.paths.proofs.Lists.{in_append, of_append, in_map, of_map}
use Rattle.paths.proofs.Prefixes.{Prefix, prefix_self}
use Rattle.paths.proofs.Invariant.{Invariant}
use Rattle.paths.proofs.Steps.{after_zero}
use Rattle.paths.proofs.Arrival.{invariant_then, taken_at_number}
use Rattle.paths.proofs.Run.{answer_is_the_next}

-- ---- of lists

-- m is one of a and b, and not above either
abbrev IsLower : ℤ → ℤ → ℤ → Type 0
IsLower a b m = ((m ≡ a) ⊎ (m ≡ b)) × (m ≤ℤ a) × (m ≤ℤ b)

lower_is : (a b : ℤ) → IsLower a b (lower a b)
unfolding lower
lower_is a b = go (lt_z b a) refl
  where
    go : (t : Bool) → lt_z b a ≡ t → IsLower a b (cond t b a)
    go true e = (inr refl, below_is_not_above b a e, ≤ℤ_refl b)
    go false e = (inl refl, ≤ℤ_refl a, not_below b a e)

-- with one number more
lower_is_lowest : (xs : List ℤ) (z x : ℤ) → Lowest xs z → Lowest (x ∷ xs) (lower z x)
lower_is_lowest xs z x so = record { is_one = one low.0; none_below = λ y m. below y m }
  where
    low : IsLower z x (lower z x)
    low = lower_is z x

    one : (lower z x ≡ z) ⊎ (lower z x ≡ x) → Mem (lower z x) (x ∷ xs)
    one (inl e) = inr (subst⁻¹ (λ (y : ℤ). Mem y xs) e so.is_one)
    one (inr e) = inl e

    below : (y : ℤ) → Mem y (x ∷ xs) → lower z x ≤ℤ y
    below y (inl e) = subst⁻¹ (λ (t : ℤ). lower z x ≤ℤ t) e low.2
    below y (inr m) = ≤ℤ_trans (lower z x) z y low.1 (so.none_below y m)

lowest_from_is : (z : ℤ) (xs : List ℤ) → Lowest (z ∷ xs) (lowest_from z xs)
unfolding lowest_from
lowest_from_is z [] = record { is_one = inl refl; none_below = none }
  where
    none : (x : ℤ) → Mem x (z ∷ []) → z ≤ℤ x
    none x (inr x'') = elim x'' [ ]
    none x (inl e) = subst⁻¹ (λ (t : ℤ). z ≤ℤ t) e (≤ℤ_refl z)
lowest_from_is z (x ∷ xs) = go (lowest_from_is (lower z x) xs) (lower_is z x)
  where
    go : Lowest (lower z x ∷ xs) (lowest_from (lower z x) xs) → IsLower z x (lower z x) → Lowest (z ∷ x ∷ xs) (lowest_from (lower z x) xs)
    go so low = record { is_one = one so.is_one low.0; none_below = below }
      where
        one : Mem (lowest_from (lower z x) xs) (lower z x ∷ xs) → (lower z x ≡ z) ⊎ (lower z x ≡ x) → Mem (lowest_from (lower z x) xs) (z ∷ x ∷ xs)
        one (inl e) (inl k) = inl (e ∙ k)
        one (inl e) (inr k) = inr (inl (e ∙ k))
        one (inr h) k = inr (inr h)

        below : (y : ℤ) → Mem y (z ∷ x ∷ xs) → lowest_from (lower z x) xs ≤ℤ y
        below y (inl e) = subst⁻¹ (λ (t : ℤ). lowest_from (lower z x) xs ≤ℤ t) e (≤ℤ_trans _ (lower z x) z (so.none_below (lower z x) (inl refl)) low.1)
        below y (inr (inl e)) = subst⁻¹ (λ (t : ℤ). lowest_from (lower z x) xs ≤ℤ t) e (≤ℤ_trans _ (lower z x) x (so.none_below (lower z x) (inl refl)) low.2)
        below y (inr (inr h)) = so.none_below y (inr h)

-- there is one
pub one_lowest : (xs : List ℤ) (z y : ℤ) → Lowest xs z → Lowest xs y → z ≡ y
one_lowest xs z y a b = ≤ℤ_antisym z y (a.none_below y b.is_one) (b.none_below z a.is_one)

-- of a list of some
pub lowest_is : (xs : List ℤ) → 0 < length xs → Lowest xs (lowest xs)
unfolding lowest
lowest_is [] h = absurd (omega arith)
lowest_is (x ∷ xs) h = lowest_from_is x xs

lowest_is_unique : (xs : List ℤ) (y z : ℤ) → Lowest xs y → Lowest xs z → y ≡ z
lowest_is_unique xs y z low so = ≤ℤ_antisym y z (low.none_below z so.is_one) (so.none_below y low.is_one)

-- of two lists, one after the other
pub lowest_from_append : (z : ℤ) (xs ys : List ℤ) → lowest_from z (xs ++ ys) ≡ lowest_from (lowest_from z xs) ys
unfolding lowest_from
lowest_from_append z [] ys = refl
lowest_from_append z (x ∷ xs) ys = lowest_from_append (lower z x) xs ys

-- a number that none is above counts for nothing
pub lowest_from_above : (z : ℤ) (xs : List ℤ) → 0 < length xs → ((x : ℤ) → Mem x xs → x ≤ℤ z) → lowest_from z xs ≡ lowest xs
unfolding lowest lowest_from
lowest_from_above z [] some above = absurd (omega arith)
lowest_from_above z (x ∷ xs) some above = ap (λ (y : ℤ). lowest_from y xs) (≤ℤ_antisym (lower z x) x low.2 (go low.0))
  where
    low : IsLower z x (lower z x)
    low = lower_is z x

    go : (lower z x ≡ z) ⊎ (lower z x ≡ x) → x ≤ℤ lower z x
    go (inl e) = subst⁻¹ (λ (y : ℤ). x ≤ℤ y) e (above x (inl refl))
    go (inr e) = subst⁻¹ (λ (y : ℤ). x ≤ℤ y) e (≤ℤ_refl x)

-- ---- of a path

prefix_in : (r w : Path) → Prefix r w → Mem r (prefixes w)
unfolding prefixes
prefix_in r [] x' = elim x' [ ]
prefix_in r (b ∷ w) (inl e) = inl e
prefix_in r (b ∷ w) (inr h) = inr (prefix_in r w h)

in_prefix : (r w : Path) → Mem r (prefixes w) → Prefix r w
unfolding prefixes
in_prefix r [] m = m
in_prefix r (b ∷ w) (inl e) = inl e
in_prefix r (b ∷ w) (inr m) = inr (in_prefix r w m)

low_point_is_lowest : (sum : Path → ℤ) (w : Path) → 0 < length w → Lowest (map sum (prefixes w)) (low_point sum w)
unfolding low_point prefixes
low_point_is_lowest sum [] some = absurd (omega arith)
low_point_is_lowest sum (b ∷ w) some = lowest_is (map sum (prefixes (b ∷ w))) (omega arith)

module _ (sum : Path → ℤ) (w : Path) (some : 0 < length w) where
  -- some prefix has the low point, and none has less
  pub some_prefix_has_the_low_point : (r : Path) × Prefix r w × (low_point sum w ≡ sum r)
  some_prefix_has_the_low_point = let m = of_map sum (low_point sum w) (prefixes w) (low_point_is_lowest sum w some).is_one in (m.0, in_prefix m.0 w m.2, m.1)

  pub no_prefix_is_below_the_low_point : (r : Path) → Prefix r w → low_point sum w ≤ℤ sum r
  no_prefix_is_below_the_low_point r h = (low_point_is_lowest sum w some).none_below (sum r) (in_map sum r (prefixes w) (prefix_in r w h))

-- one bit, and one bit more
pub low_point_of_one : (sum : Path → ℤ) (b : Bool) → low_point sum (b ∷ []) ≡ sum (b ∷ [])
unfolding low_point prefixes lowest lowest_from
low_point_of_one sum b = refl

pub low_point_of_one_more : (sum : Path → ℤ) (b : Bool) (w : Path) → 0 < length w → low_point sum (b ∷ w) ≡ lower (low_point sum w) (sum (b ∷ w))
unfolding prefixes
low_point_of_one_more sum b w some =
    lowest_is_unique (map sum (prefixes (b ∷ w))) (low_point sum (b ∷ w)) (lower (low_point sum w) (sum (b ∷ w))) (low_point_is_lowest sum (b ∷ w) (omega arith))
    (lower_is_lowest (map sum (prefixes w)) (low_point sum w) (sum (b ∷ w)) (low_point_is_lowest sum w some))

-- ---- of a search

-- z is the lowest sum of the paths taken, or the number z₀ that the search began with
abbrev pub LowSoFar : Tree → ℤ → List Path → ℤ → Type 0
LowSoFar t z₀ taken z = Lowest (map t.sum taken ++ (z₀ ∷ [])) z

pub low_at_start : (t : Tree) (z₀ : ℤ) → LowSoFar t z₀ [] z₀
unfolding lowest_from
low_at_start t z₀ = lowest_from_is z₀ []

pub low_of_one_more : (t : Tree) (z₀ : ℤ) (taken : List Path) (p : Path) (z : ℤ) → LowSoFar t z₀ taken z → LowSoFar t z₀ (p ∷ taken) (lower z (t.sum p))
low_of_one_more t z₀ taken p z so = lower_is_lowest (map t.sum taken ++ (z₀ ∷ [])) z (t.sum p) so

-- w comes next: its prefixes are taken, and each path taken has a sum not below that of some prefix of w
pub record Led (t : Tree) (taken : List Path) (w : Path) : Type 0 where
  pub there : Exists t w
  pub below : (r : Path) → Prefix r w → Mem r (w ∷ taken)
  pub above : (p : Path) → Mem p taken → (r : Path) × Prefix r w × (t.sum r ≤ℤ t.sum p)

module _ (t : Tree) (taken : List Path) (w : Path) (led : Led t taken w) where
  above_some_prefix : (p : Path) → Mem p (w ∷ taken) → (r : Path) × Prefix r w × (t.sum r ≤ℤ t.sum p)
  above_some_prefix p (inl e) = (w, prefix_self w led.there.some_bit, subst⁻¹ (λ (x : Path). t.sum w ≤ℤ t.sum x) e (≤ℤ_refl (t.sum w)))
  above_some_prefix p (inr m) = led.above p m

  lowest_of_taken : Lowest (map t.sum (w ∷ taken)) (low_point t.sum w)
  lowest_of_taken =
      let r = some_prefix_has_the_low_point t.sum w led.there.some_bit in
      record {
        is_one = subst⁻¹ (λ (z : ℤ). Mem z (map t.sum (w ∷ taken))) r.2 (in_map t.sum r.0 (w ∷ taken) (led.below r.0 r.1));
        none_below = λ z m.
            let p = of_map t.sum z (w ∷ taken) m in
            let q = above_some_prefix p.0 p.2 in
            subst⁻¹ (λ (x : ℤ). low_point t.sum w ≤ℤ x) p.1 (≤ℤ_trans _ (t.sum q.0) (t.sum p.0) (no_prefix_is_below_the_low_point t.sum w led.there.some_bit q.0 q.1) q.2);
      }

  -- a number that is not below w's sum counts for nothing
  pub lowest_so_far_is_the_low_point : (z₀ z : ℤ) → t.sum w ≤ℤ z₀ → LowSoFar t z₀ (w ∷ taken) z → z ≡ low_point t.sum w
  lowest_so_far_is_the_low_point z₀ z high so =
      let sums = map t.sum (w ∷ taken) in
      ≤ℤ_antisym z (low_point t.sum w) (so.none_below (low_point t.sum w) (in_append (low_point t.sum w) sums (z₀ ∷ []) (inl lowest_of_taken.is_one))) (above (of_append z sums (z₀ ∷ []) so.is_one))
    where
      above : Mem z (map t.sum (w ∷ taken)) ⊎ Mem z (z₀ ∷ []) → low_point t.sum w ≤ℤ z
      above (inr (inr x'')) = elim x'' [ ]
      above (inl m) = lowest_of_taken.none_below z m
      above (inr (inl e)) = subst⁻¹ (λ (x : ℤ). low_point t.sum w ≤ℤ x) e (≤ℤ_trans _ (t.sum w) z₀ (lowest_of_taken.none_below (t.sum w) (inl refl)) high)

module _ (t : Tree) (sound : Sound t) where
  -- Until w is taken one of its prefixes is on the stack, so each path taken has a sum not below that of some prefix of w; and all prefixes of w are taken.
  pub led_by_the_search : (taken rest : List Path) (w : Path) → Invariant t taken (w ∷ rest) → Led t taken w
  led_by_the_search taken rest w i =
      let there = i.there w (inr (inl refl)) in
      record {
        there = there;
        below = λ r h. i.below w r (inr (inl refl)) h;
        above = λ p m. ⊎_elim (λ k. (p, k, ≤ℤ_refl (t.sum p))) (λ k. (k.0, k.1, sound.sums_fall p k.0 k.2)) (i.leads p w m there (i.apart w (inl refl)));
      }

  -- the law of the search: with any accepted set and limit, the low point of the word that it answers is the lowest sum of all paths that it took
  pub low_point_is_the_lowest_taken : (accept : Path → Bool) (limit : ℕ) (w : Path) (c : ℕ) → run t accept limit (start t) ≡ answer w c
      → Lowest (map t.sum (after t c).taken) (low_point t.sum w)
  low_point_is_the_lowest_taken accept limit w c e =
      let next = answer_is_the_next t sound accept limit 0 w c (ap (run t accept limit) (after_zero t) ∙ e) in
      let full = next.0.full in
      subst⁻¹ (λ (l : List Path). Lowest (map t.sum l) (low_point t.sum w)) (ap (λ (k : ℕ). (after t k).taken) next.1 ∙ taken_at_number t sound w full)
      (lowest_of_taken t _ w (led_by_the_search _ _ w (invariant_then t sound w full)))
