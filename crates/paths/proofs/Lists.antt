-- Lists with the same members, and those members that pass a test. Assumes nothing.
use mathlib.Core.Bool.{Bool, true, false, cond, ◌&&◌, ◌||◌}
use mathlib.Core.List.{List, [], ◌∷◌, ◌++◌, map}
use mathlib.Core.Logic.{◌⊎◌, inl, inr, ⊎_elim}
use mathlib.Core.Path.{◌≡◌, refl, sym, ap, ◌∙◌, subst, subst⁻¹}
use Prim.Native.Nat.{ℕ, zero, suc, ◌+◌, ◌≤◌}
use native.Mathlib.Omega.{arith}
use native.Mathlib.Nat.{le_antisymm}
use native.Mathlib.Decide.{dec_le}
use lib.ListN.{length, replicate}
use Rattle.paths.specs.Lists.{Mem, NoRepeats, filter}
use Rattle.paths.proofs.Booleans.{not_both}

pub in_map : {A B : Type 0} (f : A → B) (x : A) (l : List A) → Mem x l → Mem (f x) (map f l)
in_map {A = A} {B = B} f x [] x'' = elim x'' [ ]
in_map f x (y ∷ l) (inl e) = inl (ap f e)
in_map f x (y ∷ l) (inr m) = inr (in_map f x l m)

pub of_map : {A B : Type 0} (f : A → B) (y : B) (l : List A) → Mem y (map f l) → (x : A) × (y ≡ f x) × Mem x l
of_map {A = A} {B = B} f y [] x' = elim x' [ ]
of_map f y (x ∷ l) (inl e) = (x, e, inl refl)
of_map f y (x ∷ l) (inr m) = let r = of_map f y l m in (r.0, r.1, inr r.2)

pub map_replicate : {A B : Type 0} (f : A → B) (n : ℕ) (x : A) → map f (replicate n x) ≡ replicate n (f x)
map_replicate f zero x = refl
map_replicate f (suc n) x = ap (◌∷◌ (f x)) (map_replicate f n x)

-- what keeps different things different makes no repeats
pub map_no_repeats : {A B : Type 0} (f : A → B) (l : List A) → ((x y : A) → f x ≡ f y → x ≡ y) → NoRepeats l → NoRepeats (map f l)
map_no_repeats f [] apart n = tt
map_no_repeats f (x ∷ l) apart n = (λ m. let r = of_map f (f x) l m in n.0 (rw (apart x r.0 r.1) r.2), map_no_repeats f l apart n.1)

pub filter_map : {A B : Type 0} (test : B → Bool) (f : A → B) (l : List A) → filter test (map f l) ≡ map f (filter (λ x. test (f x)) l)
unfolding filter
filter_map test f [] = refl
filter_map test f (x ∷ l) = go (test (f x)) (filter_map test f l)
  where
    go : (b : Bool) → filter test (map f l) ≡ map f (filter (λ y. test (f y)) l)
        → cond b (f x ∷ filter test (map f l)) (filter test (map f l)) ≡ map f (cond b (x ∷ filter (λ y. test (f y)) l) (filter (λ y. test (f y)) l))
    go true ih = ap (◌∷◌ (f x)) ih
    go false ih = ih

module _ {A : Type 0} where
  pub in_append : (x : A) (a b : List A) → Mem x a ⊎ Mem x b → Mem x (a ++ b)
  in_append x [] b (inl x3) = elim x3 [ ]
  in_append x [] b (inr m) = m
  in_append x (y ∷ a) b (inl (inl e)) = inl e
  in_append x (y ∷ a) b (inl (inr m)) = inr (in_append x a b (inl m))
  in_append x (y ∷ a) b (inr m) = inr (in_append x a b (inr m))

  pub of_append : (x : A) (a b : List A) → Mem x (a ++ b) → Mem x a ⊎ Mem x b
  of_append x [] b m = inr m
  of_append x (y ∷ a) b (inl e) = inl (inl e)
  of_append x (y ∷ a) b (inr m) = ⊎_elim (λ k. inl (inr k)) (λ k. inr k) (of_append x a b m)

  pub append_no_repeats : (a b : List A) → NoRepeats a → NoRepeats b → ((x : A) → Mem x a → Mem x b → ⊥) → NoRepeats (a ++ b)
  append_no_repeats [] b na nb apart = nb
  append_no_repeats (x ∷ a) b na nb apart =
      (λ m. ⊎_elim na.0 (apart x (inl refl)) (of_append x a b m), append_no_repeats a b na.1 nb (λ y m. apart y (inr m)))

  -- the list without its first x
  data Without (x : A) (l : List A) : Type 0 where
    without : (r : List A) → suc (length r) ≡ length l → ((z : A) → Mem z l → (z ≡ x) ⊎ Mem z r) → Without x l

  take_out : (x : A) (l : List A) → Mem x l → Without x l
  take_out x [] x'' = elim x'' [ ]
  take_out x (y ∷ l) (inl e) = without l refl (λ z m. ⊎_elim (λ k. inl (k ∙ sym e)) (λ k. inr k) m)
  take_out x (y ∷ l) (inr m) = more (take_out x l m)
    where
      more : Without x l → Without x (y ∷ l)
      more (without r e h) = without (y ∷ r) (ap suc e) (λ z k. ⊎_elim (λ i. inr (inl i)) (λ i. ⊎_elim (λ j. inl j) (λ j. inr (inr j)) (h z i)) k)

  -- a list without repeats is no longer than a list that has all its members
  pub no_repeats_le : (a b : List A) → NoRepeats a → ((x : A) → Mem x a → Mem x b) → length a ≤ length b
  no_repeats_le [] b na h = omega arith
  no_repeats_le (x ∷ a) b na h = go (take_out x b (h x (inl refl))) (λ r k. no_repeats_le a r na.1 k)
    where
      go : Without x b → ((r : List A) → ((z : A) → Mem z a → Mem z r) → length a ≤ length r) → suc (length a) ≤ length b
      go (without r e k) ih =
          omega (
            arith,
            ih r (λ z m. ⊎_elim (λ i. absurd (na.0 (subst (λ (y : A). Mem y a) i m))) (λ i. i) (k z (h z (inr m)))),
          )

  pub same_members_length : (a b : List A) → NoRepeats a → NoRepeats b → ((x : A) → Mem x a → Mem x b) → ((x : A) → Mem x b → Mem x a) → length a ≡ length b
  same_members_length a b na nb h k = le_antisymm (no_repeats_le a b na h) (no_repeats_le b a nb k)

  pub of_filter : (test : A → Bool) (l : List A) (z : A) → Mem z (filter test l) → Mem z l × (test z ≡ true)
  unfolding filter
  of_filter test [] z m = elim m [ ]
  of_filter test (x ∷ xs) z m = go (test x) refl m (of_filter test xs z)
    where
      go : (b : Bool) → test x ≡ b → Mem z (cond b (x ∷ filter test xs) (filter test xs)) → (Mem z (filter test xs) → Mem z xs × (test z ≡ true)) → Mem z (x ∷ xs) × (test z ≡ true)
      go true e (inl k) ih = (inl k, subst⁻¹ (λ (y : A). test y ≡ true) k e)
      go true e (inr k) ih = (inr (ih k).0, (ih k).1)
      go false e k ih = (inr (ih k).0, (ih k).1)

  pub in_filter : (test : A → Bool) (l : List A) (z : A) → Mem z l → test z ≡ true → Mem z (filter test l)
  unfolding filter
  in_filter test [] z m h = elim m [ ]
  in_filter test (x ∷ xs) z m h = go (test x) refl m (λ k. in_filter test xs z k h)
    where
      go : (b : Bool) → test x ≡ b → (z ≡ x) ⊎ Mem z xs → (Mem z xs → Mem z (filter test xs)) → Mem z (cond b (x ∷ filter test xs) (filter test xs))
      go true e (inl k) ih = inl k
      go true e (inr k) ih = inr (ih k)
      go false e (inl k) ih = absurd (not_both (test x) e (subst (λ (y : A). test y ≡ true) k h))
      go false e (inr k) ih = ih k

  pub filter_no_repeats : (test : A → Bool) (l : List A) → NoRepeats l → NoRepeats (filter test l)
  unfolding filter
  filter_no_repeats test [] n = tt
  filter_no_repeats test (x ∷ xs) n = go (test x) (filter_no_repeats test xs n.1)
    where
      go : (b : Bool) → NoRepeats (filter test xs) → NoRepeats (cond b (x ∷ filter test xs) (filter test xs))
      go true ih = (λ m. n.0 (of_filter test xs x m).0, ih)
      go false ih = ih

  pub filter_append : (test : A → Bool) (a b : List A) → filter test (a ++ b) ≡ filter test a ++ filter test b
  unfolding filter
  filter_append test [] b = refl
  filter_append test (x ∷ a) b = go (test x) (filter_append test a b)
    where
      go : (c : Bool) → filter test (a ++ b) ≡ filter test a ++ filter test b → cond c (x ∷ filter test (a ++ b)) (filter test (a ++ b)) ≡ cond c (x ∷ filter test a) (filter test a) ++ filter test b
      go true ih = ap (◌∷◌ x) ih
      go false ih = ih

  -- where a test is one of two that are never both true, the numbers that pass add up
  pub filter_sum : (whole left right : A → Bool) (l : List A) → ((x : A) → Mem x l → whole x ≡ (left x || right x)) → ((x : A) → (left x && right x) ≡ false)
      → length (filter whole l) ≡ length (filter left l) + length (filter right l)
  unfolding filter
  filter_sum whole left right [] either apart = refl
  filter_sum whole left right (x ∷ xs) either apart =
      ap (λ (b : Bool). length (cond b (x ∷ filter whole xs) (filter whole xs))) (either x (inl refl))
      ∙ go (left x) (right x) (apart x) (filter_sum whole left right xs (λ y m. either y (inr m)) apart)
    where
      go : (b c : Bool) → (b && c) ≡ false → length (filter whole xs) ≡ length (filter left xs) + length (filter right xs)
          → length (cond (b || c) (x ∷ filter whole xs) (filter whole xs))
          ≡ length (cond b (x ∷ filter left xs) (filter left xs)) + length (cond c (x ∷ filter right xs) (filter right xs))
      go true true e ih = absurd (not_both true e refl)
      go true false e ih = omega arith
      go false true e ih = omega arith
      go false false e ih = ih

  -- of a list with a member, the member of least value
  pub least : (value : A → ℕ) (x : A) (l : List A) → Mem x l → (y : A) × Mem y l × ((z : A) → Mem z l → value y ≤ value z)
  least value x [] m = elim m [ ]
  least value x (a ∷ []) m = (a, inl refl, λ z k. only z k)
    where
      only : (z : A) → (z ≡ a) ⊎ ⊥ → value a ≤ value z
      only z (inr x6) = elim x6 [ ]
      only z (inl e) = omega (arith, ap value e)
  least value x (a ∷ b ∷ l) m = go (least value b (b ∷ l) (inl refl))
    where
      go : (y : A) × Mem y (b ∷ l) × ((z : A) → Mem z (b ∷ l) → value y ≤ value z)
          → (y : A) × Mem y (a ∷ b ∷ l) × ((z : A) → Mem z (a ∷ b ∷ l) → value y ≤ value z)
      go (y, m, h) = two (dec_le (value a) (value y))
        where
          two : Dec (value a ≤ value y) → (y : A) × Mem y (a ∷ b ∷ l) × ((z : A) → Mem z (a ∷ b ∷ l) → value y ≤ value z)
          two (yes le) = (a, inl refl, λ z k. ⊎_elim (λ e. omega (arith, ap value e)) (λ i. omega (arith, h z i)) k)
          two (no nle) = (y, inr m, λ z k. ⊎_elim (λ e. omega (arith, ap value e)) (h z) k)
