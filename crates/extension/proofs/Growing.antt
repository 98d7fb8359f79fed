-- What the growth of a stack of keys weighs, and that it keeps the order. Assumes nothing.
use Prim.Native.Nat.{ℕ, ◌+◌}
use native.Mathlib.Omega.{arith}
use mathlib.Core.Bool.{Bool, true, false, cond}
use mathlib.Core.List.{List, [], ◌∷◌}
use mathlib.Core.Path.{◌≡◌, refl, ◌∙◌}
use Rattle.paths.specs.Stack.{Nodes, insert, push, extend, grow}
use Rattle.heap.specs.Holds.{weigh_list, AllAfter, Ordered}
use Rattle.trellis.specs.Keys.{Key, key_before}
use Rattle.stack.specs.Places.{Upto}
use Rattle.stack.proofs.KeyOrder.{upto_not, upto_trans}

module _ (E : Bool → Key → Key) (X F : Key → Bool) where
  abbrev pub N : Nodes Key
  N = record { extension = E; sum = λ k. k.sum; before = key_before; exists = X; full = F }

  after_cond : (t : Bool) (y : Key) (a b : List Key) → AllAfter Upto y a → AllAfter Upto y b → AllAfter Upto y (cond t a b)
  after_cond true y a b p q = p
  after_cond false y a b p q = q

  after_insert : (x y : Key) (st : List Key) → Upto y x → AllAfter Upto y st → AllAfter Upto y (insert N x st)
  unfolding insert
  after_insert x y [] e a = (e, tt)
  after_insert x y (z ∷ zs) e a = after_cond (key_before z x) y _ _ (a.0, after_insert x y zs e a.1) (e, a)

  after_all : (x y : Key) (ys : List Key) → Upto x y → AllAfter Upto y ys → AllAfter Upto x ys
  after_all x y [] e a = tt
  after_all x y (z ∷ zs) e a = (upto_trans x y z e a.0, after_all x y zs e a.1)

  pub ordered_insert : (x : Key) (st : List Key) → Ordered Upto st → Ordered Upto (insert N x st)
  unfolding insert
  ordered_insert x [] o = (tt, tt)
  ordered_insert x (y ∷ ys) o = go (key_before y x) refl (ordered_insert x ys o.1)
    where
      go : (t : Bool) → key_before y x ≡ t → Ordered Upto (insert N x ys) → Ordered Upto (cond t (y ∷ insert N x ys) (x ∷ y ∷ ys))
      go true e ih = (after_insert x y ys (upto_not y x e) o.0, ih)
      go false e ih = ((e, after_all x y ys e o.0), o)

  ordered_push : (x : Key) (st : List Key) → Ordered Upto st → Ordered Upto (push N x st)
  unfolding push
  ordered_push x st o = go (X x)
    where
      go : (t : Bool) → Ordered Upto (cond t (insert N x st) st)
      go true = ordered_insert x st o
      go false = o

  pub ordered_grow : (p : Key) (st : List Key) → Ordered Upto st → Ordered Upto (grow N p st)
  unfolding grow extend
  ordered_grow p st o = go (F p)
    where
      go : (t : Bool) → Ordered Upto (cond t st (push N (E true p) (push N (E false p) st)))
      go true = o
      go false = ordered_push (E true p) _ (ordered_push (E false p) st o)

  pub weigh_insert : (h : Key → ℕ) (x : Key) (xs : List Key) → weigh_list h (insert N x xs) ≡ h x + weigh_list h xs
  unfolding weigh_list insert
  weigh_insert h x [] = refl
  weigh_insert h x (y ∷ ys) = go (key_before y x) (weigh_insert h x ys)
    where
      go : (t : Bool) → weigh_list h (insert N x ys) ≡ h x + weigh_list h ys → weigh_list h (cond t (y ∷ insert N x ys) (x ∷ y ∷ ys)) ≡ h x + (h y + weigh_list h ys)
      go true ih = omega (arith, ih)
      go false ih = refl

  weigh_in : (h : Key → ℕ) (x : Key) (xs : List Key) → X x ≡ true → weigh_list h (push N x xs) ≡ h x + weigh_list h xs
  unfolding push
  weigh_in h x xs e = rw e (weigh_insert h x xs)

  weigh_not : (h : Key → ℕ) (x : Key) (xs : List Key) → X x ≡ false → weigh_list h (push N x xs) ≡ weigh_list h xs
  unfolding push
  weigh_not h x xs e = rw e

  weigh_extend : (h : Key → ℕ) (p : Key) (xs : List Key) → F p ≡ false → weigh_list h (grow N p xs) ≡ weigh_list h (push N (E true p) (push N (E false p) xs))
  unfolding grow extend
  weigh_extend h p xs e = rw e

  pub weigh_full : (h : Key → ℕ) (p : Key) (xs : List Key) → F p ≡ true → weigh_list h (grow N p xs) ≡ weigh_list h xs
  unfolding grow
  weigh_full h p xs e = rw e

  module _ (p : Key) (part : F p ≡ false) where
    pub weigh_none : X (E false p) ≡ false → X (E true p) ≡ false → (h : Key → ℕ) (xs : List Key) → weigh_list h (grow N p xs) ≡ weigh_list h xs
    weigh_none a b h xs = weigh_extend h p xs part ∙ weigh_not h (E true p) _ b ∙ weigh_not h (E false p) xs a

    pub weigh_one : (t u : Bool) → (X (E t p) ≡ true) → (X (E u p) ≡ false) → (t ≡ u → ⊥) → (h : Key → ℕ) (xs : List Key) → weigh_list h (grow N p xs) ≡ weigh_list h xs + h (E t p)
    weigh_one true true a b n h xs = absurd (n refl)
    weigh_one true false a b n h xs = weigh_extend h p xs part ∙ omega (arith, weigh_in h (E true p) (push N (E false p) xs) a, weigh_not h (E false p) xs b)
    weigh_one false true a b n h xs = weigh_extend h p xs part ∙ omega (arith, weigh_not h (E true p) (push N (E false p) xs) b, weigh_in h (E false p) xs a)
    weigh_one false false a b n h xs = absurd (n refl)

    pub weigh_both : (t u : Bool) → (X (E false p) ≡ true) → (X (E true p) ≡ true) → (t ≡ u → ⊥) → (h : Key → ℕ) (xs : List Key) → weigh_list h (grow N p xs) ≡ weigh_list h xs + (h (E t p) + h (E u p))
    weigh_both true true a b n h xs = absurd (n refl)
    weigh_both true false a b n h xs = weigh_extend h p xs part ∙ omega (arith, weigh_in h (E true p) (push N (E false p) xs) b, weigh_in h (E false p) xs a)
    weigh_both false true a b n h xs = weigh_extend h p xs part ∙ omega (arith, weigh_in h (E true p) (push N (E false p) xs) b, weigh_in h (E false p) xs a)
    weigh_both false false a b n h xs = absurd (n refl)
