-- Keys at places as a list in the order: one goes in, the first comes out. Assumes nothing.
use Prim.Native.Nat.{ℕ, zero, suc, ◌+◌, ◌-◌, ◌≤◌, ◌<◌}
use native.Mathlib.Omega.{arith}
use mathlib.Core.Bool.{Bool, true, false, cond, ◌||◌}
use mathlib.Core.List.{List, [], ◌∷◌}
use mathlib.Core.Logic.{◌⊎◌, inl, inr}
use mathlib.Core.Path.{◌≡◌, refl, sym, ap, ap₂, ◌∙◌, subst}
use lib.Dec.{eqb}
use borrow.Author.Tests.{eq-eqb, ne_eqb}
use lib.ListN.{length, take}
use lib.Seq.{take_all}
use Rattle.paths.specs.Stack.{insert}
use Rattle.paths.specs.Bounded.{Bounded, bounded}
use Rattle.paths.proofs.Booleans.{or_false}
use Rattle.paths.proofs.Stack.{insert_length}
use Rattle.heap.specs.Holds.{weigh_list, AllAfter, Ordered}
use Rattle.heap.proofs.Lists.{one_ordered_list}
use Rattle.trellis.specs.Keys.{Key, key_before}
use Rattle.stack.specs.Places.{Upto}
use Rattle.stack.proofs.KeyOrder.{key_dec, upto_same, upto_anti, upto_trans}
use Rattle.extension.proofs.Growing.{ordered_insert, weigh_insert}
use Rattle.chip.specs.Places.{listed, ordering, placed, Standing}

-- ---- lists of places

pub listed_length : (f : ℕ → Key) (n : ℕ) → length (listed f n) ≡ n
unfolding listed
listed_length f zero = refl
listed_length f (suc n) = ap suc (listed_length f n)

listed_last : (f : ℕ → Key) (n : ℕ) → 0 < n → listed f n ≡ f (n - 1) ∷ listed f (n - 1)
unfolding listed
listed_last f n some = let e : n ≡ suc (n - 1) = omega arith in ap (listed f) e

pub first_out : (f : ℕ → Key) (n : ℕ) (y : Key) → 0 < n → y ≡ f (n - 1) → listed f n ≡ y ∷ listed f (n - 1)
first_out f n y some q = listed_last f n some ∙ ap (λ (z : Key). z ∷ listed f (n - 1)) (sym q)

pub rest_ordered : (f : ℕ → Key) (n : ℕ) → 0 < n → Ordered Upto (listed f n) → Ordered Upto (listed f (n - 1))
rest_ordered f n some o = (subst (Ordered Upto) (listed_last f n some) o).1

-- ---- x goes in

pub placed_length : (x : Key) (xs : List Key) → length (placed x xs) ≡ suc (length xs)
unfolding placed
placed_length x xs = insert_length ordering x xs

pub ordered_placed : (x : Key) (xs : List Key) → Ordered Upto xs → Ordered Upto (placed x xs)
unfolding placed
ordered_placed x xs o = ordered_insert (λ b k. k) (λ k. true) (λ k. false) x xs o

pub swap_placed : (x y : Key) (xs : List Key) → Ordered Upto xs → placed x (placed y xs) ≡ placed y (placed x xs)
unfolding placed
swap_placed x y xs o =
    one_ordered_list Upto key_dec upto_same upto_anti upto_trans (placed x (placed y xs)) (placed y (placed x xs))
    (ordered_placed x (placed y xs) (ordered_placed y xs o)) (ordered_placed y (placed x xs) (ordered_placed x xs o))
    (λ h. omega (arith, weight h x (placed y xs), weight h y xs, weight h y (placed x xs), weight h x xs))
  where
    weight : (h : Key → ℕ) (z : Key) (zs : List Key) → weigh_list h (placed z zs) ≡ h z + weigh_list h zs
    weight h z zs = weigh_insert (λ b k. k) (λ k. true) (λ k. false) h z zs

-- the first of x and the others is x, or stands before it
pub first_placed : (x r : Key) (xs rest : List Key) → placed x xs ≡ r ∷ rest → (r ≡ x) ⊎ (key_before r x ≡ true)
unfolding placed insert
first_placed x r [] rest e = let q : x ≡ r = cc e in inl (sym q)
first_placed x r (z ∷ zs) rest e = go (key_before z x) refl e
  where
    go : (b : Bool) → key_before z x ≡ b → cond b (z ∷ insert ordering x zs) (x ∷ z ∷ zs) ≡ r ∷ rest → (r ≡ x) ⊎ (key_before r x ≡ true)
    go true h k = let q : z ≡ r = cc k in inr (subst (λ (u : Key). key_before u x ≡ true) q h)
    go false h k = let q : x ≡ r = cc k in inl (sym q)

pub placed_after : (r y : Key) (xs : List Key) → key_before r y ≡ true → placed y (r ∷ xs) ≡ r ∷ placed y xs
unfolding placed insert
placed_after r y xs e = rw e

-- ---- what the methods do

-- what the fields say of the list
module _ (f : ℕ → Key) (n : ℕ) (lost : Bool) (s : Bounded Key) (e : bounded (listed f n) lost ≡ s) where
  pub many : length s.stack ≡ n
  many = ap (λ (b : Bounded Key). length b.stack) (sym e) ∙ listed_length f n

  pub standing_of : n ≤ 63 → Ordered Upto (listed f n) → Standing s.stack
  standing_of few o = record { few = omega (arith, many); ordered = subst (λ (b : Bounded Key). Ordered Upto b.stack) e o }

-- a list in the order that is cut
pub ordered_take : (k : ℕ) (xs : List Key) → Ordered Upto xs → Ordered Upto (take k xs)
ordered_take zero xs o = tt
ordered_take (suc k) [] o = tt
ordered_take (suc k) (x ∷ xs) o = (after k xs o.0, ordered_take k xs o.1)
  where
    after : (k : ℕ) (ys : List Key) → AllAfter Upto x ys → AllAfter Upto x (take k ys)
    after zero ys a = tt
    after (suc k) [] a = tt
    after (suc k) (y ∷ ys) a = (a.0, after k ys a.1)

-- the last of 63 is pushed out
pub settled_full : (lost : Bool) (x : Key) (xs : List Key) → length xs ≡ 63 → bounded (take 63 (placed x xs)) true ≡ bounded (take 63 (placed x xs)) (lost || eqb (length xs) 63)
settled_full lost x xs e = ap (bounded (take 63 (placed x xs))) (sym (ap (λ (b : Bool). lost || b) (eq-eqb (length xs) 63 e) ∙ or_true lost))
  where
    or_true : (b : Bool) → (b || true) ≡ true
    or_true true = refl
    or_true false = refl

-- or there is a place
pub settled_in : (lost : Bool) (x : Key) (xs : List Key) → length xs < 63 → bounded (placed x xs) lost ≡ bounded (take 63 (placed x xs)) (lost || eqb (length xs) 63)
settled_in lost x xs l =
    ap₂ bounded (sym (take_all 63 (placed x xs) (omega (arith, placed_length x xs)))) (sym (ap (λ (b : Bool). lost || b) (ne_eqb (length xs) 63 (omega arith)) ∙ or_false lost))

pub exchanged_none : (f : ℕ → Key) (n : ℕ) (x : Key) → n ≡ 0 → placed x (listed f n) ≡ x ∷ listed f n
unfolding placed insert listed
exchanged_none f n x e = ap (λ (m : ℕ). placed x (listed f m)) e ∙ ap (λ (m : ℕ). x ∷ listed f m) (sym e)

pub exchanged_not : (f : ℕ → Key) (n : ℕ) (x : Key) → 0 < n → key_before (f (n - 1)) x ≡ false → placed x (listed f n) ≡ x ∷ listed f n
unfolding placed insert
exchanged_not f n x some h =
    ap (placed x) (listed_last f n some)
    ∙ ap (λ (b : Bool). cond b (f (n - 1) ∷ insert ordering x (listed f (n - 1))) (x ∷ f (n - 1) ∷ listed f (n - 1))) h
    ∙ ap (λ (l : List Key). x ∷ l) (sym (listed_last f n some))

pub exchanged_first : (f : ℕ → Key) (n : ℕ) (x y : Key) → 0 < n → y ≡ f (n - 1) → key_before y x ≡ true → placed x (listed f n) ≡ y ∷ placed x (listed f (n - 1))
exchanged_first f n x y some q h = ap (placed x) (first_out f n y some q) ∙ placed_after y x (listed f (n - 1)) h
