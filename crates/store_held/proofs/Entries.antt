-- The entries of a store and what its names hold. Assumes nothing.
use Prim.Native.Nat.{ℕ, zero, suc, ◌<◌, ◌≤◌}
use native.Mathlib.Omega.{arith}
use mathlib.Core.Bool.{Bool, true, false, cond}
use mathlib.Core.List.{List, [], ◌∷◌, map}
use mathlib.Core.Logic.{◌⊎◌, inl, inr}
use mathlib.Core.Path.{◌≡◌, refl, sym, ap, ◌∙◌, subst⁻¹}
use lib.Dec.{eqb, leb}
use lib.ListN.{length, set, length-set, get_or-map}
use lib.Seq.{get_or-set_same, get_or-set_other}
use borrow.Author.Tests.{eqb-true, eqb-false, ne_eqb, le-leb, lt-leb}
use Rattle.held.specs.Entry.{nothing_held}
use Rattle.held.specs.State.{Stopped}
use Rattle.held.specs.declared.Held.{Held}
use Rattle.store_held.specs.Names.{free, kept, under, is_kept, summed_limit, none_kept}
use Rattle.store_held.specs.Calls.{empty_store, entry, with_entry, kept_of, names_of, Made, MadeStore}
use Rattle.store_held.specs.declared.Store.{Store}

-- ---- what the names hold

map_set : {A B : Type 0} (f : A → B) (l : List A) (k : ℕ) (a : A) → map f (set l k a) ≡ set (map f l) k (f a)
map_set f [] k a = refl
map_set f (x ∷ l) zero a = refl
map_set f (x ∷ l) (suc k) a = ap (λ (m : List _). f x ∷ m) (map_set f l k a)

pub names_with : (s : Store) (k : ℕ) (h : Held) → names_of (with_entry s k h) ≡ set (names_of s) k (kept_of h)
names_with s k h = map_set kept_of s.names k h

pub under_is : (s : Store) (k : ℕ) → under (names_of s) k ≡ kept_of (entry s k)
unfolding kept_of
under_is s k = get_or-map kept_of s.names k _

pub summed_is : (h : Held) → summed_limit (kept_of h) ≡ h.limit
unfolding kept_of
summed_is h = go (eqb h.limit 0) refl
  where
    go : (b : Bool) → eqb h.limit 0 ≡ b → summed_limit (cond b free (kept h.column h.level h.limit)) ≡ h.limit
    go true e = sym (eqb-true h.limit 0 e)
    go false e = refl

pub kept_where_some : (h : Held) → is_kept (kept_of h) ≡ leb 1 h.limit
unfolding kept_of
kept_where_some h = go (eqb h.limit 0) refl
  where
    go : (b : Bool) → eqb h.limit 0 ≡ b → is_kept (cond b free (kept h.column h.level h.limit)) ≡ leb 1 h.limit
    go true e = sym (lt-leb 1 h.limit (omega (arith, eqb-true h.limit 0 e)))
    go false e = sym (le-leb 1 h.limit (omega (arith, eqb-false h.limit 0 e)))

pub kept_is : (h : Held) → 1 ≤ h.limit → kept_of h ≡ kept h.column h.level h.limit
unfolding kept_of
kept_is h some = ap (λ (b : Bool). cond b free (kept h.column h.level h.limit)) (ne_eqb h.limit 0 (omega arith))

pub nothing_is_free : kept_of nothing_held ≡ free
unfolding kept_of nothing_held
nothing_is_free = refl

pub none_is_kept : names_of empty_store ≡ none_kept
unfolding kept_of nothing_held empty_store
none_is_kept = refl

-- ---- one entry is put in

same_entry : (s : Store) (name : ℕ) (h : Held) → length s.names ≡ 4 → name < 4 → entry (with_entry s name h) name ≡ h
same_entry s name h e l = get_or-set_same s.names name h _ (omega (arith, e))

pub other_entry : (s : Store) (name k : ℕ) (h : Held) → (k ≡ name → ⊥) → entry (with_entry s name h) k ≡ entry s k
other_entry s name k h n = get_or-set_other s.names name k h _ n

-- ---- stores that the calls made

-- an entry that they made in the place of one
pub made_with : (s : Store) (name : ℕ) (h : Held) → Made h → MadeStore s → MadeStore (with_entry s name h)
made_with s name h g m = record { four = length-set s.names name h ∙ m.four; each = λ k l. go k l (eqb k name) refl }
  where
    go : (k : ℕ) → k < 4 → (b : Bool) → eqb k name ≡ b → Made (entry (with_entry s name h) k)
    go k l true e =
        let same : k ≡ name = eqb-true k name e in
        subst⁻¹ (λ (j : ℕ). Made (entry (with_entry s name h) j)) same (subst⁻¹ Made (same_entry s name h m.four (omega arith)) g)
    go k l false e = subst⁻¹ Made (other_entry s name k h (eqb-false k name e)) (m.each k l)

pub nothing_is_made : Made nothing_held
nothing_is_made = record { made = inl refl }

pub stopped_is_made : (h : Held) → 1 ≤ h.limit → h.limit ≤ 2000 → Stopped h → Made h
stopped_is_made h some most s = record { made = inr ((some, most, s)) }

-- a search that they hold has stopped
pub made_is_stopped : (h : Held) → Made h → 1 ≤ h.limit → Stopped h
unfolding nothing_held
made_is_stopped h m some = go m.made
  where
    go : (h ≡ nothing_held) ⊎ ((1 ≤ h.limit) × (h.limit ≤ 2000) × Stopped h) → Stopped h
    go (inl e) = absurd (omega (arith, ap (λ (h : Held). h.limit) e))
    go (inr e) = e.2

pub empty_is_made : MadeStore empty_store
unfolding empty_store
empty_is_made = record { four = refl; each = each }
  where
    each : (k : ℕ) → k < 4 → Made (entry empty_store k)
    each zero h = nothing_is_made
    each (suc zero) h = nothing_is_made
    each (suc (suc zero)) h = nothing_is_made
    each (suc (suc (suc zero))) h = nothing_is_made
    each (suc (suc (suc (suc k)))) h = absurd (omega arith)
