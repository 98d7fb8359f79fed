-- The entries of a table that a rule gives, and of a list that a function is mapped over. Assumes nothing.
use mathlib.Core.List.{List, [], ◌∷◌, map}
use mathlib.Core.Path.{◌≡◌, refl, sym, ap, ◌∙◌}
use Prim.Native.Nat.{ℕ, zero, suc, ◌+◌, ◌<◌}
use native.Mathlib.Nat.{zero-add, add-zero, le_of_suc-le-suc, not-suc-le-zero}
use native.Mathlib.Omega.{arith}
use lib.ListN.{length, get_or}
use Rattle.column.specs.Tabulated.{tabulated}

module _ {A : Type 0} (f : ℕ → A) where
  pub tabulated_length : (t k : ℕ) → length (tabulated f t k) ≡ k
  unfolding tabulated
  tabulated_length t zero = refl
  tabulated_length t (suc k) = ap suc (tabulated_length (suc t) k)

  entry_from : (t k j : ℕ) (d : A) → j < k → get_or (tabulated f t k) j d ≡ f (j + t)
  unfolding tabulated
  entry_from t zero j d l = absurd (not-suc-le-zero l)
  entry_from t (suc k) zero d l = ap f (sym (zero-add t))
  entry_from t (suc k) (suc j) d l = let moved : j + suc t ≡ suc j + t = omega arith in entry_from (suc t) k j d (le_of_suc-le-suc l) ∙ ap f moved

  pub tabulated_at : (k j : ℕ) (d : A) → j < k → get_or (tabulated f 0 k) j d ≡ f j
  tabulated_at k j d l = entry_from 0 k j d l ∙ ap f (add-zero j)

pub map_at : {A B : Type 0} (f : A → B) (xs : List A) (j : ℕ) (d : A) (e : B) → j < length xs → get_or (map f xs) j e ≡ f (get_or xs j d)
map_at f [] j d e h = absurd (not-suc-le-zero h)
map_at f (x ∷ xs) zero d e h = refl
map_at f (x ∷ xs) (suc j) d e h = map_at f xs j d e (le_of_suc-le-suc h)
