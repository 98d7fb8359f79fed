-- Lists that are written from the front towards a target. Assumes nothing.
use mathlib.Core.List.{List, [], ◌∷◌, ◌++◌}
use mathlib.Core.Path.{◌≡◌, refl, sym, ap, ap₂, ◌∙◌}
use Prim.Native.Nat.{ℕ, ◌+◌, ◌≤◌, ◌<◌}
use native.Mathlib.Numerals.{add-one}
use native.Mathlib.Omega.{arith}
use lib.ListN.{length, length-set, get_or, take, drop, set}
use lib.Seq.{take-suc, take_all, take-suc-set, drop-set-lt, get_or-drop, drop-drop}

-- the first j of n entries are those of the target
pub record Front {A : Type 0} (target out : List A) (n j : ℕ) : Type 0 where
  pub within : j ≤ n
  pub long_target : length target ≡ n
  pub long_out : length out ≡ n
  pub so_far : take j out ≡ take j target

pub front_none : {A : Type 0} (target out : List A) (n : ℕ) → length target ≡ n → length out ≡ n → Front target out n 0
front_none target out n t o = record { within = omega arith; long_target = t; long_out = o; so_far = refl }

pub front_more : {A : Type 0} (target out : List A) (n j : ℕ) (v d : A) → Front target out n j → j < n → v ≡ get_or target j d → Front target (set out j v) n (j + 1)
front_more target out n j v d f h e =
    record {
      within = omega arith;
      long_target = f.long_target;
      long_out = length-set out j v ∙ f.long_out;
      so_far =
          ap (λ (k : ℕ). take k (set out j v)) (add-one j) ∙ take-suc-set out j v (omega (arith, f.long_out)) ∙ ap₂ (λ (t : List _) (x : _). t ++ (x ∷ [])) f.so_far e
          ∙ sym (take-suc target j d (omega (arith, f.long_target))) ∙ ap (λ (k : ℕ). take k target) (sym (add-one j));
    }

pub front_all : {A : Type 0} (target out : List A) (n j : ℕ) → Front target out n j → n ≤ j → out ≡ target
front_all target out n j f h = sym (take_all j out (omega (arith, f.long_out))) ∙ f.so_far ∙ take_all j target (omega (arith, f.long_target))

-- the same in place of an old list, of which the others are kept
pub record InPlace {A : Type 0} (target old out : List A) (n j : ℕ) : Type 0 where
  pub front : Front target out n j
  pub rest : drop j out ≡ drop j old

pub in_place_none : {A : Type 0} (target old : List A) (n : ℕ) → length target ≡ n → length old ≡ n → InPlace target old old n 0
in_place_none target old n t o = record { front = front_none target old n t o; rest = refl }

-- the entry to be written is yet the old one
pub in_place_at : {A : Type 0} (target old out : List A) (n j : ℕ) (d : A) → InPlace target old out n j → get_or out j d ≡ get_or old j d
in_place_at target old out n j d f =
    let z : j + 0 ≡ j = omega arith in
    ap (λ (k : ℕ). get_or out k d) (sym z) ∙ sym (get_or-drop j out 0 d) ∙ ap (λ (t : List _). get_or t 0 d) f.rest ∙ get_or-drop j old 0 d ∙ ap (λ (k : ℕ). get_or old k d) z

drop_more : {A : Type 0} (xs ys : List A) (j : ℕ) → drop j xs ≡ drop j ys → drop (j + 1) xs ≡ drop (j + 1) ys
drop_more xs ys j e = sym (drop-drop 1 j xs) ∙ ap (drop 1) e ∙ drop-drop 1 j ys

pub in_place_more : {A : Type 0} (target old out : List A) (n j : ℕ) (v d : A) → InPlace target old out n j → j < n → v ≡ get_or target j d → InPlace target old (set out j v) n (j + 1)
in_place_more target old out n j v d f h e =
    record {
      front = front_more target out n j v d f.front h e;
      rest = drop-set-lt (j + 1) out j v (omega arith) ∙ drop_more out old j f.rest;
    }
