-- Laws of lists: each entry, appending, and lists by index. Assumes nothing.
use mathlib.Core.Path.{◌≡◌, refl, ap, ◌∙◌, subst⁻¹}
use mathlib.Core.Logic.{inl, inr, ⊎_elim}
use mathlib.Core.List.{List, [], ◌∷◌, ◌++◌, map}
use Prim.Native.Nat.{ℕ, zero, suc, ◌<◌, suc-le-suc}
use native.Mathlib.Nat.{eq-or-lt_of_le, suc_inj, le_of_suc-le-suc}
use native.Mathlib.Omega.{arith}
use lib.ListN.{length, length-append, get_or, get_or-append}
use lib.Seq.{get_or_at}
use Rattle.paths.specs.Lists.{Mem}
use Rattle.concatenated.specs.Lists.{All, Pairs, listed}

pub all_map : {A : Type 0} {P Q : A → Type 0} (xs : List A) → ((x : A) → P x → Q x) → All P xs → All Q xs
all_map [] f h = tt
all_map (x ∷ xs) f h = (f x h.0, all_map xs f h.1)

pub all_member : {A : Type 0} (P : A → Type 0) (xs : List A) → All P xs → (x : A) → Mem x xs → P x
all_member P [] all x m = elim m [ ]
all_member P (y ∷ xs) all x (inl e) = subst⁻¹ P e all.0
all_member P (y ∷ xs) all x (inr m) = all_member P xs all.1 x m

pub all_append : {A : Type 0} (P : A → Type 0) (xs ys : List A) → All P xs → All P ys → All P (xs ++ ys)
all_append P [] ys h k = k
all_append P (x ∷ xs) ys h k = (h.0, all_append P xs ys h.1 k)

pub all_of_append : {A : Type 0} (P : A → Type 0) (xs ys : List A) → All P (xs ++ ys) → All P xs × All P ys
all_of_append P [] ys h = (tt, h)
all_of_append P (x ∷ xs) ys h = let k = all_of_append P xs ys h.1 in ((h.0, k.0), k.1)

pub all_at : {A : Type 0} (P : A → Type 0) (xs : List A) (j : ℕ) (d : A) → All P xs → j < length xs → P (get_or xs j d)
all_at P [] j d h l = absurd (omega arith)
all_at P (x ∷ xs) zero d h l = h.0
all_at P (x ∷ xs) (suc j) d h l = all_at P xs j d h.1 (le_of_suc-le-suc l)

pub all_by_entries : {A : Type 0} (P : A → Type 0) (xs : List A) (d : A) → ((j : ℕ) → j < length xs → P (get_or xs j d)) → All P xs
all_by_entries P [] d h = tt
all_by_entries P (x ∷ xs) d h = (h 0 (omega arith), all_by_entries P xs d (λ j l. h (suc j) (suc-le-suc l)))

pub all_of_each : {A : Type 0} (P : A → Type 0) → ((x : A) → P x) → (xs : List A) → All P xs
all_of_each P h [] = tt
all_of_each P h (x ∷ xs) = (h x, all_of_each P h xs)

pub pairs_length : {A B : Type 0} (P : A → B → Type 0) (xs : List A) (ys : List B) → Pairs P xs ys → length ys ≡ length xs
pairs_length P [] [] h = refl
pairs_length P [] (y ∷ ys) h = absurd h
pairs_length P (x ∷ xs) [] h = absurd h
pairs_length P (x ∷ xs) (y ∷ ys) h = ap suc (pairs_length P xs ys h.1)

pub map_append : {A B : Type 0} (f : A → B) (xs ys : List A) → map f (xs ++ ys) ≡ map f xs ++ map f ys
map_append f [] ys = refl
map_append f (x ∷ xs) ys = ap (λ (t : List _). f x ∷ t) (map_append f xs ys)

-- ---- lists by index

pub listed_length : {A : Type 0} (f : ℕ → A) (n : ℕ) → length (listed f n) ≡ n
unfolding listed
listed_length f zero = refl
listed_length f (suc n) = length-append (listed f n) (f n ∷ []) ∙ omega (arith, listed_length f n)

pub listed_at : {A : Type 0} (f : ℕ → A) (n j : ℕ) (d : A) → j < n → get_or (listed f n) j d ≡ f j
unfolding listed
listed_at f zero j d l = absurd (omega arith)
listed_at f (suc n) j d l =
    ⊎_elim (λ e. let k : j ≡ n = suc_inj e in subst⁻¹ (λ (t : ℕ). get_or (listed f n ++ (f n ∷ [])) t d ≡ f t) k (get_or_at (listed f n) (f n) [] d n (listed_length f n)))
    (λ u. get_or-append (listed f n) (f n ∷ []) d j (subst⁻¹ (λ (t : ℕ). j < t) (listed_length f n) (le_of_suc-le-suc u)) ∙ listed_at f n j d (le_of_suc-le-suc u))
    (eq-or-lt_of_le l)

pub all_listed : {A : Type 0} (P : A → Type 0) (f : ℕ → A) (n : ℕ) → ((j : ℕ) → j < n → P (f j)) → All P (listed f n)
unfolding listed
all_listed P f zero h = tt
all_listed P f (suc n) h = all_append P (listed f n) (f n ∷ []) (all_listed P f n (λ j l. h j (omega arith))) (h n (omega arith), tt)

pairs_append : {A B : Type 0} (P : A → B → Type 0) (xs : List A) (ys : List B) (x : A) (y : B) → Pairs P xs ys → P x y → Pairs P (xs ++ (x ∷ [])) (ys ++ (y ∷ []))
pairs_append P [] [] x y h k = (k, tt)
pairs_append P [] (z ∷ ys) x y h k = absurd h
pairs_append P (z ∷ xs) [] x y h k = absurd h
pairs_append P (w ∷ xs) (z ∷ ys) x y h k = (h.0, pairs_append P xs ys x y h.1 k)

pub pairs_listed : {A B : Type 0} (P : A → B → Type 0) (f : ℕ → A) (g : ℕ → B) (n : ℕ) → ((j : ℕ) → j < n → P (f j) (g j)) → Pairs P (listed f n) (listed g n)
unfolding listed
pairs_listed P f g zero h = tt
pairs_listed P f g (suc n) h = pairs_append P (listed f n) (listed g n) (f n) (g n) (pairs_listed P f g n (λ j l. h j (omega arith))) (h n (omega arith))

pub map_listed : {A B : Type 0} (g : A → B) (f : ℕ → A) (n : ℕ) → map g (listed f n) ≡ listed (λ j. g (f j)) n
unfolding listed
map_listed g f zero = refl
map_listed g f (suc n) = map_append g (listed f n) (f n ∷ []) ∙ ap (λ (t : List _). t ++ (g (f n) ∷ [])) (map_listed g f n)

pub listed_same : {A : Type 0} (f g : ℕ → A) (n : ℕ) → ((j : ℕ) → j < n → f j ≡ g j) → listed f n ≡ listed g n
unfolding listed
listed_same f g zero h = refl
listed_same f g (suc n) h =
    ap (λ (t : List _). t ++ (f n ∷ [])) (listed_same f g n (λ j l. h j (omega arith))) ∙ ap (λ (y : _). listed g n ++ (y ∷ [])) (h n (omega arith))
