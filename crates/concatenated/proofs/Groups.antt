-- Groups of entries: the groups of packed data and of a written page's bytes, entry by entry, and lists written group by group. Assumes nothing.
use mathlib.Core.List.{List, [], ◌∷◌, ◌++◌, flat_map, append_assoc, append-nil}
use mathlib.Core.Path.{◌≡◌, refl, sym, ap, ap₂, ◌∙◌, subst}
use Prim.Native.Nat.{ℕ, zero, suc, ◌+◌, ◌*◌, ◌≤◌, ◌<◌}
use native.Mathlib.Nat.{not-suc-le-zero, le_of_suc-le-suc, suc-mul, zero-mul}
use native.Mathlib.Numerals.{add-one}
use native.Mathlib.Omega.{arith}
use lib.ListN.{length, length-append, get_or, take, drop, set, get_or-append}
use lib.Seq.{take_at, drop_at, drop-cons, drop-drop, get_or-append-add}
use Rattle.packing.specs.Packing.{joined}
use Rattle.concatenated.specs.Lists.{All}
use Rattle.concatenated.specs.Data.{digits, repacked}
use Rattle.concatenated.proofs.Lists.{all_append}
use Rattle.concatenated.proofs.Digits.{digits_length}
use Rattle.concatenated.proofs.Filling.{Front, front_more}

-- an entry of groups of b, one after the other
later : {A : Type 0} (xs ys : List A) (b g k : ℕ) (d : A) → length xs ≡ b → get_or (xs ++ ys) (suc g * b + k) d ≡ get_or ys (g * b + k) d
later xs ys b g k d e =
    let z : suc g * b + k ≡ length xs + (g * b + k) = omega (arith, suc-mul g b, e) in
    ap (λ (t : ℕ). get_or (xs ++ ys) t d) z ∙ get_or-append-add xs ys (g * b + k) d

sooner : {A : Type 0} (xs ys : List A) (b k : ℕ) (d : A) → length xs ≡ b → k < b → get_or (xs ++ ys) (0 * b + k) d ≡ get_or xs k d
sooner xs ys b k d e h =
    let z : 0 * b + k ≡ k = omega (arith, zero-mul b) in
    ap (λ (t : ℕ). get_or (xs ++ ys) t d) z ∙ get_or-append xs ys d k (subst (λ (t : ℕ). k < t) (sym e) h)

-- entry k of group g of packed data
pub repacked_at : (p a q b n : ℕ) (xs : List ℕ) (g k : ℕ) → g < n → k < b → get_or (repacked p a q b n xs) (g * b + k) 0 ≡ get_or (digits q b (joined p 0 (take a (drop (g * a) xs)))) k 0
unfolding repacked
repacked_at p a q b zero xs g k h l = absurd (not-suc-le-zero h)
repacked_at p a q b (suc n) xs zero k h l =
    let z : 0 * a ≡ 0 = zero-mul a in
    sooner (digits q b (joined p 0 (take a xs))) (repacked p a q b n (drop a xs)) b k 0 (digits_length q b (joined p 0 (take a xs))) l
    ∙ ap (λ (t : ℕ). get_or (digits q b (joined p 0 (take a (drop t xs)))) k 0) (sym z)
repacked_at p a q b (suc n) xs (suc g) k h l =
    let z : a + g * a ≡ suc g * a = omega (arith, suc-mul g a) in
    later (digits q b (joined p 0 (take a xs))) (repacked p a q b n (drop a xs)) b g k 0 (digits_length q b (joined p 0 (take a xs)))
    ∙ repacked_at p a q b n (drop a xs) g k (le_of_suc-le-suc h) l
    ∙ ap (λ (t : List ℕ). get_or (digits q b (joined p 0 (take a t))) k 0) (drop-drop (g * a) a xs ∙ ap (λ (t : ℕ). drop t xs) z)

-- the groups of a list's entries, one after the other: of one entry more; what holds of all; where each group has b, how many there are, and the group of entry g
pub flat_more : {A B : Type 0} (f : A → List B) (xs : List A) (x : A) → flat_map f (xs ++ (x ∷ [])) ≡ flat_map f xs ++ f x
unfolding flat_map
flat_more f [] x = append-nil (f x)
flat_more f (y ∷ xs) x = ap (λ (t : List _). f y ++ t) (flat_more f xs x) ∙ sym (append_assoc (f y) (flat_map f xs) (f x))

pub flat_all : {A B : Type 0} (P : B → Type 0) (f : A → List B) (xs : List A) → All (λ x. All P (f x)) xs → All P (flat_map f xs)
unfolding flat_map
flat_all P f [] h = tt
flat_all P f (x ∷ xs) h = all_append P (f x) (flat_map f xs) h.0 (flat_all P f xs h.1)

pub flat_length : {A : Type 0} (f : A → List ℕ) (b : ℕ) (xs : List A) → All (λ x. length (f x) ≡ b) xs → length (flat_map f xs) ≡ length xs * b
unfolding flat_map
flat_length f b [] e = sym (zero-mul b)
flat_length f b (x ∷ xs) e = length-append (f x) (flat_map f xs) ∙ omega (arith, e.0, flat_length f b xs e.1, suc-mul (length xs) b)

pub flat_part : {A : Type 0} (f : A → List ℕ) (b : ℕ) (xs : List A) → All (λ x. length (f x) ≡ b) xs → (g : ℕ) (d : A) → g < length xs → take b (drop (g * b) (flat_map f xs)) ≡ f (get_or xs g d)
unfolding flat_map
flat_part f b [] e g d h = absurd (not-suc-le-zero h)
flat_part f b (x ∷ xs) e zero d h = ap (λ (t : ℕ). take b (drop t (f x ++ flat_map f xs))) (zero-mul b) ∙ take_at (f x) (flat_map f xs) b e.0
flat_part f b (x ∷ xs) e (suc g) d h =
    let z : suc g * b ≡ b + g * b = omega (arith, suc-mul g b) in
    ap (λ (t : ℕ). take b (drop t (f x ++ flat_map f xs))) z ∙ ap (take b) (sym (drop-drop (g * b) b (f x ++ flat_map f xs)) ∙ ap (drop (g * b)) (drop_at (f x) (flat_map f xs) b e.0))
    ∙ flat_part f b xs e.1 g d (le_of_suc-le-suc h)

-- the entries of a part
pub three_from : (l : List ℕ) (j : ℕ) → j + 3 ≤ length l → take 3 (drop j l) ≡ get_or l j 0 ∷ get_or l (j + 1) 0 ∷ get_or l (j + 2) 0 ∷ []
three_from l j h =
    ap (take 3) (drop-cons l j 0 (omega arith))
    ∙ ap (λ (t : List ℕ). get_or l j 0 ∷ take 2 t) (ap (λ (k : ℕ). drop k l) (sym (add-one j)) ∙ drop-cons l (j + 1) 0 (omega arith))
    ∙ ap (λ (t : List ℕ). get_or l j 0 ∷ get_or l (j + 1) 0 ∷ take 1 t) (let z : suc (j + 1) ≡ j + 2 = omega arith in ap (λ (k : ℕ). drop k l) z ∙ drop-cons l (j + 2) 0 (omega arith))

pub four_from : (l : List ℕ) (j : ℕ) → j + 4 ≤ length l → take 4 (drop j l) ≡ get_or l j 0 ∷ get_or l (j + 1) 0 ∷ get_or l (j + 2) 0 ∷ get_or l (j + 3) 0 ∷ []
four_from l j h =
    ap (take 4) (drop-cons l j 0 (omega arith))
    ∙ ap (λ (t : List ℕ). get_or l j 0 ∷ take 3 t) (ap (λ (k : ℕ). drop k l) (sym (add-one j)))
    ∙ ap (λ (t : List ℕ). get_or l j 0 ∷ t) (three_from l (j + 1) (omega arith))
    ∙ ap₂ (λ (u v : ℕ). get_or l j 0 ∷ get_or l (j + 1) 0 ∷ get_or l u 0 ∷ get_or l v 0 ∷ []) (omega arith) (omega arith)

-- one entry more, at a place and to a number that are told otherwise
next : (target out : List ℕ) (n j k m v : ℕ) → Front target out n j → k ≡ j → m ≡ j + 1 → j < n → v ≡ get_or target k 0 → Front target (set out k v) n m
next target out n j k m v f ek em h e =
    subst (λ (t : ℕ). Front target (set out k v) n t) (sym em)
    (subst (λ (t : ℕ). Front target (set out t v) n (j + 1)) (sym ek) (front_more target out n j v 0 f h (e ∙ ap (λ (t : ℕ). get_or target t 0) ek)))

-- a group of three more
pub three_more : (target out : List ℕ) (n g u v w : ℕ) → Front target out n (g * 3) → g * 3 + 3 ≤ n
    → u ≡ get_or target (g * 3 + 0) 0 → v ≡ get_or target (g * 3 + 1) 0 → w ≡ get_or target (g * 3 + 2) 0
    → Front target (set (set (set out (g * 3) u) (g * 3 + 1) v) (g * 3 + 2) w) n ((g + 1) * 3)
three_more target out n g u v w f h eu ev ew =
    let a = next target out n (g * 3) (g * 3) (g * 3 + 1) u f refl refl (omega arith) (eu ∙ ap (λ (t : ℕ). get_or target t 0) (omega arith)) in
    let b = next target _ n (g * 3 + 1) (g * 3 + 1) (g * 3 + 2) v a refl (omega arith) (omega arith) ev in
    next target _ n (g * 3 + 2) (g * 3 + 2) ((g + 1) * 3) w b refl (omega arith) (omega arith) ew

-- a group of four more
pub four_more : (target out : List ℕ) (n g u v w x : ℕ) → Front target out n (g * 4) → g * 4 + 4 ≤ n
    → u ≡ get_or target (g * 4 + 0) 0 → v ≡ get_or target (g * 4 + 1) 0 → w ≡ get_or target (g * 4 + 2) 0 → x ≡ get_or target (g * 4 + 3) 0
    → Front target (set (set (set (set out (g * 4) u) (g * 4 + 1) v) (g * 4 + 2) w) (g * 4 + 3) x) n ((g + 1) * 4)
four_more target out n g u v w x f h eu ev ew ex =
    let a = next target out n (g * 4) (g * 4) (g * 4 + 1) u f refl refl (omega arith) (eu ∙ ap (λ (t : ℕ). get_or target t 0) (omega arith)) in
    let b = next target _ n (g * 4 + 1) (g * 4 + 1) (g * 4 + 2) v a refl (omega arith) (omega arith) ev in
    let c = next target _ n (g * 4 + 2) (g * 4 + 2) (g * 4 + 3) w b refl (omega arith) (omega arith) ew in
    next target _ n (g * 4 + 3) (g * 4 + 3) ((g + 1) * 4) x c refl (omega arith) (omega arith) ex
