-- The last two values of a list: the check of a block. Assumes nothing.
use mathlib.Core.Path.{◌≡◌, ap, ◌∙◌, sym}
use mathlib.Core.List.{List, [], ◌∷◌, ◌++◌, append_assoc}
use Prim.Native.Nat.{ℕ, suc, ◌+◌}
use native.Mathlib.Numerals.{add-one}
use native.Mathlib.Omega.{arith}
use lib.ListN.{length, get_or, take, set, length-set}
use lib.Seq.{take-suc, take-suc-set, take_all, get_or_at, get_or-append-add}

-- a list of n + 2 with its last two values set
pub last_two_set : (s : List ℕ) (n a b : ℕ) → length s ≡ n + 2 → set (set s n a) (n + 1) b ≡ take n s ++ (a ∷ b ∷ [])
last_two_set s n a b e =
    let long : length (set (set s n a) (n + 1) b) ≡ n + 2 = simp length-set e in
    let front : take (n + 1) (set s n a) ≡ take n s ++ (a ∷ []) = rw (add-one, take-suc-set s n a (omega arith)) in
    sym (take_all (suc (n + 1)) (set (set s n a) (n + 1) b) (omega arith))
    ∙ take-suc-set (set s n a) (n + 1) b (simp length-set (omega arith))
    ∙ ap (λ (l : List ℕ). l ++ (b ∷ [])) front
    ∙ append_assoc (take n s) (a ∷ []) (b ∷ [])

-- a list of n + 2 is its first n values and its last two
pub last_two : (s : List ℕ) (n : ℕ) → length s ≡ n + 2 → s ≡ take n s ++ (get_or s n 0 ∷ get_or s (n + 1) 0 ∷ [])
last_two s n e =
    let front : take (n + 1) s ≡ take n s ++ (get_or s n 0 ∷ []) = rw (add-one, take-suc s n 0 (omega arith)) in
    sym (take_all (suc (n + 1)) s (omega arith))
    ∙ take-suc s (n + 1) 0 (omega arith)
    ∙ ap (λ (l : List ℕ). l ++ (get_or s (n + 1) 0 ∷ [])) front
    ∙ append_assoc (take n s) (get_or s n 0 ∷ []) (get_or s (n + 1) 0 ∷ [])

pub last_two_first : (p : List ℕ) (x y n : ℕ) → length p ≡ n → get_or (p ++ (x ∷ y ∷ [])) n 0 ≡ x
last_two_first p x y n e = get_or_at p x (y ∷ []) 0 n e

pub last_two_second : (p : List ℕ) (x y n : ℕ) → length p ≡ n → get_or (p ++ (x ∷ y ∷ [])) (n + 1) 0 ≡ y
last_two_second p x y n e = ap (λ (m : ℕ). get_or (p ++ (x ∷ y ∷ [])) (m + 1) 0) (sym e) ∙ get_or-append-add p (x ∷ y ∷ []) 1 0
