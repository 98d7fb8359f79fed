-- The first value above a bound, as a loop finds it. Assumes nothing.
use mathlib.Core.Path.{◌≡◌, refl}
use mathlib.Core.Bool.{Bool, cond, true, false}
use mathlib.Core.List.{List, [], ◌∷◌}
use Prim.Native.Nat.{ℕ, zero, suc, ◌+◌, ◌<◌, ◌≤◌}
use native.Mathlib.Nat.{not-suc-le-zero, le_of_suc-le-suc}
use native.Mathlib.Numerals.{add-one}
use native.Mathlib.Omega.{arith}
use borrow.Author.Tests.{le-leb, lt-leb, leb-false}
use lib.Dec.{T, leb, leb→le}
use lib.ListN.{length, get_or, drop}
use lib.Seq.{drop-cons, drop-length}
use Rattle.questions.specs.Questions.{first_above}

-- at a value that is in range the first bad one lies further on
pub first_more : (s : List ℕ) (top i : ℕ) → i < length s → get_or s i 0 ≤ top → i + first_above (drop i s) top ≡ i + 1 + first_above (drop (i + 1) s) top
unfolding first_above
first_more s top i h ok = rw (drop-cons s i 0, le-leb _ _ ok, add-one) (omega arith)

-- a bad value is the first of what begins with it
pub first_here : (s : List ℕ) (top i : ℕ) → i < length s → top < get_or s i 0 → first_above (drop i s) top ≡ 0
unfolding first_above
first_here s top i h bad = rw (drop-cons s i 0, lt-leb _ _ bad)

pub first_none : (s : List ℕ) (top i : ℕ) → length s ≡ i → first_above (drop i s) top ≡ 0
unfolding first_above
first_none s top i e = rw (← e, drop-length s)

-- what stands before it is in range
pub below_first : (s : List ℕ) (top k : ℕ) → k < first_above s top → get_or s k 0 ≤ top
unfolding first_above
below_first [] top k h = absurd (not-suc-le-zero h)
below_first (x ∷ xs) top k h = go (leb x top) (leb→le x top) k h (below_first xs top)
  where
    go : (b : Bool) → (T b → x ≤ top) → (k : ℕ) → k < cond b (suc (first_above xs top)) 0 → ((k : ℕ) → k < first_above xs top → get_or xs k 0 ≤ top) → get_or (x ∷ xs) k 0 ≤ top
    go true ok zero h later = ok tt
    go true ok (suc k) h later = later k (le_of_suc-le-suc h)
    go false ok k h later = absurd (not-suc-le-zero h)

-- and the value at its place, if there is one, is not
pub first_is_above : (s : List ℕ) (top : ℕ) → first_above s top < length s → top < get_or s (first_above s top) 0
unfolding first_above
first_is_above [] top h = absurd (not-suc-le-zero h)
first_is_above (x ∷ xs) top h = go (leb x top) refl h (first_is_above xs top)
  where
    go : (b : Bool) → leb x top ≡ b → cond b (suc (first_above xs top)) 0 < suc (length xs) → (first_above xs top < length xs → top < get_or xs (first_above xs top) 0) → top < get_or (x ∷ xs) (cond b (suc (first_above xs top)) 0) 0
    go true e h later = later (le_of_suc-le-suc h)
    go false e h later = leb-false x top e

-- as a call reads it: v stands at k, before the first bad value
pub read_in_range : (s : List ℕ) (top k v : ℕ) → k < first_above s top → v ≡ get_or s k 0 → v < suc top
read_in_range s top k v h e = let l : get_or s k 0 ≤ top = below_first s top k h in omega arith
