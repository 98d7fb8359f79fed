-- The weighted sum, as the loop adds it, and what it reads. Assumes nothing.
use mathlib.Core.Path.{◌≡◌, refl, ap₂}
use mathlib.Core.List.{List}
use Prim.Native.Nat.{ℕ, zero, suc, ◌+◌, ◌*◌, ◌<◌}
use native.Mathlib.Numerals.{add-one}
use native.Mathlib.Omega.{arith}
use lib.ListN.{get_or, take}
use lib.Seq.{get_or-take}
use Rattle.dump.specs.Check.{weighted}

pub weighted_more : (s : List ℕ) (k : ℕ) → weighted s (k + 1) ≡ weighted s k + (k + 1) * get_or s k 0
unfolding weighted
weighted_more s k = rw add-one

weighted_ext : (s t : List ℕ) (n : ℕ) → ((k : ℕ) → k < n → get_or s k 0 ≡ get_or t k 0) → weighted s n ≡ weighted t n
unfolding weighted
weighted_ext s t zero each = refl
weighted_ext s t (suc n) each = ap₂ (λ (x y : ℕ). x + suc n * y) (weighted_ext s t n (λ k h. each k (omega arith))) (each n (omega arith))

-- the sum reads the first n values alone
pub weighted_take : (s : List ℕ) (n : ℕ) → weighted (take n s) n ≡ weighted s n
weighted_take s n = weighted_ext (take n s) s n (λ k h. get_or-take n s k 0 h)
