-- The path of a column's hard reading, bit by bit. Assumes nothing.
use mathlib.Core.Bool.{Bool, true, false, cond}
use mathlib.Core.List.{List}
use mathlib.Core.Path.{◌≡◌, refl, sym, ap, ◌∙◌, subst}
use Prim.Native.Nat.{ℕ, zero, suc, ◌+◌, ◌*◌, ◌^◌, ◌<◌}
use native.Mathlib.Omega.{arith}
use lib.Dec.{eqb, ltb}
use lib.ListN.{length, get_or}
use Rattle.trellis.specs.Values.{reading}
use Rattle.trellis.specs.Order.{bit, number}
use Rattle.trellis.specs.TwoWords.{hard_path}
use Rattle.trellis.proofs.Order.{number_below}

-- the bit that a value reads as
abbrev pub read_bit : ℕ → Bool
read_bit q = eqb (reading q) 1

pub read_bit_is_reading : (q : ℕ) → bit (read_bit q) ≡ reading q
unfolding reading
read_bit_is_reading q = go (ltb q 4)
  where
    go : (b : Bool) → bit (eqb (cond b 0 1) 1) ≡ cond b 0 1
    go true = refl
    go false = refl

module _ (soft : List ℕ) where
  pub hard_path_length : (k : ℕ) → length (hard_path soft k) ≡ k
  unfolding hard_path
  hard_path_length zero = refl
  hard_path_length (suc k) = ap suc (hard_path_length k)

  pub hard_path_below : (k : ℕ) → number (hard_path soft k) < 2 ^ k
  hard_path_below k = subst (λ (l : ℕ). number (hard_path soft k) < 2 ^ l) (hard_path_length k) (number_below (hard_path soft k))

  pub hard_path_next : (k : ℕ) → number (hard_path soft k) * 2 + reading (get_or soft k 0) ≡ number (hard_path soft (k + 1))
  unfolding hard_path number
  hard_path_next k =
      let next : suc k ≡ k + 1 = omega arith in
      ap (λ (x : ℕ). number (hard_path soft k) * 2 + x) (sym (read_bit_is_reading (get_or soft k 0))) ∙ ap (λ (t : ℕ). number (hard_path soft t)) next
