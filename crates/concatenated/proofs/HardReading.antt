-- The hard reading of a column as a path. Assumes nothing.
use mathlib.Core.List.{List, [], ◌∷◌, ◌++◌, map}
use mathlib.Core.Path.{◌≡◌, refl, sym, ap, ap₂, ◌∙◌, subst⁻¹}
use Prim.Native.Nat.{ℕ, zero, suc, ◌+◌, ◌*◌, ◌≤◌}
use native.Mathlib.Omega.{arith}
use lib.ListN.{length, get_or, take}
use lib.Seq.{take-suc, take_all}
use Rattle.column.specs.Shape.{Shape, Word, level_code}
use Rattle.trellis.specs.Values.{reading}
use Rattle.trellis.specs.Order.{number}
use Rattle.trellis.specs.Demand.{Codeword}
use Rattle.trellis.specs.TwoWords.{hard_path}
use Rattle.trellis.proofs.HardPath.{read_bit_is_reading, hard_path_length}
use Rattle.packing.specs.Packing.{joined}
use Rattle.concatenated.specs.SoftPage.{hard_reading}
use Rattle.concatenated.proofs.Lists.{map_append}

joined_snoc : (base x d : ℕ) (ds : List ℕ) → joined base x (ds ++ (d ∷ [])) ≡ joined base x ds * base + d
unfolding joined
joined_snoc base x d [] = refl
joined_snoc base x d (e ∷ ds) = joined_snoc base (x * base + e) d ds

module _ (c : List ℕ) where
  number_of_first : (k : ℕ) → k ≤ length c → number (hard_path c k) ≡ joined 2 0 (map reading (take k c))
  unfolding hard_path number joined
  number_of_first zero h = refl
  number_of_first (suc k) h =
      ap₂ (λ (x y : ℕ). x * 2 + y) (number_of_first k (omega arith)) (read_bit_is_reading (get_or c k 0)) ∙ sym (joined_snoc 2 0 (reading (get_or c k 0)) (map reading (take k c)))
      ∙ ap (joined 2 0) (sym (ap (map reading) (take-suc c k 0 h) ∙ map_append reading (take k c) (get_or c k 0 ∷ [])))

  hard_path_number : number (hard_path c (length c)) ≡ hard_reading c
  unfolding hard_reading
  hard_path_number = number_of_first (length c) (omega arith) ∙ ap (λ (t : List ℕ). joined 2 0 (map reading t)) (take_all (length c) c (omega arith))

-- a column that reads as a word of the level is that codeword, as a path
pub reading_is_a_codeword : (S : Shape) (i : ℕ) (c : List ℕ) → length c ≡ S.bits → Word S.bits (level_code S i) (hard_reading c) → (number (hard_path c S.bits) ≡ hard_reading c) × Codeword S i (hard_path c S.bits)
reading_is_a_codeword S i c long word =
    let same : number (hard_path c S.bits) ≡ hard_reading c = ap (λ (k : ℕ). number (hard_path c k)) (sym long) ∙ hard_path_number c in
    (same, record { long = hard_path_length c S.bits; word = subst⁻¹ (Word S.bits (level_code S i)) same word })
