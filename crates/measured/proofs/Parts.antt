-- The columns of a buffer of soft values: a part as a column to search, and the answers so far. Assumes nothing.
use Rattle.std.proofs.Common.{◌≡◌, ℕ, ◌+◌, ◌-◌, ◌*◌, ◌≤◌, ◌<◌, List, length, take, drop, get_or, refl, sym, ap, ap₂, subst, arith, add-one}
use mathlib.Core.Path.{◌∙◌}
use lib.Bits.{bit_xor}
use lib.ListN.{length-take, length-drop}
use lib.Seq.{get_or-drop, get_or-take}
use Rattle.measured.specs.Folds.{folded_columns}

module _ (soft : List ℕ) (a : ℕ) (fits : a + 30 ≤ length soft) where
  pub part_long : length (take (a + 30 - a) (drop a soft)) ≡ 30
  part_long = simp (length-take, length-drop) (omega arith)

  pub part_range : ((k : ℕ) → k < length soft → get_or soft k 0 ≤ 7) → (k : ℕ) → k < 30 → get_or (take (a + 30 - a) (drop a soft)) k 0 ≤ 7
  part_range values k l = subst (λ (t : ℕ). t ≤ 7) (sym at) (values (a + k) (omega arith))
    where
      at : get_or (take (a + 30 - a) (drop a soft)) k 0 ≡ get_or soft (a + k) 0
      at = let within : k < a + 30 - a = omega arith in rw (get_or-take, get_or-drop)

module _ (value : List ℕ → ℕ) (soft : List ℕ) where
  pub none_folded : 0 ≡ folded_columns value soft 0
  unfolding folded_columns
  none_folded = refl

  pub one_more_folded : (j fold r : ℕ) → fold ≡ folded_columns value soft j → r ≡ value (take (j * 30 + 30 - j * 30) (drop (j * 30) soft)) → bit_xor fold r ≡ folded_columns value soft (j + 1)
  unfolding folded_columns
  one_more_folded j fold r so e =
      let long : j * 30 + 30 - j * 30 ≡ 30 = omega arith in
      ap₂ bit_xor so (e ∙ ap (λ (k : ℕ). value (take k (drop (j * 30) soft))) long) ∙ ap (folded_columns value soft) (sym (add-one j))
