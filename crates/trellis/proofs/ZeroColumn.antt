-- 01: "all-zero column, each level: limit 30 gives 0 in 30 steps; limit 29 gives 9", and its low point, 2, 4, 6, 8: one search is computed on keys with the tables
-- of masks, and demand 3 has the other limits from it. Assumes nothing.
use mathlib.Core.List.{List}
use mathlib.Core.Path.{◌≡◌, refl, sym, ap₂, ◌∙◌, subst⁻¹}
use Prim.Native.Nat.{ℕ, zero, suc, ◌+◌, ◌*◌, ◌≤◌, ◌<◌}
use native.Mathlib.Omega.{arith}
use lib.Count.{ones}
use lib.IntN.{pos}
use lib.ListN.{replicate, get_or-replicate}
use Rattle.poly.specs.Polynomial.{add, scale, product_in, product, reduced, remainder_in, remainder}
use Rattle.column.specs.Shape.{generator, degree, level_code, short}
use Rattle.column.specs.Mask.{parity}
use Rattle.column.specs.Tabulated.{tabulated}
use Rattle.column.proofs.MaskTable.{residues, mask_by, mask_table, masks_of}
use Rattle.paths.specs.Paths.{Path}
use Rattle.paths.specs.Low.{lower}
use Rattle.paths.specs.Tree.{number as rank}
use Rattle.paths.specs.Stack.{insert, push, extend, grow}
use Rattle.paths.specs.Search.{answer, spent}
use Rattle.paths.specs.Keys.{run_keys}
use Rattle.trellis.specs.Values.{level_values, reading, doubt, branch}
use Rattle.trellis.specs.Order.{sum}
use Rattle.trellis.specs.Trellis.{WordFound, found_word, searched}
use Rattle.trellis.specs.Demand.{Search, whole, supercode, trellis, AheadOfAll}
use Rattle.trellis.specs.Keys.{key_before, key_extension, key_passes, MasksFor, key_search}
use Rattle.trellis.proofs.Sums.{level_values_near}
use Rattle.trellis.proofs.Keys.{by_bits, key_search_is_the_search, few_bits_are_not_above}
use Rattle.trellis.proofs.Short.{searchable, one_codeword_is_ahead_of_all, answers_within_the_limit, is_spent_above_the_limit, answer_is_ahead_of_all}

abbrev pub zero_column : List ℕ
zero_column = replicate 30 0

-- the word 0, whose lowest prefix is its first bit
abbrev pub zero_found : ℕ → WordFound
zero_found i = record { column = 0; low = pos (2 + 2 * i) }

-- the tables of masks of a search
abbrev left : Search → ℕ → List ℕ
left whole i = mask_table 30 (level_code short i)
left supercode i = mask_table 30 (short.supercodes i).left

abbrev right : Search → ℕ → List ℕ
right whole i = replicate 30 0
right supercode i = mask_table 30 (short.supercodes i).right

masks_for : (s : Search) (i : ℕ) → MasksFor s short i (left s i) (right s i)
masks_for whole i = (masks_of 30 (level_code short i), λ k l. get_or-replicate 30 k 0 0 l)
masks_for supercode i = (masks_of 30 (short.supercodes i).left, masks_of 30 (short.supercodes i).right)

zero_column_keys : (s : Search) (i : ℕ) → i < 4 → by_bits (key_search 30 (level_values i) zero_column (left s i) (right s i) 30) ≡ answer (zero_found i) 30
unfolding key_search run_keys lower extend push insert grow key_extension key_before key_passes parity ones level_values branch reading doubt mask_table tabulated mask_by residues generator degree product product_in remainder remainder_in reduced scale add
zero_column_keys whole zero h = refl
zero_column_keys whole (suc zero) h = refl
zero_column_keys whole (suc (suc zero)) h = refl
zero_column_keys whole (suc (suc (suc zero))) h = refl
zero_column_keys supercode zero h = refl
zero_column_keys supercode (suc zero) h = refl
zero_column_keys supercode (suc (suc zero)) h = refl
zero_column_keys supercode (suc (suc (suc zero))) h = refl
zero_column_keys s (suc (suc (suc (suc i)))) h = absurd (omega arith)

module _ (s : Search) (i : ℕ) (h : i < 4) where
  -- the codeword ahead of all others is 0, and 30 paths are counted
  zero_is_ahead_of_all : (w : Path) × AheadOfAll short (level_values i) zero_column i w × (found_word (sum (level_values i) zero_column) w ≡ zero_found i) × (rank (trellis s short (level_values i) zero_column i) w ≡ 30)
  zero_is_ahead_of_all =
      let best = one_codeword_is_ahead_of_all i h zero_column in
      let found = sym (key_search_is_the_search short i (searchable i h) (level_values i) zero_column (left s i) (right s i) s (masks_for s i) (few_bits_are_not_above 30 60 (level_values i) zero_column (level_values_near i h) (omega arith)) 30) ∙ zero_column_keys s i h in
      let told = answer_is_ahead_of_all i h zero_column s best.0 best.1 30 (zero_found i) 30 found in
      (best.0, best.1, sym told.0, sym told.1)

  pub zero_column_in_30_steps : (limit : ℕ) → 30 ≤ limit → searched (trellis s short (level_values i) zero_column i) limit ≡ answer (zero_found i) 30
  zero_column_in_30_steps limit l =
      let w = zero_is_ahead_of_all in
      answers_within_the_limit i h zero_column s w.0 w.1 limit (subst⁻¹ (λ (n : ℕ). n ≤ limit) w.3 l) ∙ ap₂ answer w.2 w.3

  pub zero_column_spent_below_30 : (limit : ℕ) → limit < 30 → searched (trellis s short (level_values i) zero_column i) limit ≡ spent limit
  zero_column_spent_below_30 limit l =
      let w = zero_is_ahead_of_all in
      is_spent_above_the_limit i h zero_column s w.0 w.1 limit (subst⁻¹ (λ (n : ℕ). limit < n) w.3 l)
