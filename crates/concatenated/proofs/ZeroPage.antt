-- 02, point 3: "The step sum of the all-zero page remains 7560": the all-zero page comes back with no column changed or erased. Assumes nothing.
use mathlib.Core.Bool.{false}
use mathlib.Core.List.{List, [], ◌∷◌, ◌++◌, map}
use mathlib.Core.Path.{◌≡◌, refl, sym, ap, ap₂, ◌∙◌, subst⁻¹}
use Prim.Native.Nat.{ℕ, zero, suc, ◌+◌, ◌*◌, ◌≤◌, ◌<◌}
use native.Mathlib.Nat.{zero-mul, suc-mul}
use native.Mathlib.Omega.{arith}
use lib.Dec.{lit<}
use lib.IntN.{ℤ}
use lib.ListN.{length-replicate, get_or-replicate, replicate}
use Rattle.field.proofs.Short.{primitive64}
use Rattle.column.specs.Shape.{Shape, levels, short}
use Rattle.reedsolomon.specs.Search.{Found}
use Rattle.reedsolomon.proofs.Remainders.{zeros_are_a_codeword}
use Rattle.packing.specs.Packing.{joined}
use Rattle.paths.proofs.Lists.{map_replicate}
use Rattle.trellis.specs.Demand.{Search as Kind}
use Rattle.trellis.proofs.ZeroColumn.{zero_found, zero_column_in_30_steps}
use Rattle.concatenated.specs.Lists.{sum, total, listed}
use Rattle.concatenated.specs.Format.{Format, short_page, short_roots, data_before}
use Rattle.concatenated.specs.Outer.{RowDecoder, RowEncoder, OuterLaws}
use Rattle.concatenated.specs.OuterCode.{short_outer, short_encoder, ShortCodeword}
use Rattle.concatenated.specs.Data.{repacked, digits}
use Rattle.concatenated.specs.SoftPage.{soft_columns}
use Rattle.concatenated.specs.Decode.{Reading, found, Reader, symbol, symbols, mark, marks, lows, count, steps, row_off, changed, Level, level, going, answered, decoded_row, run, outcome, decoded, rows}
use Rattle.concatenated.specs.Written.{rows_data, bytes_of_rows}
use Rattle.trellis.specs.TwoWords.{off}
use Rattle.concatenated.specs.Readers.{reading_of, reader_of, short_reader}
use Rattle.concatenated.specs.ZeroPage.{zero_page, zero_level}
use Rattle.concatenated.proofs.Counting.{in_reach_by_totals}
use Rattle.concatenated.proofs.RowsBack.{level_with_row}
use Rattle.concatenated.proofs.OuterJoint.{outer_laws}
use Rattle.concatenated.proofs.Zeros.{lows_replicate, sum_replicate, total_of_none, none_changed, zero_columns, zero_reimages_to_zero, zero_row_off}

-- ---- any format: a reader that reads the zero column as 0 in n steps, with the low point z i at level i, and rows of zeros that are codewords

module _ (P : Format) (outer : RowDecoder) (encoded : RowEncoder) (Codeword : ℕ → List ℕ → Type 0) (laws : OuterLaws P outer encoded Codeword)
    (zero_rows : (i : ℕ) → i < levels P.shape → Codeword i (replicate P.columns 0)) (read : Reader) (n : ℕ) (z : ℕ → ℤ)
    (zero_read : (i : ℕ) → i < levels P.shape → read i (replicate P.shape.bits 0) ≡ found (record { column = 0; low = z i }) n) where
  abbrev S : Shape
  S = P.shape

  abbrev N : ℕ
  N = P.columns

  abbrev columns : List (List ℕ)
  columns = replicate N (replicate S.bits 0)

  abbrev read_at : ℕ → Reading
  read_at i = found (record { column = 0; low = z i }) n

  abbrev level_at : ℕ → Level
  level_at i = zero_level P (z i)

  read_as_zero : (i : ℕ) → i < levels S → map (read i) columns ≡ replicate N (read_at i)
  read_as_zero i h = map_replicate (read i) N (replicate S.bits 0) ∙ ap (replicate N) (zero_read i h)

  zero_symbols : (i : ℕ) → symbols S i (replicate N (read_at i)) ≡ replicate N 0
  unfolding symbol
  zero_symbols i = map_replicate (symbol S i) N (read_at i) ∙ ap (replicate N) (zero_reimages_to_zero S i)

  no_marks : (i : ℕ) → marks (replicate N (read_at i)) ≡ replicate N false
  unfolding mark
  no_marks i = map_replicate mark N (read_at i)

  zero_steps : (i : ℕ) → steps (replicate N (read_at i)) ≡ N * n
  unfolding count
  zero_steps i = ap sum (map_replicate count N (read_at i)) ∙ sum_replicate N n

  zero_row : (i : ℕ) → i < levels S → decoded_row S outer i (replicate N (read_at i)) ≡ Found (replicate N 0)
  unfolding decoded_row
  zero_row i h =
      ap₂ (outer i) (zero_symbols i) (no_marks i)
      ∙ laws.gives i (replicate N 0) (replicate N false) (replicate N 0) h (length-replicate N 0) (length-replicate N false) (zero_rows i h)
      (in_reach_by_totals N (P.roots i) (replicate N 0) (replicate N false) (replicate N 0) (length-replicate N 0) (length-replicate N false) (length-replicate N 0)
      (subst⁻¹ (λ (x : ℕ). 2 * x + total (replicate N false) ≤ P.roots i) (ap total (none_changed N 0) ∙ total_of_none N) (omega (arith, total_of_none N))))

  level_is_zero : (i : ℕ) → level S i (replicate N (read_at i)) (replicate N 0) ≡ level_at i
  unfolding level
  level_is_zero i =
      ap₂ (λ xs ms. record { symbols = replicate N 0; changed = changed xs ms (replicate N 0); erased = ms; lows = lows (replicate N (read_at i)) }) (zero_symbols i) (no_marks i)
      ∙ ap₂ (λ bs zs. record { symbols = replicate N 0; changed = bs; erased = replicate N false; lows = zs }) (none_changed N 0) (lows_replicate N (record { column = 0; low = z i }) n)

  comes_to : (i : ℕ) → i ≤ levels S → run S outer read columns i ≡ going columns (listed level_at i) (i * (N * n))
  unfolding run listed
  comes_to zero h = ap (going columns []) (sym (zero-mul (N * n)))
  comes_to (suc i) h =
      let below : i < levels S = omega arith in
      let read_so = read_as_zero i below in
      level_with_row S outer read columns i columns (listed level_at i) (i * (N * n)) (replicate N 0) (comes_to i (omega arith)) (ap (decoded_row S outer i) read_so ∙ zero_row i below)
      ∙ ap (λ rs. going (row_off S i (replicate N 0) columns) (listed level_at i ++ (level S i rs (replicate N 0) ∷ [])) (i * (N * n) + steps rs)) read_so
      ∙ ap₂ (λ cs l. going cs (listed level_at i ++ (l ∷ [])) (i * (N * n) + steps (replicate N (read_at i)))) (zero_row_off S i N (replicate S.bits 0)) (level_is_zero i)
      ∙ ap (going columns (listed level_at (suc i))) (ap (λ (k : ℕ). i * (N * n) + k) (zero_steps i) ∙ sym (suc-mul i (N * n)))

  pub zero_page_is_read : decoded S outer read (soft_columns P (zero_page P)) ≡ answered (listed level_at (levels S)) (levels S * (N * n))
  unfolding decoded outcome
  zero_page_is_read = ap (λ (page : List (List ℕ)). outcome (run S outer read page (levels S))) (zero_columns P) ∙ ap outcome (comes_to (levels S) (omega arith))

-- ---- the short page

zero_row_is_a_codeword : (i : ℕ) → ShortCodeword i (replicate 63 0)
zero_row_is_a_codeword i =
    record { word = (length-replicate {A = ℕ} 63 0, λ j l. subst⁻¹ (λ (x : ℕ). x < 64) (get_or-replicate 63 j 0 0 l) (lit< tt)); code = zeros_are_a_codeword 6 67 63 (short_roots i) primitive64 (lit< tt) 63 }

zero_column_is_read : (kind : Kind) (limit : ℕ) → 30 ≤ limit → (i : ℕ) → i < 4 → short_reader off kind limit i (replicate 30 0) ≡ found (zero_found i) 30
unfolding reader_of reading_of
zero_column_is_read kind limit l i h = ap (reading_of limit) (zero_column_in_30_steps kind i h limit l)

-- four levels of zeros, no column changed or erased; each low point is that of a first bit, 2, 4, 6, 8
abbrev pub zero_levels : List Level
zero_levels = listed (λ i. zero_level short_page (zero_found i).low) 4

-- by either search, with every limit from 30 on, in 7560 steps
pub zero_page_comes_back : (kind : Kind) (limit : ℕ) → 30 ≤ limit
    → decoded short short_outer (short_reader off kind limit) (soft_columns short_page (zero_page short_page)) ≡ answered zero_levels 7560
zero_page_comes_back kind limit l =
    zero_page_is_read short_page short_outer short_encoder ShortCodeword outer_laws (λ i h. zero_row_is_a_codeword i) (short_reader off kind limit) 30 (λ i. (zero_found i).low) (zero_column_is_read kind limit l)

-- these levels hold 150 bytes of zero
pub zero_levels_hold_zeros : bytes_of_rows short_page (rows zero_levels) ≡ replicate 150 0
unfolding bytes_of_rows rows_data rows repacked digits joined data_before short_roots listed
zero_levels_hold_zeros = refl
