-- The bits of a written page, one by one: where each soft value reads as the bit that is written there, each column reads as the sum of its level words. Assumes nothing.
use mathlib.Core.List.{List, map}
use mathlib.Core.Path.{◌≡◌, sym, ap, ap₂, ◌∙◌, subst}
use Prim.Native.Nat.{ℕ, ◌+◌, ◌-◌, ◌*◌, ◌/◌, ◌%◌, ◌^◌, ◌<◌}
use native.Mathlib.Nat.{mod-eq_of_lt}
use native.Mathlib.Omega.{arith}
use lib.Arith.{digits_lt, digits_div, digits_mod}
use lib.Dec.{lit<}
use lib.ListN.{length, length-map, get_or, take, drop}
use lib.Pow.{shl_lt, shl-shr, shr-shr}
use lib.Seq.{get_or-take, get_or-drop, ext_get_or}
use Rattle.column.specs.Shape.{Shape, levels}
use Rattle.column.specs.Level.{column_of}
use Rattle.column.proofs.Levels.{highest_lt}
use Rattle.column.proofs.Tabulated.{map_at}
use Rattle.trellis.specs.Values.{reading}
use Rattle.packing.specs.Packing.{joined, digit}
use Rattle.concatenated.specs.Format.{Format, SoundFormat}
use Rattle.concatenated.specs.Outer.{RowDecoder, RowEncoder, OuterLaws}
use Rattle.concatenated.specs.Data.{digits}
use Rattle.concatenated.specs.SoftPage.{hard_reading, column_part, soft_columns}
use Rattle.concatenated.specs.Written.{written_rows, written_page, column_symbols, columns_of, column_in_bytes, page_in_bytes, written_sum}
use Rattle.concatenated.specs.Clean.{written_bit, ReadsAsWritten, ReadsAs}
use Rattle.concatenated.proofs.Lists.{pairs_listed}
use Rattle.concatenated.proofs.Digits.{digits_length, digit_at, joined_of_digits, number_comes_back, byte_weight}
use Rattle.concatenated.proofs.SoftPages.{part_of_the_page, part_length}
use Rattle.concatenated.proofs.Encoding.{column_in_the_page, written_symbols_in_range, sum_from_level_0_is_the_column}

-- a number with s zeros behind it has its bits s places higher
digit_above_zeros : (x s k : ℕ) → digit 2 (s + k) (x * 2 ^ s) ≡ digit 2 k x
digit_above_zeros x s k = ap (λ (t : ℕ). t % 2) (sym (shr-shr (x * 2 ^ s) s k) ∙ ap (λ (t : ℕ). t / 2 ^ k) (shl-shr x s))

-- values that read as the bits of a number read as the number
reads_as_its_bits : (n : ℕ) (c : List ℕ) (x : ℕ) → length c ≡ n → x < 2 ^ n → ((p : ℕ) → p < n → reading (get_or c p 0) ≡ digit 2 (n - 1 - p) x) → hard_reading c ≡ x
unfolding hard_reading
reads_as_its_bits n c x long small bits =
    let as_many : length (map reading c) ≡ n = length-map c reading ∙ long in
    ap (joined 2 0)
    (ext_get_or 0 (map reading c) (digits 2 n x) (as_many ∙ sym (digits_length 2 n x))
    (λ p l.
    let inside : p < n = omega (arith, as_many, l) in
    map_at reading c p 0 0 (omega (arith, long, inside)) ∙ bits p inside ∙ sym (digit_at 2 n x p inside)))
    ∙ joined_of_digits 2 n x (lit< tt) ∙ mod-eq_of_lt small

module _ (P : Format) (ok : SoundFormat P) where
  abbrev n : ℕ
  n = P.shape.bits

  -- bits of a written column, and the zeros behind its own
  abbrev all : ℕ
  all = 8 * P.column_bytes

  abbrev zeros : ℕ
  zeros = all - n

  -- the bytes of a column are the column with zeros behind it
  bytes_make_the_column : (x : ℕ) → x < 2 ^ n → joined 256 0 (column_in_bytes P x) ≡ x * 2 ^ zeros
  unfolding column_in_bytes
  bytes_make_the_column x small =
      let fit : n + zeros ≡ all = omega (arith, ok.column_fits) in
      number_comes_back P.column_bytes (x * 2 ^ zeros)
      (subst (λ (t : ℕ). x * 2 ^ zeros < t) (byte_weight P.column_bytes) (subst (λ (k : ℕ). x * 2 ^ zeros < 2 ^ k) fit (shl_lt n zeros small)))

  bit_of_the_bytes : (x p : ℕ) → x < 2 ^ n → p < n → digit 2 (all - 1 - p) (joined 256 0 (column_in_bytes P x)) ≡ digit 2 (n - 1 - p) x
  bit_of_the_bytes x p small inside =
      let place : all - 1 - p ≡ zeros + (n - 1 - p) = omega (arith, ok.column_fits) in
      ap₂ (digit 2) place (bytes_make_the_column x small) ∙ digit_above_zeros x zeros (n - 1 - p)

  module _ (outer : RowDecoder) (encoded : RowEncoder) (Codeword : ℕ → List ℕ → Type 0) (laws : OuterLaws P outer encoded Codeword) (bytes : List ℕ) where
    abbrev S : Shape
    S = P.shape

    abbrev rs : List (List ℕ)
    rs = written_rows P encoded bytes

    abbrev column : ℕ → ℕ
    column j = column_of S (column_symbols rs j)

    column_is_small : (j : ℕ) → j < P.columns → column j < 2 ^ n
    unfolding column_of
    column_is_small j h = highest_lt S ok.shape_sound (λ k. get_or (column_symbols rs j) k 0) (levels S) (written_symbols_in_range P ok outer encoded Codeword laws bytes j h) (omega arith)

    -- the bit written at position p of column j is that of the column
    written_bit_of_the_column : (j p : ℕ) → j < P.columns → p < n → written_bit P (written_page P encoded bytes) (j * n + p) ≡ digit 2 (n - 1 - p) (column j)
    unfolding written_bit written_page
    written_bit_of_the_column j p h inside =
        ap₂ (λ (g r : ℕ). digit 2 (all - 1 - r) (joined 256 0 (take P.column_bytes (drop (g * P.column_bytes) (page_in_bytes P rs))))) (digits_div j inside) (digits_mod j inside)
        ∙ ap (λ (t : List ℕ). digit 2 (all - 1 - p) (joined 256 0 t)) (column_in_the_page P rs j h) ∙ bit_of_the_bytes (column j) p (column_is_small j h) inside

    module _ (soft : List ℕ) (long : length soft ≡ P.columns * n) (reads : ReadsAsWritten P (written_page P encoded bytes) soft) where
      column_reads : (j : ℕ) → j < P.columns → hard_reading (column_part P soft j) ≡ written_sum S 0 (column_symbols rs j)
      column_reads j h =
          reads_as_its_bits n (column_part P soft j) (column j) (part_length P soft long j h) (column_is_small j h)
          (λ p l.
          ap (λ (t : List ℕ). reading (get_or t p 0)) (part_of_the_page P soft long j h)
          ∙ ap reading (get_or-take n (drop (j * n) soft) p 0 l ∙ get_or-drop (j * n) soft p 0)
          ∙ reads (j * n + p) (omega (arith, digits_lt h l))
          ∙ written_bit_of_the_column j p h l)
          ∙ sym (sum_from_level_0_is_the_column P ok outer encoded Codeword laws bytes (column_symbols rs j))

      -- each column of the soft page reads as the sum of its written words of all levels
      pub columns_read_as_written : ReadsAs S 0 (soft_columns P soft) (columns_of P.columns rs)
      unfolding soft_columns columns_of
      columns_read_as_written = pairs_listed (λ c s. hard_reading c ≡ written_sum S 0 s) (column_part P soft) (column_symbols rs) P.columns column_reads
