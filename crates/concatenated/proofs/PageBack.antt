-- Demand 2: a written page comes back wherever, at each level, twice the misread columns plus the unread ones stay within the roots. Assumes nothing.
use mathlib.Core.List.{List}
use mathlib.Core.Path.{◌≡◌, ap, ◌∙◌, subst⁻¹}
use Prim.Native.Nat.{ℕ, ◌<◌}
use lib.ListN.{length}
use Rattle.column.specs.Shape.{levels}
use Rattle.concatenated.specs.Format.{Format, SoundFormat, data_length}
use Rattle.concatenated.specs.Outer.{RowDecoder, RowEncoder, OuterLaws}
use Rattle.concatenated.specs.SoftPage.{soft_columns, column_part}
use Rattle.concatenated.specs.Decode.{Reader, Level, answered, decoded, rows}
use Rattle.concatenated.specs.Written.{written_rows, columns_of, row_at, bytes_of_rows}
use Rattle.concatenated.specs.Misread.{WithinReach}
use Rattle.concatenated.proofs.Lists.{listed_length}
use Rattle.concatenated.proofs.Digits.{Below}
use Rattle.concatenated.proofs.Encoding.{columns_of_length, written_row_is_a_codeword, row_of_written_columns, rows_of_written_columns, written_sums_reimage, written_rows_hold_the_data}
use Rattle.concatenated.proofs.RowsBack.{written_rows_come_back}

module _ (P : Format) (ok : SoundFormat P) (outer : RowDecoder) (encoded : RowEncoder) (Codeword : ℕ → List ℕ → Type 0) (laws : OuterLaws P outer encoded Codeword) (read : Reader)
    (bytes : List ℕ) (full : length bytes ≡ data_length P) (are_bytes : Below 256 bytes) where
  -- for a page of soft columns and any reader: the written rows are answered, and their bytes are the data
  pub written_page_comes_back : (page : List (List ℕ)) → length page ≡ P.columns → WithinReach P outer read (columns_of P.columns (written_rows P encoded bytes)) page
      → (ls : List Level) × (n : ℕ) × (decoded P.shape outer read page ≡ answered ls n) × (rows ls ≡ written_rows P encoded bytes) × (bytes_of_rows P (rows ls) ≡ bytes)
  written_page_comes_back page wide within =
      let codewords : (i : ℕ) → i < levels P.shape → Codeword i (row_at i (columns_of P.columns (written_rows P encoded bytes))) =
      λ i h. subst⁻¹ (Codeword i) (row_of_written_columns P ok outer encoded Codeword laws bytes i h) (written_row_is_a_codeword P ok outer encoded Codeword laws bytes i h) in
      let back = written_rows_come_back P outer encoded Codeword laws read (columns_of P.columns (written_rows P encoded bytes)) page (columns_of_length P.columns (written_rows P encoded bytes)) wide
      codewords (written_sums_reimage P ok outer encoded Codeword laws bytes) within in
      let same : rows back.0 ≡ written_rows P encoded bytes = back.3 ∙ rows_of_written_columns P ok outer encoded Codeword laws bytes in
      (back.0, back.1, back.2, same, ap (bytes_of_rows P) same ∙ written_rows_hold_the_data P ok outer encoded Codeword laws bytes full are_bytes)

  -- for a soft page of bytes
  pub written_soft_page_comes_back : (soft : List ℕ) → WithinReach P outer read (columns_of P.columns (written_rows P encoded bytes)) (soft_columns P soft)
      → (ls : List Level) × (n : ℕ) × (decoded P.shape outer read (soft_columns P soft) ≡ answered ls n) × (rows ls ≡ written_rows P encoded bytes) × (bytes_of_rows P (rows ls) ≡ bytes)
  unfolding soft_columns
  written_soft_page_comes_back soft = written_page_comes_back (soft_columns P soft) (listed_length (column_part P soft) P.columns)
