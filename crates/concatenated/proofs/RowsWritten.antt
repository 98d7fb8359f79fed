-- 02, point 7: what rows of codewords hold encodes to exactly these rows again; the rows of an answered page come back out of a buffer. Assumes nothing.
use mathlib.Core.List.{List, []}
use mathlib.Core.Path.{◌≡◌, sym, ap, ◌∙◌, subst}
use Prim.Native.Nat.{ℕ, ◌*◌, ◌<◌}
use native.Mathlib.Omega.{arith}
use lib.ListN.{length, get_or}
use lib.Seq.{ext_get_or}
use Rattle.column.specs.Shape.{levels}
use Rattle.reedsolomon.specs.Search.{WordOf}
use Rattle.concatenated.specs.Format.{Format, SoundFormat, symbol_values}
use Rattle.concatenated.specs.Outer.{RowDecoder, RowEncoder, OuterLaws}
use Rattle.concatenated.specs.Written.{row_data, written_row, written_rows, bytes_of_rows}
use Rattle.concatenated.specs.Symbols.{row_after_row, rows_in}
use Rattle.concatenated.specs.Decode.{Reader, Level, answered, decoded, rows}
use Rattle.concatenated.proofs.Lists.{listed_length, listed_at}
use Rattle.concatenated.proofs.RowData.{row_data_of_rows, symbols_of_rows_come_back}
use Rattle.concatenated.proofs.Symbols.{AllLong, row_after_row_is_a_word, rows_are_in_their_places}
use Rattle.concatenated.proofs.Answers.{as_many_rows, rows_are_codewords}

module _ (P : Format) (ok : SoundFormat P) (outer : RowDecoder) (encoded : RowEncoder) (Codeword : ℕ → List ℕ → Type 0) (laws : OuterLaws P outer encoded Codeword)
    (rs : List (List ℕ)) (as_many : length rs ≡ levels P.shape) (codewords : (i : ℕ) → i < levels P.shape → Codeword i (get_or rs i [])) where
  words : (i : ℕ) → i < levels P.shape → WordOf (symbol_values P) P.columns (get_or rs i [])
  words i h = laws.word i (get_or rs i []) h (codewords i h)

  row_is_written : (i : ℕ) → i < levels P.shape → written_row P encoded (bytes_of_rows P rs) i ≡ get_or rs i []
  unfolding written_row
  row_is_written i h =
      ap (encoded i) (ap (λ (xs : List ℕ). row_data P xs i) (symbols_of_rows_come_back P rs words ok) ∙ row_data_of_rows P rs words (levels P.shape) (omega arith) i h)
      ∙ laws.only i (get_or rs i []) h (codewords i h)

  pub rows_are_written_again : written_rows P encoded (bytes_of_rows P rs) ≡ rs
  unfolding written_rows
  rows_are_written_again =
      let made = listed_length (written_row P encoded (bytes_of_rows P rs)) (levels P.shape) in
      ext_get_or [] _ rs (made ∙ sym as_many)
      (λ i h. listed_at (written_row P encoded (bytes_of_rows P rs)) (levels P.shape) i [] (omega (arith, made, h)) ∙ row_is_written i (omega (arith, made, h)))

-- the rows of an answered page, put in a buffer one behind the other, are its rows again, and symbols
module _ (P : Format) (outer : RowDecoder) (encoded : RowEncoder) (Codeword : ℕ → List ℕ → Type 0) (laws : OuterLaws P outer encoded Codeword) (read : Reader)
    (page : List (List ℕ)) (wide : length page ≡ P.columns) (ls : List Level) (n : ℕ) (e : decoded P.shape outer read page ≡ answered ls n) where
  many : length (rows ls) ≡ levels P.shape
  many = as_many_rows P outer encoded Codeword laws read page wide ls n e

  in_buffer : AllLong P.columns (rows ls) × WordOf (symbol_values P) (length (rows ls) * P.columns) (row_after_row (rows ls))
  in_buffer =
      row_after_row_is_a_word (symbol_values P) P.columns (rows ls)
      (λ i h. let inside : i < levels P.shape = omega (arith, many, h) in laws.word i (get_or (rows ls) i []) inside (rows_are_codewords P outer encoded Codeword laws read page wide ls n e i inside))

  pub answered_rows_come_back : rows_in P (row_after_row (rows ls)) ≡ rows ls
  answered_rows_come_back = rows_are_in_their_places P (rows ls) many in_buffer.0

  pub answered_symbols_are_a_word : WordOf (symbol_values P) (levels P.shape * P.columns) (row_after_row (rows ls))
  answered_symbols_are_a_word = subst (λ (k : ℕ). WordOf (symbol_values P) (k * P.columns) (row_after_row (rows ls))) many in_buffer.1
