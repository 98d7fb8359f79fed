-- 01: the written page, from the data to its bytes, and back from rows to data. Assumes nothing.
use mathlib.Core.List.{List, [], ◌++◌, map, flat_map}
use Rattle.std.specs.Prelude.{ℕ, zero, suc, ◌-◌, ◌*◌, ◌^◌, get_or, take, drop}
use Rattle.column.specs.Shape.{Shape, levels}
use Rattle.column.specs.Level.{highest, column_of}
use Rattle.concatenated.specs.Lists.{listed}
use Rattle.concatenated.specs.Format.{Format, data_count, data_before}
use Rattle.concatenated.specs.Data.{digits, data_symbols, data_bytes}
use Rattle.concatenated.specs.Outer.{RowEncoder}

-- 01: "row 0's data first": the data symbols of row i, out of all
unfoldable pub row_data : Format → List ℕ → ℕ → List ℕ
row_data P xs i = take (data_count P i) (drop (data_before P i) xs)

-- row i: the codeword with its data in front
unfoldable pub written_row : Format → RowEncoder → List ℕ → ℕ → List ℕ
written_row P encoded bytes i = encoded i (row_data P (data_symbols P bytes) i)

unfoldable pub written_rows : Format → RowEncoder → List ℕ → List (List ℕ)
written_rows P encoded bytes = listed (written_row P encoded bytes) (levels P.shape)

-- 01: "A column carries four 6-bit symbols": those of column j, in the order of the levels
unfoldable pub column_symbols : List (List ℕ) → ℕ → List ℕ
column_symbols rs j = map (λ r. get_or r j 0) rs

-- the columns of N columns with these rows, each by its symbols
unfoldable pub columns_of : ℕ → List (List ℕ) → List (List ℕ)
columns_of N rs = listed (column_symbols rs) N

-- the row at a level, of columns by their symbols
unfoldable pub row_at : ℕ → List (List ℕ) → List ℕ
row_at i ws = map (λ s. get_or s i 0) ws

-- the sum of a column's written words of the levels i to the highest
unfoldable pub written_sum : Shape → ℕ → List ℕ → ℕ
written_sum S i s = highest S (λ k. get_or s k 0) (levels S - i)

-- 01: "four a column: 30 bits from the top, two zeros"
unfoldable pub column_in_bytes : Format → ℕ → List ℕ
column_in_bytes P x = digits 256 P.column_bytes (x * 2 ^ (8 * P.column_bytes - P.shape.bits))

-- the page of given rows, in bytes
unfoldable pub page_in_bytes : Format → List (List ℕ) → List ℕ
page_in_bytes P rs = flat_map (column_in_bytes P) (map (column_of P.shape) (columns_of P.columns rs))

-- 01: "A written page is 252 bytes"
unfoldable pub written_page : Format → RowEncoder → List ℕ → List ℕ
written_page P encoded bytes = page_in_bytes P (written_rows P encoded bytes)

-- the data symbols in front of the rows below level n
unfoldable pub rows_data : Format → List (List ℕ) → ℕ → List ℕ
rows_data P rs zero = []
rows_data P rs (suc n) = rows_data P rs n ++ take (data_count P n) (get_or rs n [])

-- 01: the bytes of a page answer
unfoldable pub bytes_of_rows : Format → List (List ℕ) → List ℕ
bytes_of_rows P rs = data_bytes P (rows_data P rs (levels P.shape))
