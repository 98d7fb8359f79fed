-- The written page: its rows are the codewords with the data in front, its columns the sums of their level words, and re-imaging gives the symbols back. Assumes nothing.
use mathlib.Core.Path.{◌≡◌, refl, sym, ap, ap₂, ◌∙◌, subst, subst⁻¹}
use mathlib.Core.List.{List, [], map, flat_map}
use Prim.Native.Nat.{ℕ, zero, suc, ◌-◌, ◌*◌, ◌^◌, ◌≤◌, ◌<◌}
use native.Mathlib.Nat
use native.Mathlib.Omega.{arith}
use lib.ListN.{length, length-map, get_or, take, drop, get_or-map}
use lib.Seq.{length-take-le, get_or-take, ext_get_or}
use Rattle.poly.specs.Polynomial.{add}
use Rattle.column.specs.Shape.{Shape, levels}
use Rattle.column.specs.Level.{level_word, highest, column_of, reimaged}
use Rattle.column.proofs.Levels.{reimage_of_sum}
use Rattle.reedsolomon.specs.Search.{WordOf}
use Rattle.concatenated.specs.Lists.{All, listed}
use Rattle.concatenated.specs.Format.{Format, SoundFormat, symbol_values, data_length, data_count}
use Rattle.concatenated.specs.Data.{data_symbols}
use Rattle.concatenated.specs.Outer.{RowDecoder, RowEncoder, OuterLaws}
use Rattle.concatenated.specs.Written.{row_data, written_row, written_rows, column_symbols, columns_of, row_at, written_sum, column_in_bytes, page_in_bytes, bytes_of_rows}
use Rattle.concatenated.proofs.Lists.{listed_length, listed_at, all_listed, all_of_each, map_listed, listed_same}
use Rattle.concatenated.proofs.Digits.{Below, digits_length}
use Rattle.concatenated.proofs.Groups.{flat_length, flat_part}
use Rattle.concatenated.proofs.RowData.{row_data_is_a_word, data_symbols_fill_the_rows, data_symbols_in_range, bytes_of_rows_with_data}

-- ---- rows and columns of a list of rows

list_of_entries : (r : List ℕ) → listed (λ j. get_or r j 0) (length r) ≡ r
list_of_entries r =
    ext_get_or 0 (listed (λ j. get_or r j 0) (length r)) r (listed_length (λ j. get_or r j 0) (length r))
    (λ j l. listed_at (λ j. get_or r j 0) (length r) j 0 (subst (λ (t : ℕ). j < t) (listed_length (λ j. get_or r j 0) (length r)) l))

-- the symbol of a column at a level is the row's
pub column_symbol : (rs : List (List ℕ)) (i j : ℕ) → get_or (column_symbols rs j) i 0 ≡ get_or (get_or rs i []) j 0
unfolding column_symbols
column_symbol rs i j = get_or-map (λ (r : List ℕ). get_or r j 0) rs i []

-- the columns have the rows
pub row_of_columns : (N : ℕ) (rs : List (List ℕ)) (i : ℕ) → length (get_or rs i []) ≡ N → row_at i (columns_of N rs) ≡ get_or rs i []
unfolding row_at columns_of
row_of_columns N rs i e =
    map_listed (λ (s : List ℕ). get_or s i 0) (column_symbols rs) N
    ∙ listed_same (λ j. get_or (column_symbols rs j) i 0) (λ j. get_or (get_or rs i []) j 0) N (λ j l. column_symbol rs i j)
    ∙ ap (listed (λ j. get_or (get_or rs i []) j 0)) (sym e) ∙ list_of_entries (get_or rs i [])

pub columns_of_length : (N : ℕ) (rs : List (List ℕ)) → length (columns_of N rs) ≡ N
unfolding columns_of
columns_of_length N rs = listed_length (column_symbols rs) N

-- ---- bytes

-- 01: "A written page is 252 bytes, four a column"
pub page_in_bytes_length : (P : Format) (rs : List (List ℕ)) → length (page_in_bytes P rs) ≡ P.columns * P.column_bytes
unfolding page_in_bytes column_in_bytes
page_in_bytes_length P rs =
    let columns = map (column_of P.shape) (columns_of P.columns rs) in
    flat_length (column_in_bytes P) P.column_bytes columns (all_of_each _ (λ x. digits_length 256 P.column_bytes (x * 2 ^ (8 * P.column_bytes - P.shape.bits))) columns)
    ∙ ap (λ (t : ℕ). t * P.column_bytes) (length-map (columns_of P.columns rs) (column_of P.shape) ∙ columns_of_length P.columns rs)

-- the bytes of column j
pub column_in_the_page : (P : Format) (rs : List (List ℕ)) (j : ℕ) → j < P.columns
    → take P.column_bytes (drop (j * P.column_bytes) (page_in_bytes P rs)) ≡ column_in_bytes P (column_of P.shape (column_symbols rs j))
unfolding page_in_bytes columns_of column_in_bytes
column_in_the_page P rs j h =
    let words = listed (λ k. column_of P.shape (column_symbols rs k)) P.columns in
    ap (λ (t : List ℕ). take P.column_bytes (drop (j * P.column_bytes) (flat_map (column_in_bytes P) t))) (map_listed (column_of P.shape) (column_symbols rs) P.columns)
    ∙ flat_part (column_in_bytes P) P.column_bytes words (all_of_each _ (λ x. digits_length 256 P.column_bytes (x * 2 ^ (8 * P.column_bytes - P.shape.bits))) words) j 0
    (omega (arith, listed_length (λ k. column_of P.shape (column_symbols rs k)) P.columns, h))
    ∙ ap (column_in_bytes P) (listed_at (λ k. column_of P.shape (column_symbols rs k)) P.columns j 0 h)

-- ---- the rows and columns of written data

module _ (P : Format) (ok : SoundFormat P) (outer : RowDecoder) (encoded : RowEncoder) (Codeword : ℕ → List ℕ → Type 0) (laws : OuterLaws P outer encoded Codeword) (bytes : List ℕ) where
  abbrev S : Shape
  S = P.shape

  abbrev rs : List (List ℕ)
  rs = written_rows P encoded bytes

  -- the written columns, each by its symbols
  abbrev pub ws : List (List ℕ)
  ws = columns_of P.columns rs

  pub written_data_is_a_word : (i : ℕ) → i < levels S → WordOf (symbol_values P) (data_count P i) (row_data P (data_symbols P bytes) i)
  written_data_is_a_word = row_data_is_a_word P (data_symbols P bytes) (data_symbols_fill_the_rows P ok bytes) (symbol_values P) (data_symbols_in_range P ok bytes)

  pub row_listed : (i : ℕ) → i < levels S → get_or rs i [] ≡ written_row P encoded bytes i
  unfolding written_rows
  row_listed i h = listed_at (written_row P encoded bytes) (levels S) i [] h

  pub written_row_is_a_codeword : (i : ℕ) → i < levels S → Codeword i (written_row P encoded bytes i)
  unfolding written_row
  written_row_is_a_codeword i h = laws.encodes i (row_data P (data_symbols P bytes) i) h (written_data_is_a_word i h)

  pub written_row_is_a_word : (i : ℕ) → i < levels S → WordOf (symbol_values P) P.columns (written_row P encoded bytes i)
  written_row_is_a_word i h = laws.word i (written_row P encoded bytes i) h (written_row_is_a_codeword i h)

  -- 01: "The first 33, 51, 57, 59 columns hold data"
  pub written_row_has_its_data_in_front : (i : ℕ) → i < levels S → take (data_count P i) (written_row P encoded bytes i) ≡ row_data P (data_symbols P bytes) i
  unfolding written_row
  written_row_has_its_data_in_front i h =
      let d : List ℕ = row_data P (data_symbols P bytes) i in
      let c : List ℕ = encoded i d in
      let long : length (take (data_count P i) c) ≡ data_count P i = length-take-le (data_count P i) c (omega (arith, (laws.word i c h (laws.encodes i d h (written_data_is_a_word i h))).0)) in
      ext_get_or 0 (take (data_count P i) c) d (long ∙ sym (written_data_is_a_word i h).0)
      (λ j l.
      let k : j < data_count P i = subst (λ (t : ℕ). j < t) long l in
      get_or-take (data_count P i) c j 0 k ∙ laws.in_front_are i d h (written_data_is_a_word i h) j k)

  -- so the written rows hold the data
  pub written_rows_hold_the_data : length bytes ≡ data_length P → Below 256 bytes → bytes_of_rows P rs ≡ bytes
  written_rows_hold_the_data l b =
      bytes_of_rows_with_data P ok bytes l b rs (λ i h. ap (take (data_count P i)) (row_listed i h) ∙ written_row_has_its_data_in_front i h)

  pub row_of_written_columns : (i : ℕ) → i < levels S → row_at i ws ≡ written_row P encoded bytes i
  row_of_written_columns i h =
      row_of_columns P.columns rs i (ap length (row_listed i h) ∙ (written_row_is_a_word i h).0) ∙ row_listed i h

  pub rows_of_written_columns : listed (λ i. row_at i ws) (levels S) ≡ rs
  unfolding written_rows
  rows_of_written_columns = listed_same (λ i. row_at i ws) (written_row P encoded bytes) (levels S) row_of_written_columns

  -- ---- a column

  pub written_symbol : (i j : ℕ) → i < levels S → get_or (column_symbols rs j) i 0 ≡ get_or (written_row P encoded bytes i) j 0
  written_symbol i j h = column_symbol rs i j ∙ ap (λ (r : List ℕ). get_or r j 0) (row_listed i h)

  pub written_symbols_in_range : (j : ℕ) → j < P.columns → (i : ℕ) → i < levels S → get_or (column_symbols rs j) i 0 < symbol_values P
  written_symbols_in_range j l i h =
      subst⁻¹ (λ (t : ℕ). t < symbol_values P) (written_symbol i j h) ((written_row_is_a_word i h).1 j l)

  highest_same : (s t : ℕ → ℕ) → ((i : ℕ) → i < levels S → s i ≡ t i) → (k : ℕ) → k ≤ levels S → highest S s k ≡ highest S t k
  unfolding highest
  highest_same s t h zero l = refl
  highest_same s t h (suc k) l =
      ap₂ (λ (x y : ℕ). add x (level_word S (levels S - suc k) y)) (highest_same s t h k (omega arith)) (h (levels S - suc k) (omega arith))

  -- 01: "The column is the bitwise sum of the four words"
  pub written_column_is_the_sum_of_its_level_words : (j : ℕ) → j < P.columns → get_or (map (column_of S) ws) j 0 ≡ highest S (λ i. get_or (written_row P encoded bytes i) j 0) (levels S)
  unfolding columns_of column_of
  written_column_is_the_sum_of_its_level_words j l =
      ap (λ (t : List ℕ). get_or t j 0) (map_listed (column_of S) (column_symbols rs) P.columns) ∙ listed_at (λ j. column_of S (column_symbols rs j)) P.columns j 0 l
      ∙ highest_same (λ i. get_or (column_symbols rs j) i 0) (λ i. get_or (written_row P encoded bytes i) j 0) (λ i h. written_symbol i j h) (levels S) (omega arith)

  -- it is the sum from level 0 on
  pub sum_from_level_0_is_the_column : (s : List ℕ) → written_sum S 0 s ≡ column_of S s
  unfolding written_sum column_of
  sum_from_level_0_is_the_column s = ap (highest S (λ k. get_or s k 0)) (Nat.sub-zero (levels S))

  -- re-imaging a written column gives its symbols
  pub written_column_reimages_to_its_symbols : (i j : ℕ) → i < levels S → j < P.columns → reimaged S i (column_of S (column_symbols rs j)) ≡ get_or (written_row P encoded bytes i) j 0
  unfolding written_sum
  written_column_reimages_to_its_symbols i j h l =
      ap (reimaged S i) (sym (sum_from_level_0_is_the_column (column_symbols rs j)))
      ∙ reimage_of_sum S ok.shape_sound (λ k. get_or (column_symbols rs j) k 0) 0 i (written_symbols_in_range j l) (omega arith) h ∙ written_symbol i j h

  pub written_sums_reimage : All (λ s. (i : ℕ) → i < levels S → reimaged S i (written_sum S i s) ≡ get_or s i 0) ws
  unfolding columns_of written_sum
  written_sums_reimage =
      all_listed (λ s. (i : ℕ) → i < levels S → reimaged S i (written_sum S i s) ≡ get_or s i 0) (column_symbols rs) P.columns
      (λ j l i h. reimage_of_sum S ok.shape_sound (λ k. get_or (column_symbols rs j) k 0) i i (written_symbols_in_range j l) (omega arith) h)
