-- 01: the numbers of a page: its columns, its rows and the packing of its data. Assumes nothing.
use Rattle.std.specs.Prelude.{◌≡◌, ℕ, zero, suc, ◌+◌, ◌-◌, ◌*◌, ◌^◌, ◌≤◌, ◌<◌}
use Rattle.column.specs.Shape.{Shape, Sound, levels, short}
unfoldable pub use Rattle.reedsolomon.specs.ShortRows.{short_roots}

pub record Format : Type 0 where
  -- the column codes, one a level
  pub shape : Shape
  -- columns of a page, and so symbols of a row
  pub columns : ℕ
  -- T of each level
  pub roots : ℕ → ℕ
  -- data come in groups of bytes, each packed to a group of symbols
  pub groups : ℕ
  pub group_bytes : ℕ
  pub group_symbols : ℕ
  -- bytes of a written column
  pub column_bytes : ℕ

-- how many values a symbol has
abbrev pub symbol_values : Format → ℕ
symbol_values P = 2 ^ P.shape.symbol

-- bytes of data
abbrev pub data_length : Format → ℕ
data_length P = P.groups * P.group_bytes

-- 01: "The first 33, 51, 57, 59 columns hold data"
abbrev pub data_count : Format → ℕ → ℕ
data_count P i = P.columns - P.roots i

-- the data symbols of the rows below level i
unfoldable pub data_before : Format → ℕ → ℕ
data_before P zero = 0
data_before P (suc i) = data_before P i + data_count P i

-- what the numbers have to keep to
pub record SoundFormat (P : Format) : Type 0 where
  pub shape_sound : Sound P.shape
  pub roots_fit : (i : ℕ) → i < levels P.shape → P.roots i ≤ P.columns
  -- a group of bytes holds as much as a group of symbols
  pub packs : 256 ^ P.group_bytes ≡ symbol_values P ^ P.group_symbols
  -- the rows have a place for each data symbol
  pub holds : data_before P (levels P.shape) ≡ P.groups * P.group_symbols
  -- a column has room in its bytes
  pub column_fits : P.shape.bits ≤ 8 * P.column_bytes

-- ---- the short page

-- 01: 63 columns; 150 bytes of data, three bytes to four symbols; four bytes a column
abbrev pub short_page : Format
short_page = record { shape = short; columns = 63; roots = short_roots; groups = 50; group_bytes = 3; group_symbols = 4; column_bytes = 4 }
