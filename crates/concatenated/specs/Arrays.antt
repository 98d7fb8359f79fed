-- For the code's contracts: what the arrays of columns and of rows hold. Assumes nothing.
use Rattle.std.specs.Prelude.{List, [], ◌≡◌, ℕ, ◌<◌, length, get_or}
use Rattle.reedsolomon.specs.Search.{WordOf}
use Rattle.concatenated.specs.Lists.{All}
use Rattle.concatenated.specs.SoftPage.{Soft}

-- 63 columns, each of 30 soft values
pub record SoftColumns (work : List (List ℕ)) : Type 0 where
  pub many : length work ≡ 63
  pub soft : All (λ c. (length c ≡ 30) × Soft c) work

-- four rows, each of 63 symbols
pub record Rows (rows : List (List ℕ)) : Type 0 where
  pub four : length rows ≡ 4
  pub words : (i : ℕ) → i < 4 → WordOf 64 63 (get_or rows i [])
