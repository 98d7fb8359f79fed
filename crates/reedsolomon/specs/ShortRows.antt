-- 01: "Roots: α^1 to α^T, with T = 30, 12, 6, 4": the rows of the short page. Assumes nothing.
use Rattle.std.specs.Prelude.{◌≡◌, [], ◌∷◌, ℕ, ◌<◌, get_or}

-- T of a level
unfoldable pub short_roots : ℕ → ℕ
short_roots level = get_or (30 ∷ 12 ∷ 6 ∷ 4 ∷ []) level 0

-- For the code's contracts: t is T of some level.
pub record RowRoots (t : ℕ) : Type 0 where
  pub level : ℕ
  pub level_exists : level < 4
  pub is_its : t ≡ short_roots level
