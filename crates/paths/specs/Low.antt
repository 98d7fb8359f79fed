-- 02, point 8: the lowest of a list of numbers, and the low point of a path. Assumes nothing.
use Rattle.std.specs.Prelude.{cond, List, [], ◌∷◌, map, ℤ, pos, ◌≤ℤ◌}
use Rattle.std.specs.Int.Signed.{lt_z}
use Rattle.paths.specs.Lists.{Mem}
use Rattle.paths.specs.Paths.{Path}

unfoldable pub lower : ℤ → ℤ → ℤ
lower a b = cond (lt_z b a) b a

-- the lowest of z and the numbers of a list
unfoldable pub lowest_from : ℤ → List ℤ → ℤ
lowest_from z [] = z
lowest_from z (x ∷ xs) = lowest_from (lower z x) xs

-- the lowest of a list of numbers; for a list of some, as `lowest_is` says
unfoldable pub lowest : List ℤ → ℤ
lowest [] = pos 0
lowest (x ∷ xs) = lowest_from x xs

-- z is one of the numbers, and none is below it
pub record Lowest (xs : List ℤ) (z : ℤ) : Type 0 where
  pub is_one : Mem z xs
  pub none_below : (x : ℤ) → Mem x xs → z ≤ℤ x

-- the prefixes of a path; the empty path is no path
unfoldable pub prefixes : Path → List Path
prefixes [] = []
prefixes (b ∷ p) = (b ∷ p) ∷ prefixes p

-- 02, point 8: "the lowest sum among the prefixes of its word"
unfoldable pub low_point : (Path → ℤ) → Path → ℤ
low_point sum w = lowest (map sum (prefixes w))
