-- 01: which paths exist in a code's trellis, and the outcome of a search; 02, point 8: the low point of its word. Assumes nothing.
use Rattle.std.specs.Prelude.{Bool, ◌&&◌, ℕ, leb, ℤ, length}
use Rattle.column.specs.Shape.{Code}
use Rattle.column.specs.Mask.{begins}
use Rattle.paths.specs.Paths.{Path}
use Rattle.paths.specs.Low.{low_point}
use Rattle.paths.specs.Tree.{Tree}
use Rattle.paths.specs.Search.{SearchResult, limited_search}
use Rattle.paths.specs.Keys.{with_key}
use Rattle.trellis.specs.Order.{number}

-- the path exists in a code's trellis; `exists_exactly` says that this is: it begins some codeword
unfoldable pub exists_in : ℕ → Code → Path → Bool
exists_in n C p = leb (length p) n && begins n C (length p) (number p)

-- what a search returns of its word: the column as a number, and 02's point 8: "the lowest sum among the prefixes of its word, exact and signed"
pub record WordFound : Type 0 where
  pub column : ℕ
  pub low : ℤ

-- w as it is found, where paths have these sums
abbrev pub found_word : (Path → ℤ) → Path → WordFound
found_word sum w = record { column = number w; low = low_point sum w }

-- the outcome of a search with a limit: the word found and the count, or spent
abbrev pub searched : Tree → ℕ → SearchResult WordFound
searched t limit = with_key (found_word t.sum) (limited_search t limit)
