-- 01: dead paths; a tree within a larger one that has the same full paths, and the paths that only the larger one has. Assumes nothing.
use Rattle.std.specs.Prelude.{Bool, not, ◌&&◌, ◌≡◌, ℕ, length}
use Rattle.paths.specs.Lists.{filter}
use Rattle.paths.specs.Paths.{Path, paths}
use Rattle.paths.specs.Order.{ahead}
use Rattle.paths.specs.Tree.{Tree, Exists, Full}

-- the same order and the same full paths, and every path of the smaller tree is one of the larger
pub record Within (small large : Tree) : Type 0 where
  pub same_size : small.size ≡ large.size
  pub same_order : small.before ≡ large.before
  pub exists_too : (p : Path) → Exists small p → Exists large p
  pub full_too : (w : Path) → Full large w → Full small w

-- p exists in the larger tree alone, and is ahead of w
unfoldable pub dead_and_ahead : Tree → Tree → Path → Path → Bool
dead_and_ahead small large w p = large.exists p && (not (small.exists p) && ahead large.before p w)

-- how many dead paths are ahead of w
unfoldable pub dead_paths_ahead : Tree → Tree → Path → ℕ
dead_paths_ahead small large w = length (filter (dead_and_ahead small large w) (paths large.size))
