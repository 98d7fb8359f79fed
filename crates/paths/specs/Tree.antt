-- 01: the paths that exist for a search, as a finite binary tree with an order; its full paths, their numbers and the winner among them. Assumes nothing.
use Rattle.std.specs.Prelude.{Bool, true, ◌&&◌, ◌||◌, ◌∷◌, ◌≡◌, ℕ, ◌≤◌, ◌<◌, eqb, ℤ, length, ◌≤ℤ◌}
use Rattle.paths.specs.Lists.{filter}
use Rattle.paths.specs.Paths.{Path, prefix, paths}
use Rattle.paths.specs.Order.{Order, ahead, Ahead}
use Rattle.paths.specs.Stack.{Nodes}

-- how many bits a full path has, the sums of paths, which path stands before which, and which paths exist; the empty path is no path, so whether it exists counts for nothing
pub record Tree : Type 0 where
  pub size : ℕ
  pub sum : Path → ℤ
  pub before : Path → Path → Bool
  pub exists : Path → Bool

-- the path has the length of a full one
unfoldable pub is_full : Tree → Path → Bool
is_full t p = eqb (length p) t.size

-- the tree's paths as the nodes of a search
abbrev pub nodes : Tree → Nodes Path
nodes t = record { extension = λ b p. b ∷ p; sum = t.sum; before = t.before; exists = t.exists; full = is_full t }

-- p is a path of the tree
pub record Exists (t : Tree) (p : Path) : Type 0 where
  pub some_bit : 0 < length p
  pub in_tree : t.exists p ≡ true

-- an existing path of full length
pub record Full (t : Tree) (w : Path) : Type 0 where
  pub there : Exists t w
  pub long : length w ≡ t.size

-- what is asked of a tree: the order is strict and total, no path stands before one with a larger sum, a path that exists has all its prefixes in the tree and is not too long, and some full path exists
pub record Sound (t : Tree) : Type 0 where
  pub order : Order t.before
  pub sums_fall : (p q : Path) → t.before p q ≡ true → t.sum q ≤ℤ t.sum p
  pub parents : (b c : Bool) (p : Path) → t.exists (b ∷ c ∷ p) ≡ true → t.exists (c ∷ p) ≡ true
  pub short : (p : Path) → t.exists p ≡ true → length p ≤ t.size
  pub some_full : (w : Path) × Full t w

-- p exists, and is a prefix of w or ahead of w
unfoldable pub counted : Tree → Path → Path → Bool
counted t w p = t.exists p && (prefix p w || ahead t.before p w)

-- how many paths exist that are prefixes of w or ahead of w
unfoldable pub number : Tree → Path → ℕ
number t w = length (filter (counted t w) (paths t.size))

-- w is full and ahead of all other full paths
pub record Winner (t : Tree) (w : Path) : Type 0 where
  pub full : Full t w
  pub ahead_of : (v : Path) → Full t v → (v ≡ w → ⊥) → Ahead t.before w v

-- w is, of the full paths that the caller accepts, the one with the smallest number above k
pub record Next (t : Tree) (accept : Path → Bool) (k : ℕ) (w : Path) : Type 0 where
  pub full : Full t w
  pub accepted : accept w ≡ true
  pub above : k < number t w
  pub smallest : (v : Path) → Full t v → accept v ≡ true → k < number t v → number t w ≤ number t v
