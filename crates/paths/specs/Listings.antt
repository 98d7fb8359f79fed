-- 02, point 11: listings of the paths that a search takes. A listing's lines are paths, in its order; a line that is no path stands in it as the empty path, which is none. Assumes nothing.
use Rattle.std.specs.Prelude.{Bool, false, cond, not, ◌&&◌, ◌||◌, List, [], ◌∷◌, reverse, ◌≡◌, ℕ, suc, ◌-◌, length, take}
use Rattle.paths.specs.Paths.{Path, same}
use Rattle.paths.specs.Stack.{grow}
use Rattle.paths.specs.Tree.{Tree, is_full, nodes}
use Rattle.paths.specs.Search.{answer, start, after, limited_search}

-- ---- the judge

-- what is said of a listing: it is accepted, or its first wrong line, counted from 1
pub data Verdict : Type 0 where
  accepted : Verdict
  wrong : ℕ → Verdict

-- the stack without p
unfoldable pub without : Path → List Path → List Path
without p [] = []
without p (q ∷ stack) = let others = without p stack in cond (same p q) stack (q ∷ others)

-- p is the first path on the stack, which is in the order
unfoldable pub is_first : Path → List Path → Bool
is_first p [] = false
is_first p (q ∷ stack) = same p q

-- lines that came before stand here with the newest first
module _ (t : Tree) where
  -- the stack that lines leave: each takes its path from it, and if that is not full, puts its existing extensions in
  unfoldable pub left_by : List Path → List Path
  left_by [] = (start t).stack
  left_by (p ∷ earlier) = grow (nodes t) p (without p (left_by earlier))

  -- one of the lines is the answer: a full path
  unfoldable pub answered : List Path → Bool
  answered [] = false
  answered (p ∷ earlier) = is_full t p || answered earlier

  -- a line is right after others if none of them is the answer, and if it is the first path in the order on the stack that they leave
  unfoldable pub right : List Path → Path → Bool
  right earlier p = not (answered earlier) && is_first p (left_by earlier)

  -- 02: "It must judge each line from those before it, and it names the first wrong line."; "A listing that stops early is wrong at the line after its last."
  unfoldable pub judge : List Path → List Path → Verdict
  judge earlier [] = cond (answered earlier) accepted (wrong (suc (length earlier)))
  judge earlier (p ∷ lines) =
      let goes_on = judge (p ∷ earlier) lines in
      cond (right earlier p) goes_on (wrong (suc (length earlier)))

  abbrev pub judged : List Path → Verdict
  judged lines = judge [] lines

-- ---- what it has to find out

-- 02: "the sequence of paths, from first to answer, that the named search .. takes": the search answers w, and these are the paths that it takes
pub record Sequence (t : Tree) (w : Path) (lines : List Path) : Type 0 where
  pub limit : ℕ
  pub found : limited_search t limit ≡ answer w (length lines)
  pub taken : lines ≡ reverse (after t (length lines)).taken

-- line k, counted from 1, is the first in which two listings differ: up to the line before they are one, and up to it they are not
pub record FirstDifference (lines others : List Path) (k : ℕ) : Type 0 where
  pub same_before : take (k - 1) lines ≡ take (k - 1) others
  pub differ : take k lines ≡ take k others → ⊥
