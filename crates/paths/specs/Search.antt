-- 01: the stack search of a tree, step by step. Assumes nothing.
use Rattle.std.specs.Prelude.{Bool, true, cond, ◌&&◌, List, [], ◌∷◌, ℕ, zero, suc, length}
use Rattle.paths.specs.Paths.{Path}
use Rattle.paths.specs.Stack.{extend, grow}
use Rattle.paths.specs.Tree.{Tree, is_full, nodes}

-- the paths taken, the newest first, and the stack
pub record State : Type 0 where
  pub taken : List Path
  pub stack : List Path

-- how many paths were taken
abbrev pub count : State → ℕ
count s = length s.taken

-- the head of the stack; of an empty stack the empty path, which is never full
abbrev pub head : List Path → Path
head [] = []
head (p ∷ rest) = p

abbrev pub first : State → Path
first s = head s.stack

-- a word and the number of paths taken, the word included; or only the number of paths taken
pub data SearchResult (A : Type 0) : Type 0 where
  answer : A → ℕ → SearchResult A
  spent : ℕ → SearchResult A

module _ (t : Tree) where
  -- nothing is taken, and the stack holds the existing one-bit paths
  unfoldable pub start : State
  start = record { taken = []; stack = extend (nodes t) [] [] }

  -- the head of the stack is taken, and if it is not full its existing extensions go in; an empty stack stays
  unfoldable pub take_head : List Path → List Path → State
  take_head taken [] = record { taken = taken; stack = [] }
  take_head taken (p ∷ rest) = record { taken = p ∷ taken; stack = grow (nodes t) p rest }

  unfoldable pub step : State → State
  step s = take_head s.taken s.stack

  -- k steps from s
  unfoldable pub steps : ℕ → State → State
  steps zero s = s
  steps (suc k) s = steps k (step s)

  -- the state after k steps
  unfoldable pub after : ℕ → State
  after k = steps k start

  -- steps are made until a full path is taken that the caller accepts, or the fuel is used up
  unfoldable pub run : (Path → Bool) → ℕ → State → SearchResult Path
  run accept zero s = spent (count s)
  run accept (suc fuel) s =
      let goes_on = run accept fuel (step s) in
      cond (is_full t (first s) && accept (first s)) (answer (first s) (count (step s))) goes_on

  -- the search for a first full path, with a limit on the paths taken
  unfoldable pub limited_search : ℕ → SearchResult Path
  limited_search limit = run (λ w. true) limit start
