-- For the code's contracts: where a search stands, and what its way there was to the list that the heap holds. Assumes nothing.
use Rattle.std.specs.Prelude.{Bool, cond, List, ◌∷◌, ◌⊎◌, ◌≡◌, ℕ, suc, ◌+◌, ◌-◌, ◌≤◌, ◌<◌, ℤ}
use Rattle.paths.specs.Stack.{Nodes, grow}
use Rattle.paths.specs.Search.{answer, spent}
use Rattle.paths.specs.Keys.{run_keys, stack_after, low_after}
use Rattle.heap.specs.Heap.{Every, Heap}
use Rattle.heap.specs.Holds.{Holds}
use Rattle.trellis.specs.Keys.{Key}
use Rattle.stack.specs.Places.{Upto}
use Rattle.extension.specs.Steps.{Good, Held}

-- A search stands: `paths` keys in the heap, `count` taken, the last of them known.
pub record Standing (size : ℕ) (f : ℕ → Key) (paths count : ℕ) (last : Key) : Type 0 where
  pub few : paths ≤ count
  pub heap : Heap Upto f paths
  pub held : Every (Held size) f paths
  pub good : Good size last

-- From c taken, p the last, z their lowest sum, xs on the stack, to c' taken, p' the last, z' their lowest sum, and the heap's list on the stack: no word was taken but perhaps p'.
module _ (N : Nodes Key) (size limit : ℕ) (f : ℕ → Key) (c : ℕ) (p : Key) (z : ℤ) (xs : List Key) (m c' : ℕ) (p' : Key) (z' : ℤ) where
  -- no word was taken on the way: every run goes on from there
  pub record Going : Type 0 where
    pub rest : List Key
    pub holds : Holds Upto f m rest
    pub later : c ≤ c'
    pub within : (c' ≤ limit) ⊎ (c' ≡ c)
    pub partial : (p'.len < size) ⊎ (p' ≡ p)
    pub same : (accept : Key → Bool) (fuel : ℕ) → run_keys N accept (fuel + (c' - c)) c z (grow N p xs) ≡ run_keys N accept fuel c' z' (grow N p' rest)
    -- before the last step p' stood first, and the rest behind it
    pub taken : (k : ℕ) → c' ≡ c + suc k → p' ∷ rest ≡ stack_after N k (grow N p xs)
    -- the stack with the extensions of p' is that after so many steps
    pub stack : grow N p' rest ≡ stack_after N (c' - c) (grow N p xs)
    -- z' is the lowest sum after so many steps
    pub low_is : z' ≡ low_after N (c' - c) z (grow N p xs)

  -- p' is a word, the first taken: every run that accepts it answers it, and every other goes on from there
  pub record Answered : Type 0 where
    pub rest : List Key
    pub holds : Holds Upto f m rest
    pub later : c < c'
    pub within : c' ≤ limit
    pub full : p'.len ≡ size
    pub same : (accept : Key → Bool) (fuel : ℕ) → run_keys N accept (fuel + (c' - c)) c z (grow N p xs) ≡ cond (accept p') (answer (record { key = p'; low = z' }) c') (run_keys N accept fuel c' z' (grow N p' rest))
    -- the stack with the extensions of p' is that after so many steps
    pub stack : grow N p' rest ≡ stack_after N (c' - c) (grow N p xs)
    -- z' is the lowest sum after so many steps
    pub low_is : z' ≡ low_after N (c' - c) z (grow N p xs)

  -- the stack is empty: every run ends there
  pub record Ended : Type 0 where
    pub later : c ≤ c'
    pub within : c' < limit
    pub none : p'.len ≡ 0
    pub same : (accept : Key → Bool) (fuel : ℕ) → run_keys N accept (fuel + (c' - c)) c z (grow N p xs) ≡ spent c'

  -- the limit is reached, or a word is taken, or the stack is empty
  pub record Reached : Type 0 where
    pub way : ((limit ≤ c') × Going) ⊎ (Answered ⊎ Ended)
