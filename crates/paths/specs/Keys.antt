-- For the code's contracts: the same search on keys that stand for paths. In place of the paths taken it keeps their number and their lowest sum. Assumes nothing.
use Rattle.std.specs.Prelude.{Bool, cond, ◌&&◌, List, [], ◌∷◌, ◌⊎◌, ◌≡◌, ℕ, zero, suc, ◌<◌, ℤ, length}
use Rattle.paths.specs.Paths.{Path}
use Rattle.paths.specs.Low.{lower, low_point}
use Rattle.paths.specs.Stack.{Nodes, grow}
use Rattle.paths.specs.Tree.{Tree, is_full, Exists}
use Rattle.paths.specs.Search.{SearchResult, answer, spent}

-- a word's key, and its low point
pub record WithLow (A : Type 0) : Type 0 where
  pub key : A
  pub low : ℤ

module _ {A : Type 0} (nodes : Nodes A) where
  -- as `run`, from a stack of keys, when count-many were taken; `low` is the lowest of their sums and of the number that it began with
  unfoldable pub run_keys : (A → Bool) → ℕ → ℕ → ℤ → List A → SearchResult (WithLow A)
  run_keys accept zero count low stack = spent count
  run_keys accept (suc fuel) count low [] = spent count
  run_keys accept (suc fuel) count low (x ∷ rest) =
      let goes_on = run_keys accept fuel (suc count) (lower low (nodes.sum x)) (grow nodes x rest) in
      cond (nodes.full x && accept x) (answer (record { key = x; low = lower low (nodes.sum x) }) (suc count)) goes_on

  -- the stack after k more steps
  unfoldable pub stack_after : ℕ → List A → List A
  stack_after zero stack = stack
  stack_after (suc k) [] = []
  stack_after (suc k) (x ∷ rest) = stack_after k (grow nodes x rest)

  -- the lowest sum after k more steps
  unfoldable pub low_after : ℕ → ℤ → List A → ℤ
  low_after zero low stack = low
  low_after (suc k) low [] = low
  low_after (suc k) low (x ∷ rest) = low_after k (lower low (nodes.sum x)) (grow nodes x rest)

-- the keys behave as the tree's paths; existence is asked of a key only where the parent exists, and is not full
pub record KeysOf (t : Tree) {A : Type 0} (nodes : Nodes A) (key : Path → A) : Type 0 where
  pub same_extension : (b : Bool) (p : Path) → nodes.extension b (key p) ≡ key (b ∷ p)
  pub same_sum : (p : Path) → nodes.sum (key p) ≡ t.sum p
  pub same_order : (p q : Path) → nodes.before (key p) (key q) ≡ t.before p q
  pub same_full : (p : Path) → nodes.full (key p) ≡ is_full t p
  pub same_exists : (b : Bool) (p : Path) → (p ≡ []) ⊎ Exists t p → length p < t.size → nodes.exists (key (b ∷ p)) ≡ t.exists (b ∷ p)

-- a word's key and its low point
abbrev pub key_with_low : {A : Type 0} → Tree → (Path → A) → Path → WithLow A
key_with_low t key w = record { key = key w; low = low_point t.sum w }

-- the outcome with the word's key
unfoldable pub with_key : {A : Type 0} → (Path → A) → SearchResult Path → SearchResult A
with_key key (answer w c) = answer (key w) c
with_key key (spent c) = spent c
