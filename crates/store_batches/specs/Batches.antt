-- 02, point 2: what a refused job holds, and the first bad value of its column. Assumes nothing.
use Rattle.std.specs.Prelude.{List, ◌≡◌, ℕ, ◌+◌, ◌≤◌, ◌<◌, get_or}
use Rattle.store_batches.specs.declared.Job.{Job}

-- "A refused job gets its number and place .. its other fields keep what they held"
pub record RefusedBy (n p : ℕ) (old new : Job) : Type 0 where
  pub number : new.number ≡ n
  pub place : new.place ≡ p
  pub word : new.word ≡ old.word
  pub count : new.count ≡ old.count
  pub low : new.low ≡ old.low
  pub level : new.level ≡ old.level
  pub first : new.first ≡ old.first

-- 5, "the first bad one from 0", in the job's column: the value there is above 7, and those before it are not
pub record FirstBad (soft : List ℕ) (first p : ℕ) : Type 0 where
  pub inside : p < 30
  pub bad : 7 < get_or soft (first + p) 0
  pub before : (k : ℕ) → k < p → get_or soft (first + k) 0 ≤ 7
