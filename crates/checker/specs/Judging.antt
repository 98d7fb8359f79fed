-- For the code's contracts: the judge on keys that stand for paths, by the numbers of the lines; and its verdict as the code gives it. Assumes nothing.
use Rattle.std.specs.Prelude.{Bool, false, cond, ◌&&◌, List, [], ◌∷◌, Option, None, Some, ◌≡◌, ℕ, zero, suc, ◌≤◌, eqb, pos, length, get_or}
use Rattle.paths.specs.Stack.{Nodes, extend, grow}
use Rattle.paths.specs.Listings.{Verdict, accepted, wrong}
use Rattle.trellis.specs.Keys.{Key, key}

-- the first wrong line, counted from 1; none where the listing is accepted
unfoldable pub code_verdict : Verdict → Option ℕ
code_verdict accepted = None
code_verdict (wrong k) = Some k

-- line k, counted from 0, has the length and the bits of a key
unfoldable pub names : List ℕ → List ℕ → ℕ → Key → Bool
names lengths numbers k x = eqb (get_or lengths k 0) x.len && eqb (get_or numbers k 0) x.bits

module _ (nodes : Nodes Key) (lengths numbers : List ℕ) where
  -- as `judge`, from a stack of keys: m lines are left, from line k on, counted from 0; `done` says whether the last line was full
  unfoldable pub judge_keys : ℕ → ℕ → Bool → List Key → Verdict
  judge_keys zero k done stack = cond done accepted (wrong (suc k))
  judge_keys (suc m) k done [] = wrong (suc k)
  judge_keys (suc m) k done (x ∷ rest) =
      let goes_on = judge_keys m (suc k) (nodes.full x) (grow nodes x rest) in
      cond done (wrong (suc k)) (cond (names lengths numbers k x) goes_on (wrong (suc k)))

  -- from the first line on
  unfoldable pub judged_keys : Verdict
  judged_keys = judge_keys (length lengths) 0 false (extend nodes (key (pos 0) 0 0) [])

-- at most 2,000 lines, a length and bits for each
pub record Lines (lengths numbers : List ℕ) : Type 0 where
  pub few : length lengths ≤ 2000
  pub both : length numbers ≡ length lengths
