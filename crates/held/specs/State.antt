-- 02, point 13: what the arrays of a held search hold. Assumes nothing.
use Rattle.std.specs.Prelude.{cond, Option, None, Some, List, [], ◌∷◌, ◌++◌, map, ◌≡◌, ℕ, zero, suc, ◌-◌, ◌/◌, ◌<◌, ◌≤◌, eqb, pos, length, get_or}
use Rattle.paths.specs.Low.{Lowest}
use Rattle.paths.specs.Search.{after, spent}
use Rattle.heap.specs.Holds.{Holds}
use Rattle.trellis.specs.Values.{level_values}
use Rattle.trellis.specs.Keys.{Key, key, key_of, none_taken}
use Rattle.trellis.specs.Trellis.{searched}
use Rattle.stack.specs.Places.{Upto}
use Rattle.extension.specs.Steps.{Held as HeldPath}
use Rattle.search.specs.Progress.{Standing}
use Rattle.search.specs.Outcomes.{code_outcome}
use Rattle.search.specs.declared.Progress.{Progress}
use Rattle.search.specs.declared.Found.{Found}
use Rattle.held.specs.Entry.{held_trellis, last_of, paths_of}
use Rattle.held.specs.declared.Held.{Held}
use Rattle.held.specs.declared.Gone.{Gone}

-- An entry that the search can go on from: a level, a column of values 0..7, and a state that stands.
pub record Ready (h : Held) : Type 0 where
  pub level : h.level < 4
  pub full : length h.column ≡ 30
  pub range : (k : ℕ) → k < 30 → get_or h.column k 0 ≤ 7
  pub standing : Standing 30 (paths_of h) h.paths h.limit (last_of h)

-- the last path taken, and what the heap holds: first and rest of the definition's stack before the last of so many steps; before a step is made there is neither
abbrev pub LastTaken : Held → ℕ → List Key → Type 0
LastTaken h zero rest = (last_of h ≡ key (pos 0) 0 0) × (rest ≡ [])
LastTaken h (suc k) rest = last_of h ∷ rest ≡ map (key_of (level_values h.level) h.column) (after (held_trellis h) k).stack

-- An entry holds the search of its column: as many steps as its limit says took no word, and it stands where the definition's search stands after them. How the heap is filled is left open; it holds a list in the order.
pub record Stopped (h : Held) : Type 0 where
  pub ready : Ready h
  pub partial : h.len < 30
  pub spent : searched (held_trellis h) h.limit ≡ spent h.limit
  pub rest : List Key
  pub holds : Holds Upto (paths_of h) h.paths rest
  pub stack : LastTaken h h.limit rest
  -- the lowest sum of the paths taken, 32,767 where none is
  pub low : Lowest (map (held_trellis h).sum (after (held_trellis h) h.limit).taken ++ (none_taken ∷ [])) h.low

-- ---- For the code's contracts

-- the path at place j is one of 1..30 bits, and does not stand before the one above it
pub record Placed (f : ℕ → Key) (j : ℕ) : Type 0 where
  pub held : HeldPath 30 (f j)
  pub order : 0 < j → Upto (f ((j - 1) / 4)) (f j)

-- numbers of 32 bits in the place of numbers, the same wherever they fit
pub record Narrowed (wide narrow : List ℕ) : Type 0 where
  pub same : (k : ℕ) → get_or wide k 0 < 4294967296 → get_or narrow k 0 ≡ get_or wide k 0

-- what a search that stopped in a state has found
abbrev pub outcome_at : Progress → Option Found
outcome_at s = cond (eqb s.last.len 30) (Some (record { word = s.last.bits; count = s.count; low = s.low })) None

-- From h the search went on up to a limit: the entry has the limit; and from where the definition's search stops, the outcome is that search's, and if it is spent, it stops there again.
pub record WentOn (h : Held) (limit : ℕ) (r : Gone) : Type 0 where
  pub column : r.held.column ≡ h.column
  pub level : r.held.level ≡ h.level
  pub summed : r.held.limit ≡ limit
  pub found : Stopped h → r.found ≡ code_outcome (searched (held_trellis h) limit)
  pub stopped : Stopped h → r.found ≡ None → Stopped r.held
