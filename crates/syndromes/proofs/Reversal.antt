-- A list that is written in the other order, from both ends inwards. Assumes nothing.
use mathlib.Core.Path.{◌≡◌}
use mathlib.Core.Logic.{◌⊎◌}
use mathlib.Core.List.{List}
use Prim.Native.Nat.{ℕ, ◌+◌, ◌-◌, ◌≤◌, ◌<◌}
use Rattle.reedsolomon.specs.Row.{symbol}

-- the first i and the last i of the entries 0 to n are those of a in the other order
pub record Reversed (n i : ℕ) (a r : List ℕ) : Type 0 where
  pub at : (j : ℕ) → j ≤ n → (j < i) ⊎ (n < j + i) → symbol r j ≡ symbol a (n - j)
