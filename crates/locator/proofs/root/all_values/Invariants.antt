-- `locator::root::all_values` meets its contract: one block a turn of the loop. Assumes nothing.
use mathlib.Core.Path.{◌≡◌}
use mathlib.Core.List.{List}
use Prim.Native.Nat.{ℕ, ◌*◌}
use lib.ListN.{length}
use Rattle.reedsolomon.specs.Row.{symbol}
use Rattle.reedsolomon.specs.Steps.{Entries, row_value}
use Rattle.locator.proofs.root.all_values.Given as goal

abbrev meant : List ℕ → ℕ → List ℕ → ℕ → ℕ
meant row d all j = row_value 6 67 row d (symbol all j)

abbrev pub invariant-loop-b : goal.invariant-loop-b
invariant-loop-b l = (length l.r ≡ 64) × Entries (l.b * 16) (meant l.row l.d l.all) l.r
