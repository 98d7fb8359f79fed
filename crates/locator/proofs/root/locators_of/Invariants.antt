-- `locator::root::locators_of` meets its contract: one column a turn of the loop. Assumes nothing.
use mathlib.Core.Path.{◌≡◌}
use mathlib.Core.Bool.{true}
use Prim.Native.Nat.{ℕ, ◌<◌}
use lib.ListN.{length}
use Rattle.reedsolomon.specs.Words.{count}
use Rattle.reedsolomon.specs.Row.{symbol, marked}
use Rattle.reedsolomon.specs.Steps.{locator_at}
use Rattle.locator.proofs.root.locators_of.Given as goal

abbrev pub invariant-loop-j : goal.invariant-loop-j
invariant-loop-j l = (length l.xs ≡ 64) × (l.k ≡ count (marked l.flags) l.j) × ((i : ℕ) → i < l.j → marked l.flags i ≡ true → symbol l.xs (count (marked l.flags) i) ≡ locator_at 6 67 63 i) × ((i : ℕ) → l.k < i → symbol l.xs i ≡ 0)
