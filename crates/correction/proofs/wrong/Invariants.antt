-- `correction::wrong` meets its contract: one column a turn of the loop. Assumes nothing.
use mathlib.Core.Path.{◌≡◌}
use native.Mathlib.Decide.{ℕ_discrete}
use Rattle.reedsolomon.specs.Words.{errors}
use Rattle.reedsolomon.specs.Row.{symbol, marked}
use Rattle.correction.proofs.wrong.Given as goal

abbrev pub invariant-loop-j : goal.invariant-loop-j
invariant-loop-j l = l.e ≡ errors ℕ_discrete (marked l.marks) l.j (symbol l.w) (symbol l.v)
