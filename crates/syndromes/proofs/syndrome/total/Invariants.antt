-- `syndromes::syndrome::total` meets its contract: one term of the sum a turn of the loop. Assumes nothing.
use mathlib.Core.Path.{◌≡◌}
use Rattle.poly.specs.Polynomial.{add}
use Rattle.reedsolomon.specs.Sums.{sum}
use Rattle.reedsolomon.specs.Row.{symbol}
use Rattle.syndromes.proofs.syndrome.total.Given as goal

abbrev pub invariant-loop-i : goal.invariant-loop-i
invariant-loop-i l = l.a ≡ sum add 0 l.i (symbol l.c)
