-- `syndromes::syndrome::add_sums` meets its contract: one power sum a turn of the loop. Assumes nothing.
use mathlib.Core.Path.{◌≡◌}
use lib.ListN.{length}
use Rattle.poly.specs.Polynomial.{add}
use Rattle.field.proofs.Short.{field64}
use Rattle.reedsolomon.specs.Row.{symbol}
use Rattle.reedsolomon.specs.Steps.{Entries, Written, locator_sum}
use Rattle.reedsolomon.proofs.Lanes.{weight}
use Rattle.syndromes.proofs.syndrome.add_sums.Given as goal

abbrev pub invariant-loop-i : goal.invariant-loop-i
invariant-loop-i l = (length l.s ≡ length l.initial.s) × (length l.c ≡ 16) × Entries 16 (weight 6 67 field64 l.initial.c l.xs l.i) l.c × Written l.i (λ i. add (symbol l.initial.s i) (locator_sum 6 67 16 (symbol l.initial.c) (symbol l.xs) i)) l.initial.s l.s
