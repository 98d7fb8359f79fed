-- `syndromes::lists::put` meets its contract: one entry a turn of the loop. Assumes nothing.
use mathlib.Core.Path.{◌≡◌}
use lib.ListN.{length}
use Rattle.reedsolomon.specs.Row.{symbol}
use Rattle.reedsolomon.specs.Steps.{WrittenAt}
use Rattle.syndromes.proofs.lists.put.Given as goal

abbrev pub invariant-loop-i : goal.invariant-loop-i
invariant-loop-i l = (length l.b ≡ length l.initial.b) × WrittenAt l.at l.i (symbol l.a) l.initial.b l.b
