-- `syndromes::syndrome::summed` meets its contract: one block a turn of the loop. Assumes nothing.
use mathlib.Core.Path.{◌≡◌}
use Prim.Native.Nat.{◌*◌}
use lib.ListN.{length}
use Rattle.field.proofs.Short.{field64}
use Rattle.reedsolomon.proofs.Lanes.{AddedTo}
use Rattle.syndromes.proofs.syndrome.summed.Given as goal

abbrev pub invariant-loop-b : goal.invariant-loop-b
invariant-loop-b l = (length l.r ≡ 33) × AddedTo 6 67 field64 (l.b * 16) l.t l.w l.xs l.initial.r l.r
