-- `syndromes::encoder::remainder` meets its contract: one symbol of the data a turn of the loop. Assumes nothing.
use lib.ListN.{get_or}
use Rattle.syndromes.specs.Packed.{joined, number_of, Full}
use Rattle.syndromes.proofs.Division.{DividedTo}
use Rattle.syndromes.proofs.encoder.remainder.Given as goal

abbrev pub invariant-loop-u : goal.invariant-loop-u
invariant-loop-u l = Full l.w × DividedTo l.t (joined (get_or l.low 0 0) (get_or l.middle 0 0) (get_or l.high 0 0)) l.«data» l.u-index (number_of l.w)
