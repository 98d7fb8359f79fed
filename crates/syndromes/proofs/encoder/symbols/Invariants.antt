-- `syndromes::encoder::symbols` meets its contract: one symbol a turn of the loop, the words shifted behind it. Assumes nothing.
use mathlib.Core.Path.{◌≡◌}
use Prim.Native.Nat.{◌*◌, ◌/◌, ◌^◌}
use lib.ListN.{length, replicate}
use Rattle.reedsolomon.specs.Steps.{Written}
use Rattle.syndromes.specs.Packed.{symbol_in, number_of, Full}
use Rattle.syndromes.proofs.encoder.symbols.Given as goal

abbrev pub invariant-loop-i : goal.invariant-loop-i
invariant-loop-i l = (length l.r ≡ 33) × Full l.w × (number_of l.w ≡ number_of l.initial.w / 2 ^ (6 * l.i)) × Written l.i (symbol_in (number_of l.initial.w)) (replicate 33 0) l.r
