-- `blocks::fixed_from` meets its contract. The loop's invariant: the bytes passed are right. Assumes nothing.
use Rattle.std.proofs.Common.{◌≡◌, ℕ, ◌+◌, Bool, true, eqb, List, get_or}
use Rattle.dump.specs.Listed.{all_below}
use Rattle.dump.specs.Block.{fixed_byte}
use Rattle.blocks.proofs.fixed_from.Given as goal

abbrev pub fixed_at : List ℕ → ℕ → ℕ → ℕ → Bool
fixed_at block b start k = eqb (get_or block (start + k) 0) (fixed_byte b (start + k))

abbrev pub invariant-loop-k : goal.invariant-loop-k
invariant-loop-k l = all_below (fixed_at l.block l.b l.start) l.k ≡ true
