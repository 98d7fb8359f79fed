-- For the code's contracts: what reading asks of a block, by ranges of bytes. Assumes nothing.
use Rattle.std.specs.Prelude.{ℕ, ◌+◌, ◌*◌, ◌-◌, ◌/◌, Bool, List, eqb, get_or}
use Rattle.dump.specs.Block.{fixed_byte}
use Rattle.dump.specs.Listed.{all_below}

-- how many soft values block b holds: 16 columns of 30, in block 3 one less
abbrev pub values_of : ℕ → ℕ
values_of b = 480 - b / 3 * 30

-- the n bytes of block b from byte `start` on are right, if none of them is a soft value
unfoldable pub fixed_from : List ℕ → ℕ → ℕ → ℕ → Bool
fixed_from block b start n = all_below (λ (k : ℕ). eqb (get_or block (start + k) 0) (fixed_byte b (start + k))) n
