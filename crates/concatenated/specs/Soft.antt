-- 01: soft values. Assumes nothing.
use Rattle.std.specs.Prelude.{ℕ, zero, suc, ◌-◌}

-- 01: "each column's level word is taken off: where it has a one, soft value q becomes 7 − q"
unfoldable pub taken_off_by : ℕ → ℕ → ℕ
taken_off_by zero q = q
taken_off_by (suc b) q = 7 - q
