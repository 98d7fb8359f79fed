-- 01: "The dump", the check of a block. Assumes nothing.
use Rattle.std.specs.Prelude.{ℕ, zero, suc, ◌+◌, ◌*◌, ◌%◌, List, get_or}

-- the sum of (k + 1) × byte k over k = 0..n − 1
unfoldable pub weighted : List ℕ → ℕ → ℕ
weighted s zero = 0
weighted s (suc k) = weighted s k + suc k * get_or s k 0

-- 01: "the sum of (k + 1) × byte k over k = 0..509, wrapping at 65,536"
abbrev pub check_of : List ℕ → ℕ
check_of s = weighted s 510 % 65536
