-- For the code's contracts: a set of columns as a flag for each column, 1 if it is in. Assumes nothing.
use Rattle.std.specs.Prelude.{Bool, cond, ℕ, eqb}

abbrev pub flag : Bool → ℕ
flag b = cond b 1 0

abbrev pub is_one : ℕ → Bool
is_one m = eqb m 1
