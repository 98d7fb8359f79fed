-- 01: "The powers α^0 to α^62 stand in a constant table." Assumes nothing.
use Rattle.std.specs.Prelude.{List, [], ◌∷◌, ℕ, zero, suc}
use Rattle.field.specs.Element.{mul, α}

-- a and the powers that follow it: n entries, each α times the one before it
unfoldable pub powers_from : (m g : ℕ) → ℕ → ℕ → List ℕ
powers_from m g zero a = []
powers_from m g (suc n) a = a ∷ powers_from m g n (mul m g α a)

-- α ^ 0 to α ^ (n - 1), in that order
unfoldable pub power_table : (m g : ℕ) → ℕ → List ℕ
power_table m g n = powers_from m g n 1
