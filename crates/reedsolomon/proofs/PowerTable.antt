-- The table of powers, entry by entry: the powers of α, and the locators of the columns in the other order. Assumes nothing.
use mathlib.Core.Path.{◌≡◌, sym, ap, ◌∙◌}
use Prim.Native.Nat.{ℕ, zero, suc, ◌+◌, ◌-◌, ◌<◌}
use native.Mathlib.Nat.{le_of_suc-le-suc, not-suc-le-zero, add-zero, add-suc, suc-add, zero-add}
use native.Mathlib.Omega.{arith}
use Rattle.field.specs.Element.{mul, α}
use Rattle.reedsolomon.specs.Sums.{power, position}
use Rattle.reedsolomon.specs.Row.{symbol}
use Rattle.reedsolomon.specs.PowerTable.{powers_from, power_table}
use Rattle.reedsolomon.specs.Steps.{locator_at}

module _ (m g : ℕ) where
  abbrev power_of : ℕ → ℕ
  power_of k = power (mul m g) 1 α k

  entry_from : (n k j : ℕ) → j < n → symbol (powers_from m g n (power_of k)) j ≡ power_of (k + j)
  unfolding powers_from power
  entry_from zero k j l = absurd (not-suc-le-zero l)
  entry_from (suc n) k zero l = ap power_of (sym (add-zero k))
  entry_from (suc n) k (suc j) l = entry_from n (suc k) j (le_of_suc-le-suc l) ∙ ap power_of (suc-add k j ∙ sym (add-suc k j))

  -- entry j is α ^ j
  pub power_at : (n j : ℕ) → j < n → symbol (power_table m g n) j ≡ power (mul m g) 1 α j
  unfolding power_table power
  power_at n j l = entry_from n 0 j l ∙ ap power_of (zero-add j)

  -- 01: "column j is the coefficient of x^(62−j)": the locator of column j is entry n - 1 - j
  pub locator_in_table : (n k j : ℕ) → k + suc j ≡ n → symbol (power_table m g n) k ≡ locator_at m g n j
  unfolding position
  locator_in_table n k j e = let z : k ≡ n - suc j = omega arith in power_at n k (omega arith) ∙ ap power_of z
