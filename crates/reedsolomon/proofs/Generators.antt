-- A polynomial is the generator of T roots: its first coefficient is 1, and the entries 1 to T of the table of powers are its roots. This is one test that is
-- computed. Assumes nothing.
use mathlib.Core.Path.{◌≡◌, sym, ap, ◌∙◌}
use mathlib.Core.Bool.{Bool}
use Prim.Native.Nat.{ℕ, suc, ◌<◌}
use native.Mathlib.Omega.{arith}
use lib.Dec.{T, eqb, eqb→eq}
use Rattle.poly.specs.Polynomial.{add}
use Rattle.field.specs.Element.{mul, α}
use Rattle.reedsolomon.specs.Sums.{value}
use Rattle.reedsolomon.specs.Encoding.{Generator}
use Rattle.reedsolomon.specs.Row.{symbol}
use Rattle.reedsolomon.specs.PowerTable.{power_table}
use Rattle.reedsolomon.proofs.Below.{all_below, at_each}
use Rattle.reedsolomon.proofs.PowerTable.{power_at}

module _ (m g N T : ℕ) (a : ℕ → ℕ) where
  -- entry i + 1 of the table of N powers is a root
  abbrev pub is_root : ℕ → Bool
  is_root i = eqb (value add (mul m g) 0 (suc T) a (symbol (power_table m g N) (suc i))) 0

  pub generator_by_table : T < N → a 0 ≡ 1 → lib.Dec.T (all_below is_root T) → Generator add (mul m g) 0 1 α T a
  generator_by_table few one t =
      record {
        monic = one;
        roots = λ i l. ap (value add (mul m g) 0 (suc T) a) (sym (power_at m g N (suc i) (omega arith))) ∙ eqb→eq _ 0 (at_each is_root T t i l);
      }
