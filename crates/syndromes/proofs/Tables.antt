-- The words of a generator pass two tests that are computed over their number: it has T symbols at most, and its roots are entries 1 to T of the table of powers.
-- Assumes nothing.
use mathlib.Core.Path.{◌≡◌, refl, ap}
use mathlib.Core.Bool.{Bool}
use Prim.Native.Nat.{ℕ, zero, suc, ◌*◌, ◌%◌, ◌^◌, ◌≤◌, ◌<◌}
use native.Mathlib.Nat.{lt_of_lt_of_le, div-eq_of_lt}
use native.Mathlib.Omega.{arith}
use lib.Dec.{T, ltb, ltb→lt}
use lib.Pow.{pow_mono}
use Rattle.reedsolomon.proofs.Below.{all_below}
use Rattle.reedsolomon.proofs.Generators.{is_root, generator_by_table}
use Rattle.syndromes.specs.Packed.{symbol_in, coefficient_in, IsGenerator}

-- a test of a number that is computed before the test begins
abbrev computed : ℕ → (ℕ → Bool) → Bool
computed zero test = test zero
computed (suc n) test = test (suc n)

test_of_number : (n : ℕ) (test : ℕ → Bool) → T (computed n test) → T (test n)
test_of_number zero test t = t
test_of_number (suc n) test t = t

pub is_generator : (T n : ℕ) → T < 63 → lib.Dec.T (ltb n (2 ^ (6 * T))) → lib.Dec.T (computed n (λ n. all_below (is_root 6 67 63 T (coefficient_in n)) T)) → IsGenerator T n
is_generator T n few short roots =
    record { generator = unfold coefficient_in in generator_by_table 6 67 63 T (coefficient_in n) few refl (test_of_number n _ roots); ended = ended }
  where
    ended : (i : ℕ) → T < i → coefficient_in n i ≡ 0
    ended zero l = absurd (omega arith)
    ended (suc i) l =
        let wide : 6 * T ≤ 6 * i = omega arith in
        unfold coefficient_in in unfold symbol_in in ap (λ (t : ℕ). t % 2 ^ 6) (div-eq_of_lt (lt_of_lt_of_le (ltb→lt _ _ short) (pow_mono wide)))
