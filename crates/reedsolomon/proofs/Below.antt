-- A test that is computed at all numbers below a bound holds at each of them. Assumes nothing.
use mathlib.Core.Path.{sym, subst}
use mathlib.Core.Bool.{Bool, true, false}
use mathlib.Core.Logic.{⊎_elim}
use Prim.Native.Nat.{ℕ, zero, suc, ◌<◌}
use native.Mathlib.Nat.{suc_inj, not-suc-le-zero, le_of_suc-le-suc, eq-or-lt_of_le}
use lib.Dec.{T}

abbrev pub all_below : (ℕ → Bool) → ℕ → Bool
all_below test zero = true
all_below test (suc n) = elim (test n) [ true ↦ all_below test n | false ↦ false ]

pub at_each : (test : ℕ → Bool) (n : ℕ) → T (all_below test n) → (i : ℕ) → i < n → T (test i)
at_each test zero t i l = absurd (not-suc-le-zero l)
at_each test (suc n) t i l = go (test n) (λ p. p) t (λ u. at_each test n u i)
  where
    go : (b : Bool) → (T b → T (test n)) → T (elim b [ true ↦ all_below test n | false ↦ false ]) → (T (all_below test n) → i < n → T (test i)) → T (test i)
    go false e t others = absurd t
    go true e t others = ⊎_elim (λ p. subst (λ (x : ℕ). T (test x)) (sym (suc_inj p)) (e tt)) (λ p. others t (le_of_suc-le-suc p)) (eq-or-lt_of_le l)
