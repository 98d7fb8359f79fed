-- A test that passes at every place, or fails at one. Assumes nothing.
use mathlib.Core.Path.{◌≡◌, refl, ap, ap₂, ◌∙◌, sym}
use mathlib.Core.Bool.{Bool, true, false, cond}
use Prim.Native.Nat.{ℕ, zero, suc, ◌+◌, ◌<◌}
use native.Mathlib.Nat.{not-suc-le-zero, add-zero, add-suc}
use native.Mathlib.Numerals.{add-one}
use native.Mathlib.Omega.{arith}
use Rattle.dump.specs.Listed.{all_below}
use Rattle.dump.proofs.Listed.{below_or_last}

module _ (test : ℕ → Bool) where
  pub all_more : (k : ℕ) → all_below test k ≡ true → test k ≡ true → all_below test (k + 1) ≡ true
  unfolding all_below
  all_more k before here = rw (add-one, before, here)

  pub all_of : (n : ℕ) → ((k : ℕ) → k < n → test k ≡ true) → all_below test n ≡ true
  unfolding all_below
  all_of zero each = refl
  all_of (suc n) each = rw (all_of n (λ k h. each k (omega arith)), each n (omega arith))

  pub all_not : (n k : ℕ) → k < n → test k ≡ false → all_below test n ≡ false
  unfolding all_below
  all_not zero k h fails = absurd (not-suc-le-zero h)
  all_not (suc n) k h fails =
      below_or_last k n h
      (λ l. ap (λ (t : Bool). cond t (test n) false) (all_not n k l fails))
      (λ e. ap (λ (t : Bool). cond (all_below test n) t false) (ap test (sym e) ∙ fails) ∙ never (all_below test n))
    where
      never : (t : Bool) → cond t false false ≡ false
      never true = refl
      never false = refl

  -- the first a places, and the n behind them
  pub all_split : (a n : ℕ) → all_below test (a + n) ≡ cond (all_below test a) (all_below (λ (k : ℕ). test (a + k)) n) false
  unfolding all_below
  all_split a zero = rw add-zero (sym (alone (all_below test a)))
    where
      alone : (t : Bool) → cond t true false ≡ t
      alone true = refl
      alone false = refl
  all_split a (suc n) = rw add-suc (ap (λ (t : Bool). cond t (test (a + n)) false) (all_split a n) ∙ nested (all_below test a))
    where
      nested : (t : Bool) → cond (cond t (all_below (λ (k : ℕ). test (a + k)) n) false) (test (a + n)) false ≡ cond t (cond (all_below (λ (k : ℕ). test (a + k)) n) (test (a + n)) false) false
      nested true = refl
      nested false = refl

  pub all_at : (n k : ℕ) → k < n → all_below test n ≡ true → test k ≡ true
  all_at n k h passes = by_test (test k) refl
    where
      by_test : (t : Bool) → test k ≡ t → test k ≡ true
      by_test true e = e
      by_test false e = let z : ◌≡◌ {A = ℕ} 0 1 = cc (all_not n k h e) in absurd (omega arith)

pub all_ext : (test other : ℕ → Bool) (n : ℕ) → ((k : ℕ) → k < n → test k ≡ other k) → all_below test n ≡ all_below other n
unfolding all_below
all_ext test other zero each = refl
all_ext test other (suc n) each = ap₂ (λ (s t : Bool). cond s t false) (all_ext test other n (λ k h. each k (omega arith))) (each n (omega arith))
