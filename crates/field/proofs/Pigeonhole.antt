-- A map of the numbers below n into themselves that takes no value twice takes each value. Assumes nothing.
use mathlib.Core.Path.{◌≡◌, sym, ◌∙◌, subst}
use mathlib.Core.Logic.{◌⊎◌, inl, inr, ⊎_elim}
use Prim.Native.Nat.{ℕ, zero, suc, ◌≤◌, ◌<◌}
use native.Mathlib.Nat.{not-suc-le-zero, le_of_suc-le-suc, le_trans, le-suc, lt-suc_self, zero-lt-suc}
use native.Mathlib.Decide.{ℕ_discrete}
use native.Mathlib.Omega.{arith}

-- f takes no value twice below n
abbrev pub Distinct : ℕ → (ℕ → ℕ) → Type 0
Distinct n f = (i j : ℕ) → i < n → j < n → f i ≡ f j → i ≡ j

-- v in place of the value that was found, else x itself
unfoldable instead : {A : Type 0} → Dec A → ℕ → ℕ → ℕ
instead (yes p) v x = v
instead (no p) v x = x

-- where f stays below n + 1 and does not take v, the values n can be changed to v: then it stays below n and still takes no value twice
module _ (n c v : ℕ) (f : ℕ → ℕ) (low : (k : ℕ) → k < c → f k < suc n) (hv : v < suc n) (free : (k : ℕ) → k < c → f k ≡ v → ⊥) (one : Distinct c f) where
  changed : ℕ → ℕ
  changed k = instead (ℕ_discrete (f k) n) v (f k)

  changed_low : (k : ℕ) → k < c → changed k < n
  unfolding changed instead
  changed_low k h = go (ℕ_discrete (f k) n)
    where
      go : (d : Dec (f k ≡ n)) → instead d v (f k) < n
      go (yes p) =
          let l : v ≤ n = le_of_suc-le-suc hv in
          let ne : v ≡ n → ⊥ = λ e. free k h (p ∙ sym e) in
          omega arith
      go (no p) = let l : f k < suc n = low k h in omega arith

  changed_distinct : Distinct c changed
  unfolding changed instead
  changed_distinct i j hi hj = go (ℕ_discrete (f i) n) (ℕ_discrete (f j) n)
    where
      go : (d : Dec (f i ≡ n)) (e : Dec (f j ≡ n)) → instead d v (f i) ≡ instead e v (f j) → i ≡ j
      go (yes p) (yes q) r = one i j hi hj (p ∙ sym q)
      go (yes p) (no q) r = absurd (free j hj (sym r))
      go (no p) (yes q) r = absurd (free i hi r)
      go (no p) (no q) r = one i j hi hj r

-- n + 1 numbers do not fit below n
crowded : (n : ℕ) (f : ℕ → ℕ) → ((k : ℕ) → k < suc n → f k < n) → Distinct (suc n) f → ⊥
crowded zero f low one = not-suc-le-zero (low zero (zero-lt-suc zero))
crowded (suc n) f low one =
    crowded n (changed n (suc n) (f (suc n)) f inner top free fewer) (changed_low n (suc n) (f (suc n)) f inner top free fewer)
    (changed_distinct n (suc n) (f (suc n)) f inner top free fewer)
  where
    inner : (k : ℕ) → k < suc n → f k < suc n
    inner k h = low k (le_trans h (le-suc (suc n)))

    top : f (suc n) < suc n
    top = low (suc n) (lt-suc_self (suc n))

    free : (k : ℕ) → k < suc n → f k ≡ f (suc n) → ⊥
    free k h e = let same : k ≡ suc n = one k (suc n) (le_trans h (le-suc (suc n))) (lt-suc_self (suc n)) e in omega arith

    fewer : Distinct (suc n) f
    fewer i j hi hj = one i j (le_trans hi (le-suc (suc n))) (le_trans hj (le-suc (suc n)))

-- a value is taken below n, or it is not
taken : (f : ℕ → ℕ) (v n : ℕ) → ((k : ℕ) × (k < n) × (f k ≡ v)) ⊎ ((k : ℕ) → k < n → f k ≡ v → ⊥)
taken f v zero = inr (λ k h. absurd (not-suc-le-zero h))
taken f v (suc n) = go (ℕ_discrete (f n) v) (taken f v n)
  where
    go : Dec (f n ≡ v) → ((k : ℕ) × (k < n) × (f k ≡ v)) ⊎ ((k : ℕ) → k < n → f k ≡ v → ⊥) → ((k : ℕ) × (k < suc n) × (f k ≡ v)) ⊎ ((k : ℕ) → k < suc n → f k ≡ v → ⊥)
    go (yes p) r = inl (n, lt-suc_self n, p)
    go (no p) (inl r) = inl (r.0, le_trans r.1 (le-suc n), r.2)
    go (no p) (inr r) = inr (λ k h e. ⊎_elim (λ q. p (subst (λ (t : ℕ). f t ≡ v) q e)) (λ q. r k q e) (last k h))
      where
        last : (k : ℕ) → k < suc n → (k ≡ n) ⊎ (k < n)
        last k h = native.Mathlib.Nat.eq-or-lt_of_le (le_of_suc-le-suc h)

pub distinct_takes_all : (n : ℕ) (f : ℕ → ℕ) → ((k : ℕ) → k < n → f k < n) → Distinct n f → (v : ℕ) → v < n → (k : ℕ) × (k < n) × (f k ≡ v)
distinct_takes_all zero f low one v hv = absurd (not-suc-le-zero hv)
distinct_takes_all (suc n) f low one v hv =
    ⊎_elim (λ r. r)
    (λ free. absurd (crowded n (changed n (suc n) v f low hv free one) (changed_low n (suc n) v f low hv free one) (changed_distinct n (suc n) v f low hv free one)))
    (taken f v (suc n))
