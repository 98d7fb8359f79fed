-- A polynomial has fewer roots than coefficients: a root is divided out. Assumes nothing.
use mathlib.Core.Path.{◌≡◌, sym, ap, ap₂, ◌∙◌, subst}
use mathlib.Core.Bool.{Bool, true}
use mathlib.Core.Logic.{⊎_elim}
use Prim.Native.Nat.{ℕ, zero, suc, ◌+◌, ◌-◌, ◌≤◌, ◌<◌}
use native.Mathlib.Nat.{not-suc-le-zero, le_of_suc-le-suc, le_trans, le-suc, eq-or-lt_of_le, lt_irrefl, lt-suc_self}
use native.Mathlib.Omega.{arith}
use Rattle.field.specs.Laws.{Field}
use Rattle.reedsolomon.specs.Sums.{value, reversed}
use Rattle.reedsolomon.specs.Words.{Elements, NonZero, Distinct, count, unequal, nonzeros}
use Rattle.reedsolomon.specs.Quotient.{quotient}
use Rattle.reedsolomon.proofs.FieldFacts.{zero_sum, zero_mul, sum_mul, mul_exchange}
use Rattle.reedsolomon.proofs.Polynomials.{value_in}
use Rattle.reedsolomon.proofs.Counting.{nonzeros_fewer, marked_zeros_and_nonzeros}
use Rattle.reedsolomon.proofs.PowerSums.{weight_at_other_locator}

module _ {F : Type 0} {In : F → Type 0} {◌⊕◌ ◌⊗◌ : F → F → F} {𝟘 𝟙 : F} {inv : F → F} (K : Field In ◌⊕◌ ◌⊗◌ 𝟘 𝟙 inv) where
  infixl 20 ◌⊕◌
  infixl 30 ◌⊗◌
  open K use {sum_assoc, sum_zero, sum_self, mul_sum}

  abbrev value_of : ℕ → (ℕ → F) → F → F
  value_of k p x = value ◌⊕◌ ◌⊗◌ 𝟘 k p x

  abbrev quotient_of : (ℕ → F) → F → ℕ → F
  quotient_of p r = quotient ◌⊕◌ ◌⊗◌ 𝟘 p r

  -- division by x + r, whose remainder is the value at r
  pub divided_by_locator : (k : ℕ) (p : ℕ → F) (r x : F)
      → value_of (suc k) p x ≡ value_of k (quotient_of p r) x ⊗ (x ⊕ r) ⊕ value_of (suc k) p r
  unfolding value quotient
  divided_by_locator zero p r x =
      ap (λ (t : F). t ⊕ p 0) (zero_mul K x ∙ sym (zero_mul K r))
      ∙ sym (ap (λ (t : F). t ⊕ (𝟘 ⊗ r ⊕ p 0)) (zero_mul K (x ⊕ r)) ∙ zero_sum K (𝟘 ⊗ r ⊕ p 0))
  divided_by_locator (suc k) p r x =
      ap (λ (t : F). t ⊗ x ⊕ p (suc k)) (divided_by_locator k p r x)
      ∙ regroup (value_of k (quotient_of p r) x) (value_of (suc k) p r) (p (suc k))
    where
      added_twice : (h : F) → h ⊗ x ≡ h ⊗ (x ⊕ r) ⊕ h ⊗ r
      added_twice h =
          sym (sum_zero (h ⊗ x)) ∙ ap (λ (t : F). h ⊗ x ⊕ t) (sym (sum_self (h ⊗ r))) ∙ sym (sum_assoc (h ⊗ x) (h ⊗ r) (h ⊗ r))
          ∙ ap (λ (t : F). t ⊕ h ⊗ r) (sym (mul_sum h x r))

      regroup : (q h b : F) → (q ⊗ (x ⊕ r) ⊕ h) ⊗ x ⊕ b ≡ (q ⊗ x ⊕ h) ⊗ (x ⊕ r) ⊕ (h ⊗ r ⊕ b)
      regroup q h b =
          ap (λ (t : F). t ⊕ b)
          (sum_mul K (q ⊗ (x ⊕ r)) h x ∙ ap₂ ◌⊕◌ (mul_exchange K q (x ⊕ r) x) (added_twice h) ∙ sym
          (sum_assoc (q ⊗ x ⊗ (x ⊕ r)) (h ⊗ (x ⊕ r)) (h ⊗ r))
          ∙ ap (λ (t : F). t ⊕ h ⊗ r) (sym (sum_mul K (q ⊗ x) h (x ⊕ r))))
          ∙ sum_assoc ((q ⊗ x ⊕ h) ⊗ (x ⊕ r)) (h ⊗ r) b

  pub quotient_in : (k : ℕ) (p : ℕ → F) (r : F) → Elements In (suc k) p → Elements In k (quotient_of p r)
  unfolding quotient
  quotient_in k p r hp j l = value_in K (suc j) p r (λ i u. hp i (omega arith))

  -- a root of the polynomial other than r is one of the quotient, where r is a root too
  pub quotient_keeps_other_roots : (k : ℕ) (p : ℕ → F) (r x : F) → Elements In (suc k) p → In r → In x → (x ≡ r → ⊥)
      → value_of (suc k) p r ≡ 𝟘 → value_of (suc k) p x ≡ 𝟘 → value_of k (quotient_of p r) x ≡ 𝟘
  quotient_keeps_other_roots k p r x hp hr hx ne z e =
      weight_at_other_locator K (value_of k (quotient_of p r) x) x r (value_in K k (quotient_of p r) x (quotient_in k p r hp)) hx hr ne
      (sym (sum_zero (value_of k (quotient_of p r) x ⊗ (x ⊕ r))) ∙ ap (λ (t : F). value_of k (quotient_of p r) x ⊗ (x ⊕ r) ⊕ t)
      (sym z) ∙ sym (divided_by_locator k p r x) ∙ e)

  -- where the quotient's coefficients are all 0 and r is a root, so are the polynomial's
  zero_quotient : (k : ℕ) (p : ℕ → F) (r : F) → ((j : ℕ) → j < k → quotient_of p r j ≡ 𝟘) → value_of (suc k) p r ≡ 𝟘 → (j : ℕ) → j < suc k
      → p j ≡ 𝟘
  unfolding value quotient
  zero_quotient k p r hq e = coefficient
    where
      beginning : (j : ℕ) → j < suc k → value_of (suc j) p r ≡ 𝟘
      beginning j l = ⊎_elim (λ q. ap (λ (t : ℕ). value_of t p r) q ∙ e) (λ q. hq j (le_of_suc-le-suc q)) (eq-or-lt_of_le l)

      coefficient : (j : ℕ) → j < suc k → p j ≡ 𝟘
      coefficient zero l = sym (zero_sum K (p 0)) ∙ ap (λ (t : F). t ⊕ p 0) (sym (zero_mul K r)) ∙ beginning zero l
      coefficient (suc j) l =
          sym (zero_sum K (p (suc j)))
          ∙ ap (λ (t : F). t ⊕ p (suc j)) (sym (zero_mul K r) ∙ ap (λ (t : F). t ⊗ r) (sym (hq j (le_of_suc-le-suc l))))
          ∙ beginning (suc j) l

  -- the order of the coefficients does not matter for that
  pub reversed_is_not_zero : (k : ℕ) (p : ℕ → F) → NonZero 𝟘 k p → NonZero 𝟘 k (reversed k p)
  reversed_is_not_zero k p nz z = nz (λ j l. let e : j ≡ k - suc (k - suc j) = omega arith in ap p e ∙ z (k - suc j) (omega arith))

  module _ (same : (a b : F) → Dec (a ≡ b)) where
    abbrev FewRoots : ℕ → Type 0
    FewRoots n =
        (k : ℕ) (p X : ℕ → F) → Elements In k p → Elements In n X → Distinct n X → NonZero 𝟘 k p
        → n < nonzeros same 𝟘 n (λ l. value_of k p (X l)) + k

    one_locator_more : (n : ℕ) → FewRoots n → FewRoots (suc n)
    unfolding nonzeros unequal
    one_locator_more n ih k p X hp hx hd nz = last k (same (value_of k p (X n)) 𝟘) hp nz
      where
        distinct : Distinct n X
        distinct i j p q = hd i j (le_trans p (le-suc n)) (le_trans q (le-suc n))

        locators : Elements In n X
        locators j l = hx j (le_trans l (le-suc n))

        last : (k : ℕ) (d : Dec (value_of k p (X n) ≡ 𝟘)) → Elements In k p → NonZero 𝟘 k p
            → suc n < nonzeros same 𝟘 n (λ l. value_of k p (X l)) + unequal d + k
        last k (no z) hp nz = let h : n < nonzeros same 𝟘 n (λ l. value_of k p (X l)) + k = ih k p X hp locators distinct nz in omega arith
        last zero (yes z) hp nz = absurd (nz (λ j l. absurd (not-suc-le-zero l)))
        last (suc k) (yes z) hp nz =
            let q : ℕ → F = quotient_of p (X n) in
            let h : n < nonzeros same 𝟘 n (λ l. value_of k q (X l)) + k = ih k q X (quotient_in k p (X n) hp) locators distinct
            (λ hq. nz (zero_quotient k p (X n) hq z)) in
            let g : nonzeros same 𝟘 n (λ l. value_of k q (X l)) ≤ nonzeros same 𝟘 n (λ l. value_of (suc k) p (X l)) =
            nonzeros_fewer same 𝟘 n (λ l. value_of (suc k) p (X l)) (λ l. value_of k q (X l))
            (λ l u. quotient_keeps_other_roots k p (X n) (X l) hp (hx n (lt-suc_self n)) (hx l (le_trans u (le-suc n)))
            (λ e. lt_irrefl n (subst (λ (t : ℕ). t < n) (hd l n (le_trans u (le-suc n)) (lt-suc_self n) e) u)) z) in
            omega arith

    few_roots : (n : ℕ) → FewRoots n
    unfolding nonzeros
    few_roots zero = λ k p X hp hx hd nz. positive k nz
      where
        positive : (k : ℕ) → {p : ℕ → F} → NonZero 𝟘 k p → 0 < 0 + k
        positive zero nz = absurd (nz (λ j l. absurd (not-suc-le-zero l)))
        positive (suc k) nz = omega arith
    few_roots (suc n) = one_locator_more n (few_roots n)

    -- of n distinct locators, all but fewer than k are no roots of a polynomial of k coefficients that are not all 0
    pub polynomial_has_few_roots : (n k : ℕ) (p X : ℕ → F) → Elements In k p → Elements In n X → Distinct n X → NonZero 𝟘 k p
        → n < nonzeros same 𝟘 n (λ l. value_of k p (X l)) + k
    polynomial_has_few_roots n = few_roots n

    -- so fewer than k distinct locators can all be roots
    pub fewer_roots_than_coefficients : (n k : ℕ) (p X : ℕ → F) (U : ℕ → Bool) → Elements In k p → Elements In n X → Distinct n X
        → NonZero 𝟘 k p
        → ((j : ℕ) → j < n → U j ≡ true → value_of k p (X j) ≡ 𝟘) → count U n < k
    fewer_roots_than_coefficients n k p X U hp hx hd nz h =
        let a : n < nonzeros same 𝟘 n (λ l. value_of k p (X l)) + k = polynomial_has_few_roots n k p X hp hx hd nz in
        let b : count U n + nonzeros same 𝟘 n (λ l. value_of k p (X l)) ≤ n = marked_zeros_and_nonzeros same 𝟘 U
        (λ l. value_of k p (X l)) n h in
        omega arith
