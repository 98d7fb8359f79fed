-- Finite sums over a field. Assumes nothing.
use mathlib.Core.Path.{◌≡◌, refl, sym, ap, ap₂, ◌∙◌, subst}
use mathlib.Core.Logic.{⊎_elim}
use Prim.Native.Nat.{ℕ, zero, suc, ◌+◌, ◌-◌, ◌≤◌, ◌<◌}
use native.Mathlib.Nat.{not-suc-le-zero, le_of_suc-le-suc, le_trans, le-suc, eq-or-lt_of_le, lt_irrefl, lt-suc_self, suc_inj}
use native.Mathlib.Omega.{arith}
use Rattle.field.specs.Laws.{Field}
use Rattle.reedsolomon.specs.Sums.{sum}
use Rattle.reedsolomon.specs.Words.{Elements}
use Rattle.reedsolomon.proofs.FieldFacts.{zero_sum, mul_zero, sum_swap}

module _ {F : Type 0} {In : F → Type 0} {◌⊕◌ ◌⊗◌ : F → F → F} {𝟘 𝟙 : F} {inv : F → F} (K : Field In ◌⊕◌ ◌⊗◌ 𝟘 𝟙 inv) where
  infixl 20 ◌⊕◌
  infixl 30 ◌⊗◌
  open K use {sum_assoc, sum_comm, sum_zero, mul_sum, in_zero, in_sum}

  abbrev Σ : ℕ → (ℕ → F) → F
  Σ n f = sum ◌⊕◌ 𝟘 n f

  pub sum_of_sums : (n : ℕ) (f g : ℕ → F) → Σ n (λ j. f j ⊕ g j) ≡ Σ n f ⊕ Σ n g
  unfolding sum
  sum_of_sums zero f g = sym (sum_zero 𝟘)
  sum_of_sums (suc n) f g = ap (λ (t : F). t ⊕ (f n ⊕ g n)) (sum_of_sums n f g) ∙ sum_swap K (Σ n f) (Σ n g) (f n) (g n)

  pub sum_of_multiples : (n : ℕ) (a : F) (f : ℕ → F) → Σ n (λ j. a ⊗ f j) ≡ a ⊗ Σ n f
  unfolding sum
  sum_of_multiples zero a f = sym (mul_zero K a)
  sum_of_multiples (suc n) a f = ap (λ (t : F). t ⊕ a ⊗ f n) (sum_of_multiples n a f) ∙ sym (mul_sum a (Σ n f) (f n))

  pub sum_of_equals : (n : ℕ) (f g : ℕ → F) → ((j : ℕ) → j < n → f j ≡ g j) → Σ n f ≡ Σ n g
  unfolding sum
  sum_of_equals zero f g h = refl
  sum_of_equals (suc n) f g h = ap₂ ◌⊕◌ (sum_of_equals n f g (λ j l. h j (le_trans l (le-suc n)))) (h n (lt-suc_self n))

  pub sum_of_zeros : (n : ℕ) (f : ℕ → F) → ((j : ℕ) → j < n → f j ≡ 𝟘) → Σ n f ≡ 𝟘
  unfolding sum
  sum_of_zeros zero f h = refl
  sum_of_zeros (suc n) f h = ap₂ ◌⊕◌ (sum_of_zeros n f (λ j l. h j (le_trans l (le-suc n)))) (h n (lt-suc_self n)) ∙ sum_zero 𝟘

  -- a sum whose only term that may differ from 0 is the one at l
  pub sum_of_one_term : (n l : ℕ) (f : ℕ → F) → l < n → ((j : ℕ) → j < n → (j ≡ l → ⊥) → f j ≡ 𝟘) → Σ n f ≡ f l
  unfolding sum
  sum_of_one_term zero l f h o = absurd (not-suc-le-zero h)
  sum_of_one_term (suc n) l f h o =
      ⊎_elim
      (λ q. ap₂ ◌⊕◌ (sum_of_zeros n f (λ j u. o j (le_trans u (le-suc n)) (λ z. lt_irrefl n (subst (λ (t : ℕ). t < n) (z ∙ suc_inj q) u))))
      (ap f (sym (suc_inj q))) ∙ zero_sum K (f l))
      (λ q.
      ap₂ ◌⊕◌ (sum_of_one_term n l f (le_of_suc-le-suc q) (λ j u. o j (le_trans u (le-suc n))))
      (o n (lt-suc_self n) (λ z. lt_irrefl n (subst (λ (t : ℕ). t < n) (sym z) (le_of_suc-le-suc q))))
      ∙ sum_zero (f l))
      (eq-or-lt_of_le h)

  -- the first term apart
  pub sum_first : (n : ℕ) (f : ℕ → F) → Σ (suc n) f ≡ f 0 ⊕ Σ n (λ j. f (suc j))
  unfolding sum
  sum_first zero f = sum_comm 𝟘 (f 0)
  sum_first (suc n) f = ap (λ (t : F). t ⊕ f (suc n)) (sum_first n f) ∙ sum_assoc (f 0) (Σ n (λ j. f (suc j))) (f (suc n))

  -- the terms may be added from the last to the first
  pub sum_reversed : (n : ℕ) (f : ℕ → F) → Σ n (λ j. f (n - suc j)) ≡ Σ n f
  unfolding sum
  sum_reversed zero f = refl
  sum_reversed (suc n) f =
      sum_first n (λ j. f (suc n - suc j))
      ∙ ap₂ ◌⊕◌ (ap f (last n)) (sum_of_equals n (λ j. f (suc n - suc (suc j))) (λ j. f (n - suc j))
      (λ j l. ap f (next n j)) ∙ sum_reversed n f)
      ∙ sum_comm (f n) (Σ n f)
    where
      last : (n : ℕ) → suc n - 1 ≡ n
      last n = omega arith

      next : (n j : ℕ) → suc n - suc (suc j) ≡ n - suc j
      next n j = omega arith

  -- a sum in two parts: the first m terms and the t others
  pub sum_in_parts : (m t : ℕ) (f : ℕ → F) → Σ (m + t) f ≡ Σ m f ⊕ Σ t (λ j. f (m + j))
  unfolding sum
  sum_in_parts m zero f = ap (λ (x : ℕ). Σ x f) (native.Mathlib.Nat.add-zero m) ∙ sym (sum_zero (Σ m f))
  sum_in_parts m (suc t) f =
      ap (λ (x : ℕ). Σ x f) (native.Mathlib.Nat.add-suc m t) ∙ ap (λ (x : F). x ⊕ f (m + t)) (sum_in_parts m t f)
      ∙ sum_assoc (Σ m f) (Σ t (λ j. f (m + j))) (f (m + t))

  -- terms that are 0 may be left out at the end
  pub sum_without_end : (m t : ℕ) (f : ℕ → F) → ((j : ℕ) → m ≤ j → j < m + t → f j ≡ 𝟘) → Σ (m + t) f ≡ Σ m f
  sum_without_end m t f h =
      sum_in_parts m t f ∙ ap (λ (x : F). Σ m f ⊕ x) (sum_of_zeros t (λ j. f (m + j)) (λ j l. h (m + j) (omega arith) (omega arith))) ∙ sum_zero (Σ m f)

  pub sum_in : (n : ℕ) (f : ℕ → F) → Elements In n f → In (Σ n f)
  unfolding sum
  sum_in zero f h = in_zero
  sum_in (suc n) f h = in_sum (Σ n f) (f n) (sum_in n f (λ j l. h j (le_trans l (le-suc n)))) (h n (lt-suc_self n))
