-- Theory: what is to be added at an error location, by synthetic division of the error locations' product polynomial and one dot product. Assumes nothing.
use Rattle.std.specs.Prelude.{ℕ, zero, suc, ◌-◌}
use Rattle.reedsolomon.specs.Sums.{value}

module _ {F : Type 0} (◌⊕◌ ◌⊗◌ : F → F → F) (𝟘 : F) where
  infixl 20 ◌⊕◌
  infixl 30 ◌⊗◌
  -- Coefficient j of the quotient of g by x + r, the highest first: what `q = q * r + g j` holds after step j, from q = 0.
  unfoldable pub quotient : (ℕ → F) → F → ℕ → F
  quotient g r j = value ◌⊕◌ ◌⊗◌ 𝟘 (suc j) g r

  -- The quotient's value at r itself: what `d = d * r + q` holds after n steps.
  unfoldable pub denominator : (ℕ → F) → F → ℕ → F
  denominator g r zero = 𝟘
  denominator g r (suc n) = denominator g r n ⊗ r ⊕ quotient g r n

  -- The quotient's combination of k syndromes: what `a = a + S (k - 1 - j) * q` holds after n steps.
  unfoldable pub numerator : ℕ → (ℕ → F) → (ℕ → F) → F → ℕ → F
  numerator k S g r zero = 𝟘
  numerator k S g r (suc n) = numerator k S g r n ⊕ S (k - suc n) ⊗ quotient g r n

  -- what is to be added at the locator r, where g is the product polynomial of k error locations and S are the syndromes
  unfoldable pub magnitude : (F → F) → ℕ → (ℕ → F) → (ℕ → F) → F → F
  magnitude inv k S g r = numerator k S g r k ⊗ inv (denominator g r k ⊗ r)
