-- The weights of a row when one place is written. Assumes nothing.
use Prim.Native.Nat.{ℕ, zero, suc, ◌+◌, ◌<◌}
use native.Mathlib.Omega.{arith}
use native.Mathlib.Decide.{ℕ_discrete}
use mathlib.Core.Path.{◌≡◌, refl, ap, ap₂, ◌∙◌}
use Rattle.heap.specs.Heap.{weigh, Put}

module _ {A : Type 0} where
  -- by the places below n alone
  pub weigh_same : (h : A → ℕ) (f g : ℕ → A) (n : ℕ) → ((k : ℕ) → k < n → g k ≡ f k) → weigh h g n ≡ weigh h f n
  unfolding weigh
  weigh_same h f g zero e = refl
  weigh_same h f g (suc n) e = ap₂ ◌+◌ (ap h (e n (omega arith))) (weigh_same h f g n (λ k l. e k (omega arith)))

  pub weigh_put : (h : A → ℕ) (f g : ℕ → A) (i : ℕ) (x : A) (n : ℕ) → i < n → Put f g i x → weigh h g n + h (f i) ≡ weigh h f n + h x
  unfolding weigh
  weigh_put h f g i x zero lt p = absurd (omega arith)
  weigh_put h f g i x (suc n) lt p = go (ℕ_discrete n i) (λ l. weigh_put h f g i x n l p)
    where
      go : Dec (n ≡ i) → (i < n → weigh h g n + h (f i) ≡ weigh h f n + h x) → (h (g n) + weigh h g n) + h (f i) ≡ (h (f n) + weigh h f n) + h x
      go (yes e) again =
          let a : h (g n) ≡ h x = ap h (ap g e ∙ p.here) in
          let b : h (f n) ≡ h (f i) = ap (λ (k : ℕ). h (f k)) e in
          let c = weigh_same h f g n (λ k l. p.there k (omega arith)) in
          omega (arith, a, b, c)
      go (no e) again =
          let a : h (g n) ≡ h (f n) = ap h (p.there n e) in
          omega (arith, a, again (omega arith))
