-- Strict orders given by tests, one after the other. Assumes nothing.
use mathlib.Core.Bool.{Bool, true, false, false≢true}
use mathlib.Core.Logic.{◌⊎◌, inl, inr, ⊎_elim}
use mathlib.Core.Path.{◌≡◌, refl, sym, ap, ◌∙◌, subst, subst⁻¹}
use Prim.Native.Nat.{ℕ}
use native.Mathlib.Nat.{le_antisymm}
use native.Mathlib.Omega.{arith}
use lib.Dec.{ltb}
use lib.IntN.{ℤ, pos, negsuc}
use lib.Signed.{lt_z}
use borrow.Author.Tests.{ltb-true, ltb-false, lt-ltb}
use Rattle.trellis.specs.Order.{first_by}

-- strict, and total but for what E joins
pub record Strict (A : Type 0) (E : A → A → Type 0) (R : A → A → Bool) : Type 0 where
  pub irreflexive : (x : A) → R x x ≡ true → ⊥
  pub transitive : (x y z : A) → R x y ≡ true → R y z ≡ true → R x z ≡ true
  pub total : (x y : A) → E x y ⊎ ((R x y ≡ true) ⊎ (R y x ≡ true))

pub strict_nat : Strict ℕ (λ a b. a ≡ b) ltb
strict_nat = record {
  irreflexive = λ x e. omega (arith, ltb-true x x e);
  transitive = λ x y z e k. lt-ltb x z (omega (arith, ltb-true x y e, ltb-true y z k));
  total = λ x y. go x y (ltb x y) refl (ltb y x) refl;
}
  where
    go : (x y : ℕ) (s : Bool) → ltb x y ≡ s → (t : Bool) → ltb y x ≡ t → (x ≡ y) ⊎ ((ltb x y ≡ true) ⊎ (ltb y x ≡ true))
    go x y true e t k = inr (inl e)
    go x y false e true k = inr (inr k)
    go x y false e false k = inl (le_antisymm (ltb-false y x k) (ltb-false x y e))

pub strict_int : Strict ℤ (λ a b. a ≡ b) lt_z
strict_int = record { irreflexive = irreflexive; transitive = transitive; total = total }
  where
    irreflexive : (x : ℤ) → lt_z x x ≡ true → ⊥
    irreflexive (pos a) e = strict_nat.irreflexive a e
    irreflexive (negsuc a) e = strict_nat.irreflexive a e

    transitive : (x y z : ℤ) → lt_z x y ≡ true → lt_z y z ≡ true → lt_z x z ≡ true
    transitive (pos a) (pos b) (pos c) e k = strict_nat.transitive a b c e k
    transitive (pos a) (pos b) (negsuc c) e k = k
    transitive (pos a) (negsuc b) z e k = absurd (false≢true e)
    transitive (negsuc a) (pos b) (pos c) e k = refl
    transitive (negsuc a) (pos b) (negsuc c) e k = absurd (false≢true k)
    transitive (negsuc a) (negsuc b) (pos c) e k = refl
    transitive (negsuc a) (negsuc b) (negsuc c) e k = strict_nat.transitive c b a k e

    total : (x y : ℤ) → (x ≡ y) ⊎ ((lt_z x y ≡ true) ⊎ (lt_z y x ≡ true))
    total (pos a) (pos b) = ⊎_elim (λ e. inl (ap pos e)) (λ k. inr k) (strict_nat.total a b)
    total (pos a) (negsuc b) = inr (inr refl)
    total (negsuc a) (pos b) = inr (inl refl)
    total (negsuc a) (negsuc b) = ⊎_elim (λ e. inl (ap negsuc e)) (⊎_elim (λ k. inr (inr k)) (λ k. inr (inl k))) (strict_nat.total a b)

-- the other way round
pub strict_flip : {A : Type 0} {R : A → A → Bool} → Strict A (λ a b. a ≡ b) R → Strict A (λ a b. a ≡ b) (λ a b. R b a)
strict_flip s = record {
  irreflexive = s.irreflexive;
  transitive = λ x y z e k. s.transitive z y x k e;
  total = λ x y. ⊎_elim (λ e. inl e) (⊎_elim (λ k. inr (inr k)) (λ k. inr (inl k))) (s.total x y);
}

-- by the values of a function
pub strict_on : {X A : Type 0} {R : A → A → Bool} (f : X → A) → Strict A (λ a b. a ≡ b) R → Strict X (λ x y. f x ≡ f y) (λ x y. R (f x) (f y))
strict_on f s = record {
  irreflexive = λ x. s.irreflexive (f x);
  transitive = λ x y z. s.transitive (f x) (f y) (f z);
  total = λ x y. s.total (f x) (f y);
}

-- by R on the values of f first, then by N
abbrev pub order_by_first : {X A : Type 0} → (X → A) → (A → A → Bool) → (X → X → Bool) → X → X → Bool
order_by_first f R N x y = first_by (R (f x) (f y)) (R (f y) (f x)) (N x y)

module _ {X A : Type 0} (E : X → X → Type 0) (f : X → A) (R : A → A → Bool) (N : X → X → Bool) (r : Strict A (λ a b. a ≡ b) R) (s : Strict X E N) where
  Decided : X → X → Type 0
  Decided x y = (R (f x) (f y) ≡ true) ⊎ ((f x ≡ f y) × (N x y ≡ true))

  decided : (x y : X) → order_by_first f R N x y ≡ true → Decided x y
  unfolding Decided
  decided x y e = go (R (f x) (f y)) refl (R (f y) (f x)) refl e
    where
      go : (t : Bool) → R (f x) (f y) ≡ t → (u : Bool) → R (f y) (f x) ≡ u → first_by t u (N x y) ≡ true → Decided x y
      go true a u b e = inl a
      go false a true b e = absurd (false≢true e)
      go false a false b e = inr ((⊎_elim (λ k. k) (⊎_elim (λ k. absurd (false≢true (sym a ∙ k))) (λ k. absurd (false≢true (sym b ∙ k)))) (r.total (f x) (f y)), e))

  decides : (x y : X) → Decided x y → order_by_first f R N x y ≡ true
  unfolding Decided
  decides x y (inl e) = ap (λ (t : Bool). first_by t (R (f y) (f x)) (N x y)) e
  decides x y (inr (e, k)) = go (R (f x) (f y)) refl (R (f y) (f x)) refl
    where
      go : (t : Bool) → R (f x) (f y) ≡ t → (u : Bool) → R (f y) (f x) ≡ u → first_by t u (N x y) ≡ true
      go true a u b = refl
      go false a true b = absurd (r.irreflexive (f x) (subst (λ (v : A). R v (f x) ≡ true) (sym e) b))
      go false a false b = k

  chained : (x y z : X) → Decided x y → Decided y z → Decided x z
  unfolding Decided
  chained x y z (inl e) (inl k) = inl (r.transitive (f x) (f y) (f z) e k)
  chained x y z (inl e) (inr k) = inl (subst (λ (v : A). R (f x) v ≡ true) k.0 e)
  chained x y z (inr e) (inl k) = inl (subst⁻¹ (λ (v : A). R v (f z) ≡ true) e.0 k)
  chained x y z (inr e) (inr k) = inr ((e.0 ∙ k.0, s.transitive x y z e.1 k.1))

  pub strict_first_by : Strict X (λ x y. (f x ≡ f y) × E x y) (order_by_first f R N)
  unfolding Decided
  strict_first_by = record {
    irreflexive = λ x e. ⊎_elim (r.irreflexive (f x)) (λ k. s.irreflexive x k.1) (decided x x e);
    transitive = λ x y z e k. decides x z (chained x y z (decided x y e) (decided y z k));
    total = λ x y.
        ⊎_elim
        (λ e.
        ⊎_elim (λ k. inl ((e, k))) (⊎_elim (λ k. inr (inl (decides x y (inr ((e, k)))))) (λ k. inr (inr (decides y x (inr ((sym e, k)))))))
        (s.total x y))
        (⊎_elim (λ k. inr (inl (decides x y (inl k)))) (λ k. inr (inr (decides y x (inl k)))))
        (r.total (f x) (f y));
  }
