-- An element goes up or down in a heap, and the heap is whole again. Assumes nothing.
use Prim.Native.Nat.{ℕ, zero, suc, ◌+◌, ◌-◌, ◌/◌, ◌≤◌, ◌<◌}
use native.Mathlib.Omega.{arith}
use native.Mathlib.Decide.{ℕ_discrete}
use mathlib.Core.Path.{◌≡◌, refl, sym, ap, ◌∙◌, subst, subst⁻¹}
use Rattle.heap.specs.Heap.{weigh, Put, Heap}
use Rattle.heap.specs.Moves.{Rising, Sinking}
use Rattle.heap.proofs.Weights.{weigh_put}

module _ {A : Type 0} (R : A → A → Type 0) where
  module _ (trans : (a b c : A) → R a b → R b c → R a c) where
    pub rising_start : (f : ℕ → A) (x : A) (n : ℕ) → Heap R f n → Rising R f f x n n
    unfolding weigh
    rising_start f x n p =
        record {
          within = omega arith;
          weight = λ h. omega arith;
          order = λ j a b c d. p.order j a (omega arith);
          under = λ j a b e. absurd (omega arith);
          above = λ j a b e c. absurd (omega arith);
        }

    pub rising_step : (f₀ f g : ℕ → A) (x : A) (i n : ℕ) → 0 < i → Put f g i (f ((i - 1) / 4)) → R x (f ((i - 1) / 4)) → Rising R f₀ f x i n → Rising R f₀ g x ((i - 1) / 4) n
    rising_step f₀ f g x i n pos p lt r =
        record {
          within = omega (arith, r.within);
          weight = λ h. let a = weigh_put h f g i (f q) (suc n) (omega (arith, r.within)) p in let b : h (g q) ≡ h (f q) = ap h (p.there q ne) in omega (arith, a, b, r.weight h);
          order = λ j a b c d. order j a b c d (ℕ_discrete ((j - 1) / 4) i);
          under = λ j a b e. under j a b e (ℕ_discrete j i);
          above = λ j a b e c. above j a b e c (ℕ_discrete j i);
        }
      where
        q : ℕ
        q = (i - 1) / 4

        ne : q ≡ i → ⊥
        ne e = omega arith

        sibling : (j : ℕ) → 0 < j → j ≤ n → (j - 1) / 4 ≡ q → (j ≡ i → ⊥) → R (f q) (f j)
        sibling j a b e c = subst (λ (k : ℕ). R (f k) (f j)) e (r.order j a b c (λ z. ne (sym e ∙ z)))

        parent : 0 < q → R (f ((q - 1) / 4)) (f q)
        parent c = r.order q c (omega (arith, r.within)) ne (λ z. omega arith)

        order : (j : ℕ) → 0 < j → j ≤ n → (j ≡ q → ⊥) → ((j - 1) / 4 ≡ q → ⊥) → Dec ((j - 1) / 4 ≡ i) → R (g ((j - 1) / 4)) (g j)
        order j a b c d (yes e) =
            let ji : j ≡ i → ⊥ = λ z. omega arith in
            subst⁻¹ (λ (y : A). R (g ((j - 1) / 4)) y) (p.there j ji) (subst⁻¹ (λ (y : A). R y (f j)) (ap g e ∙ p.here) (r.above j a b e pos))
        order j a b c d (no e) =
            let ji : j ≡ i → ⊥ = λ z. d (ap (λ (k : ℕ). (k - 1) / 4) z) in
            subst⁻¹ (λ (y : A). R (g ((j - 1) / 4)) y) (p.there j ji) (subst⁻¹ (λ (y : A). R y (f j)) (p.there ((j - 1) / 4) e) (r.order j a b ji e))

        under : (j : ℕ) → 0 < j → j ≤ n → (j - 1) / 4 ≡ q → Dec (j ≡ i) → R x (g j)
        under j a b e (yes z) = subst⁻¹ (λ (y : A). R x y) (ap g z ∙ p.here) lt
        under j a b e (no z) = subst⁻¹ (λ (y : A). R x y) (p.there j z) (trans x (f q) (f j) lt (sibling j a b e z))

        above : (j : ℕ) → 0 < j → j ≤ n → (j - 1) / 4 ≡ q → 0 < q → Dec (j ≡ i) → R (g ((q - 1) / 4)) (g j)
        above j a b e c (yes z) =
            subst⁻¹ (λ (y : A). R y (g j)) (p.there ((q - 1) / 4) (λ w. omega arith)) (subst⁻¹ (λ (y : A). R (f ((q - 1) / 4)) y) (ap g z ∙ p.here) (parent c))
        above j a b e c (no z) =
            subst⁻¹ (λ (y : A). R y (g j)) (p.there ((q - 1) / 4) (λ w. omega arith)) (subst⁻¹ (λ (y : A). R (f ((q - 1) / 4)) y) (p.there j z) (trans (f ((q - 1) / 4)) (f q) (f j) (parent c) (sibling j a b e z)))

    pub rising_weight : (f₀ f g : ℕ → A) (x : A) (i n : ℕ) → Put f g i x → Rising R f₀ f x i n → (h : A → ℕ) → weigh h g (suc n) ≡ weigh h f₀ n + h x
    rising_weight f₀ f g x i n p r h = omega (arith, weigh_put h f g i x (suc n) (omega (arith, r.within)) p, r.weight h)

    pub rising_end : (f₀ f g : ℕ → A) (x : A) (i n : ℕ) → Put f g i x → (0 < i → R (f ((i - 1) / 4)) x) → Rising R f₀ f x i n → Heap R g (suc n)
    rising_end f₀ f g x i n p top r = record { order = λ j a b. go j a b (ℕ_discrete j i) (ℕ_discrete ((j - 1) / 4) i) }
      where
        go : (j : ℕ) → 0 < j → j < suc n → Dec (j ≡ i) → Dec ((j - 1) / 4 ≡ i) → R (g ((j - 1) / 4)) (g j)
        go j a b (yes e) d =
            let ne : (j - 1) / 4 ≡ i → ⊥ = λ z. omega arith in
            let ei : f ((j - 1) / 4) ≡ f ((i - 1) / 4) = ap (λ (k : ℕ). f ((k - 1) / 4)) e in
            subst⁻¹ (λ (y : A). R (g ((j - 1) / 4)) y) (ap g e ∙ p.here) (subst⁻¹ (λ (y : A). R y x) (p.there ((j - 1) / 4) ne ∙ ei) (top (omega (arith, e))))
        go j a b (no e) (yes d) = subst⁻¹ (λ (y : A). R (g ((j - 1) / 4)) y) (p.there j e) (subst⁻¹ (λ (y : A). R y (f j)) (ap g d ∙ p.here) (r.under j a (omega arith) d))
        go j a b (no e) (no d) = subst⁻¹ (λ (y : A). R (g ((j - 1) / 4)) y) (p.there j e) (subst⁻¹ (λ (y : A). R y (f j)) (p.there ((j - 1) / 4) d) (r.order j a (omega arith) e d))

    pub sinking_start : (f : ℕ → A) (x : A) (n : ℕ) → 0 < n → Heap R f n → Sinking R f f x 0 n
    sinking_start f x n some p =
        record {
          within = some;
          weight = λ h. refl;
          order = λ j a b c d. p.order j a b;
          over = λ a. absurd (omega arith);
          above = λ j a b e c. absurd (omega arith);
        }

    -- m is the first of the children of i, and does not come after x
    pub sinking_step : (f₀ f g : ℕ → A) (x : A) (i m n : ℕ) → 0 < m → m < n → (m - 1) / 4 ≡ i
        → ((j : ℕ) → 0 < j → j < n → (j - 1) / 4 ≡ i → R (f m) (f j))
        → R (f m) x → Put f g i (f m) → Sinking R f₀ f x i n → Sinking R f₀ g x m n
    sinking_step f₀ f g x i m n some lt e best first p r =
        record {
          within = lt;
          weight = λ h. let a = weigh_put h f g i (f m) n r.within p in let b : h (g m) ≡ h (f m) = ap h (p.there m ne) in omega (arith, a, b, r.weight h);
          order = λ j a b c d. order j a b c d (ℕ_discrete j i) (ℕ_discrete ((j - 1) / 4) i);
          over = λ a. subst⁻¹ (λ (y : A). R y x) (ap g e ∙ p.here) first;
          above = λ j a b d c. subst⁻¹ (λ (y : A). R y (g j)) (ap g e ∙ p.here) (subst⁻¹ (λ (y : A). R (f m) y) (p.there j (λ z. omega arith)) (subst (λ (k : ℕ). R (f k) (f j)) d (r.order j a b (λ z. omega arith) (λ z. ne (sym d ∙ z)))));
        }
      where
        ne : m ≡ i → ⊥
        ne z = omega arith

        order : (j : ℕ) → 0 < j → j < n → (j ≡ m → ⊥) → ((j - 1) / 4 ≡ m → ⊥) → Dec (j ≡ i) → Dec ((j - 1) / 4 ≡ i) → R (g ((j - 1) / 4)) (g j)
        order j a b c d (yes z) w =
            let ei : f ((j - 1) / 4) ≡ f ((i - 1) / 4) = ap (λ (k : ℕ). f ((k - 1) / 4)) z in
            subst⁻¹ (λ (y : A). R (g ((j - 1) / 4)) y) (ap g z ∙ p.here) (subst⁻¹ (λ (y : A). R y (f m)) (p.there ((j - 1) / 4) (λ v. omega arith) ∙ ei) (r.above m some lt e (omega (arith, z))))
        order j a b c d (no z) (yes w) = subst⁻¹ (λ (y : A). R (g ((j - 1) / 4)) y) (p.there j z) (subst⁻¹ (λ (y : A). R y (f j)) (ap g w ∙ p.here) (best j a b w))
        order j a b c d (no z) (no w) = subst⁻¹ (λ (y : A). R (g ((j - 1) / 4)) y) (p.there j z) (subst⁻¹ (λ (y : A). R y (f j)) (p.there ((j - 1) / 4) w) (r.order j a b z w))

    pub sinking_weight : (f₀ f g : ℕ → A) (x : A) (i n : ℕ) → Put f g i x → Sinking R f₀ f x i n → (h : A → ℕ) → weigh h g n + h (f₀ 0) ≡ weigh h f₀ n + h x
    sinking_weight f₀ f g x i n p r h = omega (arith, weigh_put h f g i x n r.within p, r.weight h)

    -- x comes after none of the children of i
    pub sinking_end : (f₀ f g : ℕ → A) (x : A) (i n : ℕ) → Put f g i x → ((j : ℕ) → 0 < j → j < n → (j - 1) / 4 ≡ i → R x (f j)) → Sinking R f₀ f x i n → Heap R g n
    sinking_end f₀ f g x i n p below r = record { order = λ j a b. go j a b (ℕ_discrete j i) (ℕ_discrete ((j - 1) / 4) i) }
      where
        go : (j : ℕ) → 0 < j → j < n → Dec (j ≡ i) → Dec ((j - 1) / 4 ≡ i) → R (g ((j - 1) / 4)) (g j)
        go j a b (yes e) d =
            let ei : f ((j - 1) / 4) ≡ f ((i - 1) / 4) = ap (λ (k : ℕ). f ((k - 1) / 4)) e in
            subst⁻¹ (λ (y : A). R (g ((j - 1) / 4)) y) (ap g e ∙ p.here) (subst⁻¹ (λ (y : A). R y x) (p.there ((j - 1) / 4) (λ v. omega arith) ∙ ei) (r.over (omega (arith, e))))
        go j a b (no e) (yes d) = subst⁻¹ (λ (y : A). R (g ((j - 1) / 4)) y) (p.there j e) (subst⁻¹ (λ (y : A). R y (f j)) (ap g d ∙ p.here) (below j a b d))
        go j a b (no e) (no d) = subst⁻¹ (λ (y : A). R (g ((j - 1) / 4)) y) (p.there j e) (subst⁻¹ (λ (y : A). R y (f j)) (p.there ((j - 1) / 4) d) (r.order j a b e d))

    -- the root comes after none
    pub root_first : ((a : A) → R a a) → (f : ℕ → A) (n : ℕ) → Heap R f n → (j : ℕ) → j < n → R (f 0) (f j)
    root_first same f n p j lt = go (suc j) j (omega arith) lt
      where
        go : (fuel j : ℕ) → j < fuel → j < n → R (f 0) (f j)
        go zero j a b = absurd (omega arith)
        go (suc k) zero a b = same (f 0)
        go (suc k) (suc j) a b = trans (f 0) (f ((suc j - 1) / 4)) (f (suc j)) (go k ((suc j - 1) / 4) (omega arith) (omega arith)) (p.order (suc j) (omega arith) b)
