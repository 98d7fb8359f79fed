-- A key goes in at its place: from the first on, while there is a place, or from the last on, where the last is pushed out. Assumes nothing.
use Prim.Native.Nat.{ℕ, zero, suc, ◌+◌, ◌-◌, ◌≤◌, ◌<◌}
use native.Mathlib.Omega.{arith}
use native.Mathlib.Decide.{ℕ_discrete}
use native.Mathlib.Numerals.{add-one}
use mathlib.Core.Bool.{Bool, true, false, cond}
use mathlib.Core.List.{List, [], ◌∷◌}
use mathlib.Core.Logic.{◌⊎◌, inl, inr}
use mathlib.Core.Path.{◌≡◌, refl, sym, ap, ap₂, ◌∙◌, subst, subst⁻¹}
use lib.ListN.{take}
use Rattle.paths.specs.Stack.{insert}
use Rattle.paths.proofs.Booleans.{not_both}
use Rattle.heap.specs.Heap.{Put}
use Rattle.heap.specs.Holds.{AllAfter, Ordered}
use Rattle.trellis.specs.Keys.{Key, key_before}
use Rattle.stack.specs.Places.{Upto}
use Rattle.stack.proofs.KeyOrder.{upto_trans}
use Rattle.chip.specs.Places.{listed, ordering, placed}

-- ---- lists of places

listed_same : (f g : ℕ → Key) (n : ℕ) → ((k : ℕ) → k < n → g k ≡ f k) → listed g n ≡ listed f n
unfolding listed
listed_same f g zero e = refl
listed_same f g (suc n) e = ap₂ ◌∷◌ (e n (omega arith)) (listed_same f g n (λ k h. e k (omega arith)))

-- x stands at place i, those that stand before it above, the others below as they were
listed_insert : (f g : ℕ → Key) (x : Key) (i n : ℕ) → i ≤ n → ((k : ℕ) → k < i → g k ≡ f k) → g i ≡ x → ((k : ℕ) → i ≤ k → k < n → g (suc k) ≡ f k)
    → ((k : ℕ) → i ≤ k → k < n → key_before (f k) x ≡ true) → (0 < i → key_before (f (i - 1)) x ≡ false) → listed g (suc n) ≡ placed x (listed f n)
unfolding placed insert listed
listed_insert f g x i zero le low here high passed stop = let e : i ≡ 0 = omega arith in ap (λ (k : Key). k ∷ []) (ap g (sym e) ∙ here)
listed_insert f g x i (suc n) le low here high passed stop =
    go (ℕ_discrete i (suc n)) (λ h. listed_insert f g x i n h low here (λ k a b. high k a (omega arith)) (λ k a b. passed k a (omega arith)) stop)
  where
    go : Dec (i ≡ suc n) → (i ≤ n → listed g (suc n) ≡ insert ordering x (listed f n)) → listed g (suc (suc n)) ≡ cond (key_before (f n) x) (f n ∷ insert ordering x (listed f n)) (x ∷ f n ∷ listed f n)
    go (yes e) ih =
        let newest : i - 1 ≡ n = omega arith in
        ap₂ ◌∷◌ (ap g (sym e) ∙ here) (listed_same f g (suc n) (λ k h. low k (omega arith)))
        ∙ ap (λ (b : Bool). cond b (f n ∷ insert ordering x (listed f n)) (x ∷ f n ∷ listed f n)) (sym (sym (ap (λ (k : ℕ). key_before (f k) x) newest) ∙ stop (omega arith)))
    go (no e) ih =
        ap₂ ◌∷◌ (high n (omega arith) (omega arith)) (ih (omega arith))
        ∙ ap (λ (b : Bool). cond b (f n ∷ insert ordering x (listed f n)) (x ∷ f n ∷ listed f n)) (sym (passed n (omega arith) (omega arith)))

-- ---- in an order, a higher place stands before a lower one

after_listed : (x : Key) (f : ℕ → Key) (n : ℕ) → AllAfter Upto x (listed f n) → (k : ℕ) → k < n → Upto x (f k)
unfolding listed
after_listed x f zero a k h = absurd (omega arith)
after_listed x f (suc n) a k h = go (ℕ_discrete k n) (after_listed x f n a.1 k)
  where
    go : Dec (k ≡ n) → (k < n → Upto x (f k)) → Upto x (f k)
    go (yes e) ih = subst⁻¹ (λ (j : ℕ). Upto x (f j)) e a.0
    go (no e) ih = ih (omega arith)

higher_first : (f : ℕ → Key) (n : ℕ) → Ordered Upto (listed f n) → (k j : ℕ) → j < k → k < n → Upto (f k) (f j)
unfolding listed
higher_first f zero o k j a b = absurd (omega arith)
higher_first f (suc n) o k j a b = go (ℕ_discrete k n) (higher_first f n o.1 k j a)
  where
    go : Dec (k ≡ n) → (k < n → Upto (f k) (f j)) → Upto (f k) (f j)
    go (yes e) ih = subst⁻¹ (λ (i : ℕ). Upto (f i) (f j)) e (after_listed (f n) f n o.0 j (omega arith))
    go (no e) ih = ih (omega arith)

-- above a place that stands before x all do
before_above : (f : ℕ → Key) (n : ℕ) (x : Key) → Ordered Upto (listed f n) → (j k : ℕ) → key_before (f j) x ≡ true → j ≤ k → k < n → key_before (f k) x ≡ true
before_above f n x o j k e a b = go (key_before (f k) x) refl
  where
    two : key_before (f k) x ≡ false → Dec (k ≡ j) → ⊥
    two h (yes q) = not_both (key_before (f j) x) (subst (λ (i : ℕ). key_before (f i) x ≡ false) q h) e
    two h (no q) = not_both (key_before (f j) x) (upto_trans x (f k) (f j) h (higher_first f n o k j (omega arith) b)) e

    go : (t : Bool) → key_before (f k) x ≡ t → t ≡ true
    go true h = refl
    go false h = absurd (two h (ℕ_discrete k j))

-- ---- from the first on

-- place i is free for x; those at i and above stand before x, and have moved up
pub record Moved (f₀ f : ℕ → Key) (x : Key) (i n : ℕ) : Type 0 where
  pub within : i ≤ n
  pub low : (k : ℕ) → k < i → f k ≡ f₀ k
  pub high : (k : ℕ) → i ≤ k → k < n → f (suc k) ≡ f₀ k
  pub passed : (k : ℕ) → i ≤ k → k < n → key_before (f₀ k) x ≡ true

pub moved_start : (f : ℕ → Key) (x : Key) (n : ℕ) → Moved f f x n n
moved_start f x n = record { within = omega arith; low = λ k h. refl; high = λ k a b. absurd (omega arith); passed = λ k a b. absurd (omega arith) }

moved_next : (f₀ f f' : ℕ → Key) (x : Key) (i n : ℕ) → 0 < i → Moved f₀ f x i n → key_before (f (i - 1)) x ≡ true → Put f f' i (f (i - 1)) → Moved f₀ f' x (i - 1) n
moved_next f₀ f f' x i n some m e put =
    record {
      within = omega (arith, m.within);
      low = λ k h. put.there k (omega arith) ∙ m.low k (omega arith);
      high = λ k a b. high' k a b (ℕ_discrete k (i - 1));
      passed = λ k a b. passed' k a b (ℕ_discrete k (i - 1));
    }
  where
    high' : (k : ℕ) → i - 1 ≤ k → k < n → Dec (k ≡ i - 1) → f' (suc k) ≡ f₀ k
    high' k a b (yes q) =
        let next : suc k ≡ i = omega arith in
        ap f' next ∙ put.here ∙ m.low (i - 1) (omega arith) ∙ ap f₀ (sym q)
    high' k a b (no q) = put.there (suc k) (omega arith) ∙ m.high k (omega arith) b

    passed' : (k : ℕ) → i - 1 ≤ k → k < n → Dec (k ≡ i - 1) → key_before (f₀ k) x ≡ true
    passed' k a b (yes q) = ap (λ (j : ℕ). key_before (f₀ j) x) q ∙ sym (ap (λ (y : Key). key_before y x) (m.low (i - 1) (omega arith))) ∙ e
    passed' k a b (no q) = m.passed k (omega arith) b

module _ (f₀ f : ℕ → Key) (x : Key) (i n : ℕ) (m : Moved f₀ f x i n) where
  pub moved_step : (g : ℕ → Key) (y : Key) → 0 < i → y ≡ f (i - 1) → key_before y x ≡ true → Put f g i y → Moved f₀ g x (i - 1) n
  moved_step g y some e h put = moved_next f₀ f g x i n some m (subst (λ (z : Key). key_before z x ≡ true) e h) (subst (λ (z : Key). Put f g i z) e put)

  -- no path is below, or the one below does not stand before x
  abbrev Stopped : Type 0
  Stopped = (i ≡ 0) ⊎ ((y : Key) × (y ≡ f (i - 1)) × (key_before y x ≡ false))

  pub moved_end : (g : ℕ → Key) → Put f g i x → Stopped → listed g (n + 1) ≡ placed x (listed f₀ n)
  moved_end g put st =
      rw add-one
      (listed_insert f₀ g x i n m.within (λ k h. put.there k (omega arith) ∙ m.low k h) put.here (λ k a c. put.there (suc k) (omega arith) ∙ m.high k a c) m.passed (stop st))
    where
      stop : Stopped → 0 < i → key_before (f₀ (i - 1)) x ≡ false
      stop (inl e) some = absurd (omega arith)
      stop (inr (y, e, h)) some = sym (ap (λ (z : Key). key_before z x) (e ∙ m.low (i - 1) (omega arith))) ∙ h

-- ---- from the last on

-- place i is free for x; those up to i do not stand before x, and but for the last have moved down
pub record Lowered (f₀ f : ℕ → Key) (x : Key) (i n : ℕ) : Type 0 where
  pub within : i < n
  pub low : (k : ℕ) → k < i → f k ≡ f₀ (suc k)
  pub high : (k : ℕ) → i ≤ k → k < n → f k ≡ f₀ k
  pub passed : (k : ℕ) → k ≤ i → key_before (f₀ k) x ≡ false

pub lowered_start : (f : ℕ → Key) (x : Key) (n : ℕ) → 0 < n → key_before (f 0) x ≡ false → Lowered f f x 0 n
lowered_start f x n some e =
    record {
      within = some;
      low = λ k h. absurd (omega arith);
      high = λ k a b. refl;
      passed = λ k h. let z : k ≡ 0 = omega arith in subst⁻¹ (λ (j : ℕ). key_before (f j) x ≡ false) z e;
    }

lowered_next : (f₀ f f' : ℕ → Key) (x : Key) (i n : ℕ) → i + 1 < n → Lowered f₀ f x i n → key_before (f (i + 1)) x ≡ false → Put f f' i (f (i + 1)) → Lowered f₀ f' x (i + 1) n
lowered_next f₀ f f' x i n some m e put =
    record {
      within = some;
      low = λ k h. low' k h (ℕ_discrete k i);
      high = λ k a b. put.there k (omega arith) ∙ m.high k (omega arith) b;
      passed = λ k h. passed' k h (ℕ_discrete k (i + 1));
    }
  where
    low' : (k : ℕ) → k < i + 1 → Dec (k ≡ i) → f' k ≡ f₀ (suc k)
    low' k h (yes q) = let next : i + 1 ≡ suc k = omega arith in ap f' q ∙ put.here ∙ m.high (i + 1) (omega arith) some ∙ ap f₀ next
    low' k h (no q) = put.there k q ∙ m.low k (omega arith)

    passed' : (k : ℕ) → k ≤ i + 1 → Dec (k ≡ i + 1) → key_before (f₀ k) x ≡ false
    passed' k h (yes q) = ap (λ (j : ℕ). key_before (f₀ j) x) q ∙ sym (ap (λ (y : Key). key_before y x) (m.high (i + 1) (omega arith) some)) ∙ e
    passed' k h (no q) = m.passed k (omega arith)

-- a place more at the low end
shifted : Key → (ℕ → Key) → ℕ → Key
shifted a f zero = a
shifted a f (suc k) = f k

cut_shifted : (a : Key) (f : ℕ → Key) (n : ℕ) → take n (listed (shifted a f) (suc n)) ≡ listed f n
unfolding shifted listed
cut_shifted a f zero = refl
cut_shifted a f (suc n) = ap (λ (l : List Key). f n ∷ l) (cut_shifted a f n)

-- x stands after all
pub placed_last : (f : ℕ → Key) (x : Key) (n : ℕ) → Ordered Upto (listed f n) → key_before (f 0) x ≡ true → listed f n ≡ take n (placed x (listed f n))
unfolding shifted
placed_last f x n o e =
    sym (cut_shifted x f n)
    ∙ ap (take n) (listed_insert f (shifted x f) x 0 n (omega arith) (λ k h. absurd (omega arith)) refl (λ k a b. refl) (λ k a b. before_above f n x o 0 k e a b) (λ h. absurd (omega arith)))

module _ (f₀ f : ℕ → Key) (x : Key) (i n : ℕ) (m : Lowered f₀ f x i n) where
  pub lowered_step : (g : ℕ → Key) (y : Key) → i + 1 < n → y ≡ f (i + 1) → key_before y x ≡ false → Put f g i y → Lowered f₀ g x (i + 1) n
  lowered_step g y some e h put = lowered_next f₀ f g x i n some m (subst (λ (z : Key). key_before z x ≡ false) e h) (subst (λ (z : Key). Put f g i z) e put)

  -- no path is above, or the one above stands before x
  abbrev Ended : Type 0
  Ended = (n ≤ i + 1) ⊎ ((y : Key) × (y ≡ f (i + 1)) × (key_before y x ≡ true))

  pub lowered_end : (g : ℕ → Key) → Put f g i x → Ordered Upto (listed f₀ n) → Ended → listed g n ≡ take n (placed x (listed f₀ n))
  unfolding shifted
  lowered_end g put o st =
      sym (cut_shifted (f₀ 0) g n)
      ∙ ap (take n)
      (listed_insert f₀ (shifted (f₀ 0) g) x (suc i) n (omega (arith, m.within)) low put.here
      (λ k a c. put.there k (omega arith) ∙ m.high k (omega arith) c) (λ k a c. above st k a c) (λ h. let e : suc i - 1 ≡ i = omega arith in subst⁻¹ (λ (k : ℕ). key_before (f₀ k) x ≡ false) e (m.passed i (omega arith))))
    where
      low : (k : ℕ) → k < suc i → shifted (f₀ 0) g k ≡ f₀ k
      low zero h = refl
      low (suc k) h = put.there k (omega arith) ∙ m.low k (omega arith)

      above : Ended → (k : ℕ) → suc i ≤ k → k < n → key_before (f₀ k) x ≡ true
      above (inl e) k a c = absurd (omega arith)
      above (inr (y, e, h)) k a c =
          before_above f₀ n x o (i + 1) k (sym (ap (λ (z : Key). key_before z x) (e ∙ m.high (i + 1) (omega arith) (omega arith))) ∙ h) (omega arith) c
