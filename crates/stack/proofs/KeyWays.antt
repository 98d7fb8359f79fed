-- A key on its way up or down in a row of keys. Assumes nothing.
use Prim.Native.Nat.{ℕ, ◌+◌, ◌-◌, ◌*◌, ◌/◌, ◌≤◌, ◌<◌}
use native.Mathlib.Omega.{arith}
use native.Mathlib.Numerals.{add-one}
use native.Mathlib.Decide.{ℕ_discrete}
use mathlib.Core.Bool.{true, false}
use mathlib.Core.Logic.{◌⊎◌, inl, inr}
use mathlib.Core.Path.{◌≡◌, sym, ap, ap₂, ◌∙◌, subst, subst⁻¹}
use lib.Dec.{ltb}
use borrow.Author.Tests.{lt-ltb, le-ltb}
use Rattle.heap.specs.Heap.{weigh, Put, Every, Heap}
use Rattle.heap.specs.Moves.{Rising, Sinking}
use Rattle.heap.proofs.Ways.{rising_step, rising_end, rising_weight, sinking_step, sinking_end, sinking_weight}
use Rattle.trellis.specs.Keys.{Key, key_before}
use Rattle.stack.specs.Places.{Upto, rank_of, Small, Fit, Stands, Lead}
use Rattle.stack.proofs.KeyOrder.{upto_not, upto_trans}
use Rattle.stack.proofs.Outs.{stay}
use Rattle.stack.proofs.Ranks.{rank_before}

module _ (f₀ f : ℕ → Key) (x : Key) (i n : ℕ) (r : Rising Upto f₀ f x i n) where
  pub risen_step : (g : ℕ → Key) (y : Key) → 0 < i → y ≡ f ((i - 1) / 4) → key_before y x ≡ false → Put f g i y → Rising Upto f₀ g x ((i - 1) / 4) n
  risen_step g y some e h put =
      rising_step Upto upto_trans f₀ f g x i n some (subst (λ (z : Key). Put f g i z) e put) (subst (λ (z : Key). key_before z x ≡ false) e h) r

  -- it is at the top, or the path above stands before it
  abbrev Risen : Type 0
  Risen = (i ≡ 0) ⊎ ((y : Key) × (y ≡ f ((i - 1) / 4)) × (key_before y x ≡ true))

  top_of : Risen → 0 < i → Upto (f ((i - 1) / 4)) x
  top_of (inl e) some = absurd (omega arith)
  top_of (inr (y, e, h)) some = upto_not (f ((i - 1) / 4)) x (subst (λ (z : Key). key_before z x ≡ true) e h)

  module _ (g : ℕ → Key) (put : Put f g i x) where
    pub risen_heap : Risen → Heap Upto g (n + 1)
    risen_heap st = rw add-one (rising_end Upto upto_trans f₀ f g x i n put (top_of st) r)

    pub risen_weight : (h : Key → ℕ) → weigh h g (n + 1) ≡ weigh h f₀ n + h x
    risen_weight h = rw add-one (rising_weight Upto upto_trans f₀ f g x i n put r h)

    pub risen_stands : n < 2002 → Small x → Every Small f₀ n → Risen → Stands g (n + 1)
    risen_stands few s small st = record { few = omega arith; heap = risen_heap st; small = stay Small f₀ g n (n + 1) x (λ h. omega (arith, risen_weight h)) s small }

-- ---- the way down

module _ (f₀ f : ℕ → Key) (x : Key) (i n k : ℕ) (fx : Fit x) (ek : k ≡ rank_of x) (r : Sinking Upto f₀ f x i n) where
  test_of : (m rk : ℕ) → Lead f n (i * 4 + 1) m rk → ltb rk k ≡ key_before x (f m)
  test_of m rk d = ap₂ ltb d.is ek ∙ rank_before (f m) x d.fit fx

  module _ (g : ℕ → Key) (y : Key) (put : Put f g i y) (m rk : ℕ) (d : Lead f n (i * 4 + 1) m rk) (e : y ≡ f m) where
    pub sunk_step : k ≤ rk → Sinking Upto f₀ g x m n
    sunk_step h =
        sinking_step Upto upto_trans f₀ f g x i m n (omega (arith, d.low)) d.high (omega (arith, d.low, d.near))
        (λ j a c w. d.first j (omega (arith, w)) c (omega (arith, w)))
        (sym (test_of m rk d) ∙ le-ltb rk k h) (subst (λ (z : Key). Put f g i z) e put) r

    -- the places stay small
    pub sunk_small : Every Small f n → Every Small g n
    sunk_small small j h = go (ℕ_discrete j i)
      where
        go : Dec (j ≡ i) → Small (g j)
        go (yes q) = subst⁻¹ Small (ap g q ∙ put.here ∙ e) (small m d.high)
        go (no q) = subst⁻¹ Small (put.there j q) (small j h)

  -- no place is below it, or none that stands before it
  abbrev Sunk : Type 0
  Sunk = (n ≤ i * 4 + 1) ⊎ ((m : ℕ) × (rk : ℕ) × Lead f n (i * 4 + 1) m rk × (rk < k))

  below : Sunk → (j : ℕ) → 0 < j → j < n → (j - 1) / 4 ≡ i → Upto x (f j)
  below (inl h) j a c w = absurd (omega arith)
  below (inr (m, rk, d, h)) j a c w =
      upto_trans x (f m) (f j) (upto_not x (f m) (sym (test_of m rk d) ∙ lt-ltb rk k h)) (d.first j (omega (arith, w)) c (omega (arith, w)))

  module _ (g : ℕ → Key) (put : Put f g i x) where
    pub sunk_heap : Sunk → Heap Upto g n
    sunk_heap st = sinking_end Upto upto_trans f₀ f g x i n put (below st) r

    pub sunk_weight : (h : Key → ℕ) → weigh h g n + h (f₀ 0) ≡ weigh h f₀ n + h x
    sunk_weight h = sinking_weight Upto upto_trans f₀ f g x i n put r h

    pub sunk_stands : n ≤ 2002 → Every Small f₀ n → Sunk → Stands g n
    sunk_stands few small st = record { few = few; heap = sunk_heap st; small = stay Small f₀ g n n x (λ h. omega (arith, sunk_weight h)) fx.small small }
