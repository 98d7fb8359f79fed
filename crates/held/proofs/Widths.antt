-- The bits of the paths in 64 and in 32 bits: arrays filled place by place, and that a heap with narrowed bits holds what it held. Assumes nothing.
use Prim.Native.Nat.{ℕ, ◌+◌, ◌-◌, ◌/◌, ◌^◌, ◌<◌, ◌≤◌}
use native.Mathlib.Nat.{div-le_self}
use native.Mathlib.Omega.{arith}
use mathlib.Core.List.{List}
use mathlib.Core.Logic.{◌⊎◌, inl, inr}
use mathlib.Core.Path.{◌≡◌, ap, ◌∙◌, subst⁻¹}
use lib.IntN.{ℤ}
use lib.ListN.{length, get_or, set}
use lib.Pow.{pow_mono}
use lib.Seq.{get_or-set_same, get_or-set_other}
use Rattle.paths.specs.Stack.{Nodes}
use Rattle.heap.specs.Heap.{Heap}
use Rattle.heap.specs.Holds.{Holds}
use Rattle.heap.proofs.Weights.{weigh_same}
use Rattle.trellis.specs.Keys.{Key}
use Rattle.stack.specs.Places.{at, Upto}
use Rattle.extension.specs.Steps.{Good, Held as HeldPath}
use Rattle.search.specs.Progress.{Standing, Going, Answered, Ended, Reached}
use Rattle.held.specs.State.{Narrowed}
use Rattle.held.proofs.Testing.{one_more}

-- ---- an array that is filled place by place

-- one value more has its property
pub one_more_filled : (P : ℕ → ℕ → Type 0) (l : List ℕ) (k v : ℕ) → k < length l → ((j : ℕ) → j < k → P j (get_or l j 0)) → P k v → (j : ℕ) → j < k + 1 → P j (get_or (set l k v) j 0)
one_more_filled P l k v inside below here =
    one_more (λ (j : ℕ). P j (get_or (set l k v) j 0)) k
    (λ j h. subst⁻¹ (P j) (get_or-set_other l k j v 0 (omega arith)) (below j h))
    (subst⁻¹ (P k) (get_or-set_same l k v 0 inside) here)

-- ---- a heap by its places below m alone

module _ (f g : ℕ → Key) (m : ℕ) (same : (j : ℕ) → j < m → g j ≡ f j) where
  parent_below : (j : ℕ) → 0 < j → j < m → (j - 1) / 4 < m
  parent_below j some l = omega (arith, div-le_self (j - 1) 4)

  heap_same : Heap Upto f m → Heap Upto g m
  heap_same h = record { order = λ j some l. subst⁻¹ (λ (p : Key). Upto p (g j)) (same ((j - 1) / 4) (parent_below j some l)) (subst⁻¹ (Upto (f ((j - 1) / 4))) (same j l) (h.order j some l)) }

  holds_same : (xs : List Key) → Holds Upto f m xs → Holds Upto g m xs
  holds_same xs h = record { heap = heap_same h.heap; equal = λ w. weigh_same w f g m same ∙ h.equal w; ordered = h.ordered }

  pub standing_same : (c : ℕ) (p : Key) → Standing 30 f m c p → Standing 30 g m c p
  standing_same c p s = record { few = s.few; heap = heap_same s.heap; held = λ j l. subst⁻¹ (HeldPath 30) (same j l) (s.held j l); good = s.good }

  pub reached_same : (N : Nodes Key) (limit k : ℕ) (last : Key) (low : ℤ) (xs : List Key) (c : ℕ) (p : Key) (z : ℤ) → Reached N 30 limit f k last low xs m c p z → Reached N 30 limit g k last low xs m c p z
  reached_same N limit k last low xs c p z r = record { way = go r.way }
    where
      go : ((limit ≤ c) × Going N 30 limit f k last low xs m c p z) ⊎ (Answered N 30 limit f k last low xs m c p z ⊎ Ended N 30 limit f k last low xs m c p z)
          → ((limit ≤ c) × Going N 30 limit g k last low xs m c p z) ⊎ (Answered N 30 limit g k last low xs m c p z ⊎ Ended N 30 limit g k last low xs m c p z)
      go (inl (h, a)) = inl ((h, record { rest = a.rest; holds = holds_same a.rest a.holds; later = a.later; within = a.within; partial = a.partial; same = a.same; taken = a.taken; stack = a.stack; low_is = a.low_is }))
      go (inr (inl a)) = inr (inl (record { rest = a.rest; holds = holds_same a.rest a.holds; later = a.later; within = a.within; full = a.full; same = a.same; stack = a.stack; low_is = a.low_is }))
      go (inr (inr e)) = inr (inr (record { later = e.later; within = e.within; none = e.none; same = e.same }))

-- ---- narrowed bits

-- the paths of a heap that stands have at most 30 bits, so they are the same
pub narrowed_same : (sums : List ℤ) (lens bits narrow : List ℕ) (m c : ℕ) (p : Key) → Standing 30 (at sums lens bits) m c p → Narrowed bits narrow → (j : ℕ) → j < m → at sums lens narrow j ≡ at sums lens bits j
narrowed_same sums lens bits narrow m c p s n j l = ap (λ (b : ℕ). record { sum = (at sums lens bits j).sum; len = (at sums lens bits j).len; bits = b }) (n.same j few)
  where
    good : Good 30 (at sums lens bits j)
    good = (s.held j l).good

    few : get_or bits j 0 < 4294967296
    few = let most : 2 ^ (at sums lens bits j).len ≤ 2 ^ 30 = pow_mono good.short in omega (arith, good.small, most)
