-- Which path is ahead of which, over any strict total order. Assumes nothing.
use mathlib.Core.Bool.{Bool, true, false, cond, not}
use mathlib.Core.List.{[], ◌∷◌}
use mathlib.Core.Logic.{◌⊎◌, inl, inr, ⊎_elim}
use mathlib.Core.Path.{◌≡◌, refl, sym, subst, subst⁻¹}
use Prim.Native.Nat.{ℕ, ◌≤◌, ◌<◌}
use native.Mathlib.Omega.{arith}
use native.Mathlib.Decide.{dec_le}
use lib.Dec.{ltb}
use borrow.Author.Tests.{ltb-true, ltb-false}
use lib.ListN.{length}
use Rattle.paths.specs.Paths.{Path, prefix, shared}
use Rattle.paths.specs.Order.{Order, later, last_placed, ahead, Ahead}
use Rattle.paths.proofs.Booleans.{and_both, both_and, not_is, is_not, not_both}
use Rattle.paths.proofs.Prefixes.{Prefix, prefix_is, is_prefix, prefix_self, prefix_length, prefix_trans, prefix_compare}
use Rattle.paths.proofs.Shared.{shared_longest, shared_left, shared_swap}

-- among the prefixes of p that are no prefixes of w, the one placed last
unfoldable pub last_apart : (Path → Path → Bool) → Path → Path → Path
last_apart before p w = last_placed before (shared p w) p

module _ (before : Path → Path → Bool) where
  pub ahead_is : (p w : Path) → Ahead before p w → (Prefix p w → ⊥) × (before (last_apart before p w) (last_apart before w p) ≡ true)
  unfolding ahead last_apart
  ahead_is p w a =
      let h = and_both (not (prefix p w)) _ a in (
        λ k. not_is (prefix p w) h.0 (is_prefix p w k),
        subst (λ (k : ℕ). before (last_placed before (shared p w) p) (last_placed before k w) ≡ true) (shared_swap p w) h.1,
      )

  pub is_ahead : (p w : Path) → (Prefix p w → ⊥) → before (last_apart before p w) (last_apart before w p) ≡ true → Ahead before p w
  unfolding ahead last_apart
  is_ahead p w n e =
      both_and (not (prefix p w)) _ (is_not (prefix p w) (λ k. n (prefix_is p w k)))
      (subst⁻¹ (λ (k : ℕ). before (last_placed before (shared p w) p) (last_placed before k w) ≡ true) (shared_swap p w) e)

module _ (before : Path → Path → Bool) (order : Order before) where
  later_least : (p q : Path) → ((p ≡ later before p q) ⊎ (before p (later before p q) ≡ true)) × ((q ≡ later before p q) ⊎ (before q (later before p q) ≡ true))
  unfolding later
  later_least p q = go (before p q) refl
    where
      go : (t : Bool) → before p q ≡ t → ((p ≡ cond t q p) ⊎ (before p (cond t q p) ≡ true)) × ((q ≡ cond t q p) ⊎ (before q (cond t q p) ≡ true))
      go true e = (inr e, inl refl)
      go false e = (inl refl, ⊎_elim (λ k. inl (sym k)) (⊎_elim (λ k. absurd (not_both (before p q) e k)) (λ k. inr k)) (order.total p q))

  -- not after, after another that is not after
  not_after_trans : (p q r : Path) → (p ≡ q) ⊎ (before p q ≡ true) → (q ≡ r) ⊎ (before q r ≡ true) → (p ≡ r) ⊎ (before p r ≡ true)
  not_after_trans p q r (inl e) h = subst⁻¹ (λ (x : Path). (x ≡ r) ⊎ (before x r ≡ true)) e h
  not_after_trans p q r (inr e) (inl k) = inr (subst (λ (x : Path). before p x ≡ true) k e)
  not_after_trans p q r (inr e) (inr k) = inr (order.transitive p q r e k)

  -- the last-placed is one of the prefixes longer than k
  last_placed_in : (k : ℕ) (p : Path) → k < length p → Prefix (last_placed before k p) p × (k < length (last_placed before k p))
  unfolding last_placed later
  last_placed_in k [] h = absurd (omega arith)
  last_placed_in k (b ∷ p) h = go (ltb k (length p)) refl (λ i. last_placed_in k p i)
    where
      two : (t : Bool) → Prefix (last_placed before k p) p × (k < length (last_placed before k p))
          → Prefix (cond t (last_placed before k p) (b ∷ p)) (b ∷ p) × (k < length (cond t (last_placed before k p) (b ∷ p)))
      two true ih = (inr ih.0, ih.1)
      two false ih = (inl refl, h)

      go : (t : Bool) → ltb k (length p) ≡ t → (k < length p → Prefix (last_placed before k p) p × (k < length (last_placed before k p)))
          → Prefix (cond t (later before (b ∷ p) (last_placed before k p)) (b ∷ p)) (b ∷ p)
          × (k < length (cond t (later before (b ∷ p) (last_placed before k p)) (b ∷ p)))
      go true e ih = two (before (b ∷ p) (last_placed before k p)) (ih (ltb-true k (length p) e))
      go false e ih = (inl refl, h)

  -- and none of those stands after it
  last_placed_last : (k : ℕ) (p q : Path) → Prefix q p → k < length q → (q ≡ last_placed before k p) ⊎ (before q (last_placed before k p) ≡ true)
  unfolding last_placed
  last_placed_last k [] q h l = elim h [ ]
  last_placed_last k (b ∷ p) q h l = go (ltb k (length p)) refl h (λ i. last_placed_last k p q i l)
    where
      go : (t : Bool) → ltb k (length p) ≡ t → (q ≡ b ∷ p) ⊎ Prefix q p → (Prefix q p → (q ≡ last_placed before k p) ⊎ (before q (last_placed before k p) ≡ true))
          → (q ≡ cond t (later before (b ∷ p) (last_placed before k p)) (b ∷ p))
          ⊎ (before q (cond t (later before (b ∷ p) (last_placed before k p)) (b ∷ p)) ≡ true)
      go true e (inl i) ih = not_after_trans q (b ∷ p) _ (inl i) (later_least (b ∷ p) (last_placed before k p)).0
      go true e (inr i) ih = not_after_trans q (last_placed before k p) _ (ih i) (later_least (b ∷ p) (last_placed before k p)).1
      go false e (inl i) ih = inl i
      go false e (inr i) ih = absurd (omega (arith, ltb-false k (length p) e, prefix_length q p i))

  pub last_apart_in : (p w : Path) → 0 < length p → (Prefix p w → ⊥) → Prefix (last_apart before p w) p × (Prefix (last_apart before p w) w → ⊥)
  unfolding last_apart
  last_apart_in p w s n = (r.0, λ i. omega (arith, shared_longest p w (last_placed before (shared p w) p) r.0 i, r.1))
    where
      beyond : Dec (length p ≤ shared p w) → shared p w < length p
      beyond (yes l) = absurd (n (shared_left p w p (prefix_self p s) l))
      beyond (no l) = omega arith

      r : Prefix (last_placed before (shared p w) p) p × (shared p w < length (last_placed before (shared p w) p))
      r = last_placed_in (shared p w) p (beyond (dec_le (length p) (shared p w)))

  pub last_apart_last : (p w q : Path) → Prefix q p → (Prefix q w → ⊥) → (q ≡ last_apart before p w) ⊎ (before q (last_apart before p w) ≡ true)
  unfolding last_apart
  last_apart_last p w q h n = last_placed_last (shared p w) p q h (beyond (dec_le (length q) (shared p w)))
    where
      beyond : Dec (length q ≤ shared p w) → shared p w < length q
      beyond (yes l) = absurd (n (shared_left p w q h l))
      beyond (no l) = omega arith

  -- of two paths neither of which is a prefix of the other, one is ahead
  pub one_is_ahead : (p w : Path) → 0 < length p → 0 < length w → (Prefix p w → ⊥) → (Prefix w p → ⊥) → Ahead before p w ⊎ Ahead before w p
  one_is_ahead p w sp sw n m =
      ⊎_elim (λ e. absurd ((last_apart_in p w sp n).1 (subst⁻¹ (λ (x : Path). Prefix x w) e (last_apart_in w p sw m).0)))
      (⊎_elim (λ e. inl (is_ahead before p w n e)) (λ e. inr (is_ahead before w p m e)))
      (order.total (last_apart before p w) (last_apart before w p))

  pub not_both_ahead : (p w : Path) → Ahead before p w → Ahead before w p → ⊥
  not_both_ahead p w a b = order.irreflexive (last_apart before p w) (order.transitive _ _ _ (ahead_is before p w a).1 (ahead_is before w p b).1)

  -- q, a prefix of p alone, stands before r, a prefix of w that q lacks: then q stands before the last-placed prefix of w alone
  pub before_last_apart : (p w q r : Path) → Prefix q p → (Prefix q w → ⊥) → Prefix r w → (Prefix r q → ⊥) → before q r ≡ true → before q (last_apart before w p) ≡ true
  before_last_apart p w q r hq nq hr nr e =
      ⊎_elim (λ i. subst (λ (x : Path). before q x ≡ true) i e) (λ i. order.transitive q r _ e i) (last_apart_last w p r hr lacks)
    where
      lacks : Prefix r p → ⊥
      lacks k = ⊎_elim nr (λ j. nq (prefix_trans q r w j hr)) (prefix_compare r q p k hq)
