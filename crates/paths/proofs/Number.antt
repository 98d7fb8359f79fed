-- The number of a full path: the step that takes it, and how many paths are taken by then. Assumes nothing.
use mathlib.Core.Bool.{true}
use mathlib.Core.List.{List, ◌∷◌}
use mathlib.Core.Logic.{◌⊎◌, inl, inr, ⊎_elim, ◌↔◌}
use mathlib.Core.Path.{◌≡◌, refl, sym, ap, ◌∙◌, subst, subst⁻¹}
use Prim.Native.Nat.{ℕ, suc, ◌+◌, ◌-◌, ◌≤◌, ◌<◌}
use native.Mathlib.Omega.{arith}
use native.Mathlib.Decide.{dec_le}
use lib.ListN.{length}
use Rattle.paths.specs.Lists.{Mem, NoRepeats}
use Rattle.paths.specs.Paths.{Path, prefix}
use Rattle.paths.specs.Order.{Ahead}
use Rattle.paths.specs.Stack.{Sorted}
use Rattle.paths.specs.Tree.{Tree, Exists, Full, Sound, number}
use Rattle.paths.specs.Search.{State, count, head, first, after}
use Rattle.paths.proofs.Prefixes.{prefix_is, is_prefix}
use Rattle.paths.proofs.Invariant.{after_invariant}
use Rattle.paths.proofs.Taken.{taken_is, is_taken}
use Rattle.paths.proofs.Steps.{after_add, taken_stays, steps_take_at_most, at_most_k_are_taken}
use Rattle.paths.proofs.Arrival.{arrival, invariant_then, exists_then, number_is, taken_at_number}

module _ (t : Tree) (sound : Sound t) (w : Path) (f : Full t w) where
  -- the number of steps before w is taken
  steps_before : ℕ
  steps_before = (arrival t sound w f).steps_before

  number_then : number t w ≡ suc steps_before
  unfolding steps_before
  number_then = number_is t sound w f

  taken_then : (after t (number t w)).taken ≡ w ∷ (after t steps_before).taken
  unfolding steps_before
  taken_then = taken_at_number t sound w f

  new_then : Mem w (after t steps_before).taken → ⊥
  unfolding steps_before
  new_then = (invariant_then t sound w f).apart w (inl refl)

  pub number_is_positive : 0 < number t w
  number_is_positive = omega (arith, number_then)

  -- one step before its number, a full path is the head of the stack
  pub head_before_its_number : (k : ℕ) → number t w ≡ suc k → (rest : List Path) × ((after t k).stack ≡ w ∷ rest)
  unfolding steps_before
  head_before_its_number k e = ((arrival t sound w f).rest, subst (λ (j : ℕ). (after t j).stack ≡ w ∷ (arrival t sound w f).rest) same_step (arrival t sound w f).at_head)
    where
      same_step : steps_before ≡ k
      same_step = omega (arith, number_then)

  pub first_before_its_number : (k : ℕ) → number t w ≡ suc k → first (after t k) ≡ w
  first_before_its_number k e = ap head (head_before_its_number k e).1

  -- by the step with its number, exactly the existing paths are taken that are its prefixes or ahead of it
  pub taken_by_its_number : (p : Path) → Mem p (after t (number t w)).taken ↔ (Exists t p × ((prefix p w ≡ true) ⊎ Ahead t.before p w))
  unfolding steps_before
  taken_by_its_number p = (
    λ m. let n = subst (λ (l : List Path). Mem p l) taken_then m in
        (exists_then t sound w f p n, ⊎_elim (λ h. inl (is_prefix p w h)) (λ h. inr h) (taken_is t sound _ _ w (invariant_then t sound w f) f p n)),
    λ h. subst⁻¹ (λ (l : List Path). Mem p l) taken_then
        (is_taken t sound _ _ w (invariant_then t sound w f) f p h.0 (⊎_elim (λ k. inl (prefix_is p w k)) (λ k. inr k) h.1)),
  )

  -- and so many
  pub count_at_its_number : count (after t (number t w)) ≡ number t w
  unfolding steps_before
  count_at_its_number = ap length taken_then ∙ ap suc (arrival t sound w f).all_counted ∙ sym number_then

  -- each step up to its number takes a path
  pub count_up_to_its_number : (k : ℕ) → k ≤ number t w → count (after t k) ≡ k
  count_up_to_its_number k l =
      omega (
        arith,
        at_most_k_are_taken t k,
        count_at_its_number,
        ap (λ (s : State). count s) (after_add t k (number t w - k)),
        ap (λ (j : ℕ). count (after t j)) split,
        steps_take_at_most t (number t w - k) (after t k),
      )
    where
      split : number t w ≡ k + (number t w - k)
      split = omega arith

  -- it is taken from the step with its number on, and not before
  pub taken_from_its_number_on : (k : ℕ) → Mem w (after t k).taken ↔ (number t w ≤ k)
  taken_from_its_number_on k = (λ m. go m (dec_le (number t w) k), λ l. taken_stays t (number t w) k l w (subst⁻¹ (λ (l : List Path). Mem w l) taken_then (inl refl)))
    where
      go : Mem w (after t k).taken → Dec (number t w ≤ k) → number t w ≤ k
      go m (yes l) = l
      go m (no l) = absurd (new_then (taken_stays t k steps_before (omega (arith, number_then)) w m))

-- whatever the number of steps
pub nothing_is_taken_twice : (t : Tree) → Sound t → (k : ℕ) → NoRepeats (after t k).taken
nothing_is_taken_twice t sound k = (after_invariant t sound k).once

pub stack_is_in_order : (t : Tree) → Sound t → (k : ℕ) → Sorted t.before (after t k).stack
stack_is_in_order t sound k = (after_invariant t sound k).sorted
