-- Steps in a row, how many paths they take and how many they leave on the stack. Assumes nothing.
use mathlib.Core.List.{List, [], ◌∷◌}
use mathlib.Core.Logic.{inr}
use mathlib.Core.Path.{◌≡◌, refl, sym, ap, ◌∙◌, subst⁻¹}
use Prim.Native.Nat.{ℕ, zero, suc, ◌+◌, ◌-◌, ◌≤◌}
use native.Mathlib.Omega.{arith}
use native.Mathlib.Nat.{zero-add, suc-add}
use native.Mathlib.Numerals.{add-one}
use lib.ListN.{length}
use Rattle.paths.specs.Lists.{Mem}
use Rattle.paths.specs.Paths.{Path}
use Rattle.paths.specs.Tree.{Tree, nodes}
use Rattle.paths.specs.Search.{State, count, start, take_head, step, steps, after}
use Rattle.paths.proofs.Stack.{extend_length, grow_length}

module _ (t : Tree) where
  pub steps_add : (a b : ℕ) (s : State) → steps t (a + b) s ≡ steps t b (steps t a s)
  unfolding steps
  steps_add zero b s = ap (λ (k : ℕ). steps t k s) (zero-add b)
  steps_add (suc a) b s = ap (λ (k : ℕ). steps t k s) (suc-add a b) ∙ steps_add a b (step t s)

  pub after_add : (a b : ℕ) → after t (a + b) ≡ steps t b (after t a)
  unfolding after
  after_add a b = steps_add a b (start t)

  pub after_suc : (k : ℕ) → after t (suc k) ≡ step t (after t k)
  unfolding steps
  after_suc k = ap (λ (j : ℕ). after t j) (sym (add-one k)) ∙ after_add k 1

  pub after_zero : after t zero ≡ start t
  unfolding after steps
  after_zero = refl

  -- a step takes the head of the stack
  pub step_takes : (s : State) (p : Path) (rest : List Path) → s.stack ≡ p ∷ rest → (step t s).taken ≡ p ∷ s.taken
  unfolding step take_head
  step_takes s p rest e = ap (λ (l : List Path). (take_head t s.taken l).taken) e

  step_keeps : (s : State) (p : Path) → Mem p s.taken → Mem p (step t s).taken
  unfolding step take_head
  step_keeps s p m = go s.stack
    where
      go : (stack : List Path) → Mem p (take_head t s.taken stack).taken
      go [] = m
      go (q ∷ rest) = inr m

  steps_keep : (k : ℕ) (s : State) (p : Path) → Mem p s.taken → Mem p (steps t k s).taken
  unfolding steps
  steps_keep zero s p m = m
  steps_keep (suc k) s p m = steps_keep k (step t s) p (step_keeps s p m)

  -- what is taken stays taken
  pub taken_stays : (a b : ℕ) → a ≤ b → (p : Path) → Mem p (after t a).taken → Mem p (after t b).taken
  taken_stays a b l p m =
      subst⁻¹ (λ (s : State). Mem p s.taken) (ap (λ (j : ℕ). after t j) split ∙ after_add a (b - a)) (steps_keep (b - a) (after t a) p m)
    where
      split : b ≡ a + (b - a)
      split = omega arith

  step_count : (s : State) → count (step t s) ≤ suc (count s)
  unfolding step take_head
  step_count s = go s.stack
    where
      go : (stack : List Path) → length (take_head t s.taken stack).taken ≤ suc (length s.taken)
      go [] = omega arith
      go (q ∷ rest) = omega arith

  step_stack : (s : State) → length (step t s).stack ≤ suc (length s.stack)
  unfolding step take_head
  step_stack s = go s.stack
    where
      go : (stack : List Path) → length (take_head t s.taken stack).stack ≤ suc (length stack)
      go [] = omega arith
      go (p ∷ rest) = omega (arith, grow_length (nodes t) p rest)

  -- k steps take at most k paths
  pub steps_take_at_most : (k : ℕ) (s : State) → count (steps t k s) ≤ count s + k
  unfolding steps
  steps_take_at_most zero s = omega arith
  steps_take_at_most (suc k) s = omega (arith, steps_take_at_most k (step t s), step_count s)

  -- k steps add at most k paths to the stack
  pub steps_add_at_most : (k : ℕ) (s : State) → length (steps t k s).stack ≤ length s.stack + k
  unfolding steps
  steps_add_at_most zero s = omega arith
  steps_add_at_most (suc k) s = omega (arith, steps_add_at_most k (step t s), step_stack s)

  pub at_most_k_are_taken : (k : ℕ) → count (after t k) ≤ k
  unfolding after start
  at_most_k_are_taken k = omega (arith, steps_take_at_most k (start t))

  pub stack_holds_at_most_k_plus_two : (k : ℕ) → length (after t k).stack ≤ k + 2
  unfolding after start
  stack_holds_at_most_k_plus_two k = omega (arith, steps_add_at_most k (start t), extend_length (nodes t) [] [])
