-- Every full path is taken, and its number is the step that takes it. Assumes nothing.
use mathlib.Core.Bool.{true}
use mathlib.Core.List.{List, [], ◌∷◌}
use mathlib.Core.Logic.{◌⊎◌, inl, inr, ⊎_elim}
use mathlib.Core.Path.{◌≡◌, refl, sym, ap, ◌∙◌, subst}
use Prim.Native.Nat.{ℕ, zero, suc, ◌+◌, ◌≤◌, ◌<◌}
use native.Mathlib.Omega.{arith}
use lib.ListN.{length}
use Rattle.paths.specs.Lists.{Mem, filter}
use Rattle.paths.specs.Paths.{Path, prefix, paths}
use Rattle.paths.specs.Order.{ahead, Ahead}
use Rattle.paths.specs.Tree.{Tree, Exists, Full, Sound, counted, number}
use Rattle.paths.specs.Search.{State, count, start, after}
use Rattle.paths.proofs.Booleans.{and_both, both_and, or_either, either_or}
use Rattle.paths.proofs.Lists.{no_repeats_le, same_members_length, of_filter, in_filter, filter_no_repeats}
use Rattle.paths.proofs.Prefixes.{Prefix, prefix_is, is_prefix, path_dec}
use Rattle.paths.proofs.Paths.{in_paths, of_paths, paths_no_repeats}
use Rattle.paths.proofs.Invariant.{Invariant, after_invariant}
use Rattle.paths.proofs.Taken.{taken_is, is_taken}
use Rattle.paths.proofs.Steps.{after_suc, after_zero, step_takes}

pub counted_is : (t : Tree) (w p : Path) → counted t w p ≡ true → (t.exists p ≡ true) × (Prefix p w ⊎ Ahead t.before p w)
unfolding counted
counted_is t w p e =
    let h = and_both (t.exists p) _ e in
    (h.0, ⊎_elim (λ k. inl (prefix_is p w k)) (λ k. inr k) (or_either (prefix p w) (ahead t.before p w) h.1))

pub is_counted : (t : Tree) (w p : Path) → t.exists p ≡ true → Prefix p w ⊎ Ahead t.before p w → counted t w p ≡ true
unfolding counted
is_counted t w p e h =
    both_and (t.exists p) _ e (either_or (prefix p w) (ahead t.before p w) (⊎_elim (λ k. inl (is_prefix p w k)) (λ k. inr k) h))

-- the moment before w is taken: w is the head of the stack, and every step so far took a path
pub record Arrival (t : Tree) (w : Path) : Type 0 where
  pub steps_before : ℕ
  pub rest : List Path
  pub at_head : (after t steps_before).stack ≡ w ∷ rest
  pub all_counted : count (after t steps_before) ≡ steps_before

module _ (t : Tree) (sound : Sound t) where
  -- the paths taken are among all paths
  taken_few : (k : ℕ) → count (after t k) ≤ length (paths t.size)
  taken_few k =
      let i = after_invariant t sound k in
      no_repeats_le (after t k).taken (paths t.size) i.once
      (λ p m. in_paths t.size p (i.there p (inl m)).some_bit (sound.short p (i.there p (inl m)).in_tree))

  module _ (w : Path) (f : Full t w) where
    seek : (fuel k : ℕ) → count (after t k) ≡ k → (Mem w (after t k).taken → ⊥) → length (paths t.size) < fuel + k → Arrival t w
    seek zero k c n l = absurd (omega (arith, taken_few k))
    seek (suc fuel) k c n l = go (after t k).stack refl (seek fuel (suc k))
      where
        i : Invariant t (after t k).taken (after t k).stack
        i = after_invariant t sound k

        none : (after t k).stack ≡ [] → ⊥
        none e = ⊎_elim n (λ h. subst (λ (l : List Path). Mem h.0 l) e h.2) (i.frontier w f.there)

        go : (stack : List Path) → (after t k).stack ≡ stack
            → (count (after t (suc k)) ≡ suc k → (Mem w (after t (suc k)).taken → ⊥) → length (paths t.size) < fuel + suc k → Arrival t w) → Arrival t w
        go [] e ih = absurd (none e)
        go (p ∷ rest) e ih = two (path_dec w p)
          where
            takes : (after t (suc k)).taken ≡ p ∷ (after t k).taken
            takes = ap (λ (s : State). s.taken) (after_suc t k) ∙ step_takes t (after t k) p rest e

            two : Dec (w ≡ p) → Arrival t w
            two (yes d) = record { steps_before = k; rest = rest; at_head = e ∙ ap (λ (x : Path). x ∷ rest) (sym d); all_counted = c }
            two (no d) = ih (ap length takes ∙ ap suc c) (λ m. ⊎_elim d n (subst (λ (l : List Path). Mem w l) takes m)) (omega arith)

    pub arrival : Arrival t w
    unfolding start
    arrival = seek (suc (length (paths t.size))) 0 (ap (λ (s : State). count s) (after_zero t)) (λ m. subst (λ (s : State). Mem w s.taken) (after_zero t) m) (omega arith)

    pub invariant_then : Invariant t (after t arrival.steps_before).taken (w ∷ arrival.rest)
    invariant_then = subst (λ (l : List Path). Invariant t (after t arrival.steps_before).taken l) arrival.at_head (after_invariant t sound arrival.steps_before)

    -- what is taken with w
    taken_then : (after t (suc arrival.steps_before)).taken ≡ w ∷ (after t arrival.steps_before).taken
    taken_then =
        ap (λ (s : State). s.taken) (after_suc t arrival.steps_before)
        ∙ step_takes t (after t arrival.steps_before) w arrival.rest arrival.at_head

    pub exists_then : (p : Path) → Mem p (w ∷ (after t arrival.steps_before).taken) → Exists t p
    exists_then p (inl e) = invariant_then.there p (inr (inl e))
    exists_then p (inr m) = invariant_then.there p (inl m)

    pub number_is : number t w ≡ suc arrival.steps_before
    unfolding number
    number_is =
        same_members_length (filter (counted t w) (paths t.size)) (w ∷ (after t arrival.steps_before).taken)
        (filter_no_repeats (counted t w) (paths t.size) (paths_no_repeats t.size))
        (invariant_then.apart w (inl refl), invariant_then.once)
        (λ p m.
        let h = of_filter (counted t w) (paths t.size) p m in
        let c = counted_is t w p h.1 in
        is_taken t sound _ _ w invariant_then f p (record { some_bit = (of_paths t.size p h.0).0; in_tree = c.0 }) c.1)
        (λ p m.
        let x = exists_then p m in
        in_filter (counted t w) (paths t.size) p (in_paths t.size p x.some_bit (sound.short p x.in_tree))
        (is_counted t w p x.in_tree (taken_is t sound _ _ w invariant_then f p m)))
        ∙ ap suc arrival.all_counted

    pub taken_at_number : (after t (number t w)).taken ≡ w ∷ (after t arrival.steps_before).taken
    taken_at_number = ap (λ (k : ℕ). (after t k).taken) number_is ∙ taken_then
