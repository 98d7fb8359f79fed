-- What a run from the state after k steps ends with. Assumes nothing.
use mathlib.Core.Bool.{Bool, true, false, cond, ◌&&◌}
use mathlib.Core.List.{List, [], ◌∷◌}
use mathlib.Core.Logic.{◌⊎◌, inl, inr}
use mathlib.Core.Path.{◌≡◌, refl, sym, ap, ◌∙◌, subst, subst⁻¹}
use Prim.Native.Nat.{ℕ, zero, suc, ◌+◌, ◌≤◌, ◌<◌}
use native.Mathlib.Omega.{arith}
use native.Mathlib.Nat.{zero-add, suc-add, add-zero}
use native.Mathlib.Decide.{dec_le}
use lib.Dec.{eqb}
use borrow.Author.Tests.{eqb-true, eq-eqb}
use lib.ListN.{length}
use Rattle.paths.specs.Lists.{Mem}
use Rattle.paths.specs.Paths.{Path}
use Rattle.paths.specs.Tree.{Tree, is_full, Full, Sound, number, Next}
use Rattle.paths.specs.Search.{State, count, head, first, answer, spent, step, steps, after, run}
use Rattle.paths.proofs.Booleans.{and_both, both_and, not_both}
use Rattle.paths.proofs.Invariant.{Invariant, after_invariant}
use Rattle.paths.proofs.Steps.{after_suc, step_takes}
use Rattle.paths.proofs.Number.{first_before_its_number, taken_from_its_number_on, count_at_its_number, count_up_to_its_number}
use Rattle.paths.proofs.Words.{number_names_one}
use Rattle.paths.proofs.Winner.{next_or_none}

-- the head of the stack ends the run
ends : (t : Tree) → (Path → Bool) → State → Bool
ends t accept s = is_full t (first s) && accept (first s)

pub answer_is_not_spent : {A X : Type 0} (w : A) (c d : ℕ) → answer w c ≡ spent d → X
answer_is_not_spent w c d e = let z : ◌≡◌ {A = ℕ} 0 1 = cc in absurd (omega arith)

module _ (t : Tree) (accept : Path → Bool) where
  run_ends : (fuel : ℕ) (s : State) → ends t accept s ≡ true → run t accept (suc fuel) s ≡ answer (first s) (count (step t s))
  unfolding run ends
  run_ends fuel s e = ap (λ (b : Bool). cond b (answer (first s) (count (step t s))) (run t accept fuel (step t s))) e

  run_goes_on : (fuel : ℕ) (s : State) → ends t accept s ≡ false → run t accept (suc fuel) s ≡ run t accept fuel (step t s)
  unfolding run ends
  run_goes_on fuel s e = ap (λ (b : Bool). cond b (answer (first s) (count (step t s))) (run t accept fuel (step t s))) e

  -- a run of a + b is the run of b from where a spent run of a stopped
  pub spent_run_goes_on : (a b c : ℕ) (s : State) → run t accept a s ≡ spent c → run t accept (a + b) s ≡ run t accept b (steps t a s)
  unfolding steps
  spent_run_goes_on zero b c s e = ap (λ (k : ℕ). run t accept k s) (zero-add b)
  spent_run_goes_on (suc a) b c s e = go (ends t accept s) refl (spent_run_goes_on a b c (step t s))
    where
      go : (d : Bool) → ends t accept s ≡ d → (run t accept a (step t s) ≡ spent c → run t accept (a + b) (step t s) ≡ run t accept b (steps t a (step t s)))
          → run t accept (suc a + b) s ≡ run t accept b (steps t a (step t s))
      go true k ih = answer_is_not_spent (first s) (count (step t s)) c (sym (run_ends a s k) ∙ e)
      go false k ih = ap (λ (j : ℕ). run t accept j s) (suc-add a b) ∙ run_goes_on (a + b) s k ∙ ih (sym (run_goes_on a s k) ∙ e)

module _ (t : Tree) (sound : Sound t) where
  -- a full path that is the head of the stack after k steps has number k + 1
  full_head : (k : ℕ) → is_full t (first (after t k)) ≡ true → Full t (first (after t k)) × (number t (first (after t k)) ≡ suc k)
  unfolding is_full
  full_head k e = go (after t k).stack refl
    where
      i : Invariant t (after t k).taken (after t k).stack
      i = after_invariant t sound k

      long : length (first (after t k)) ≡ t.size
      long = eqb-true (length (first (after t k))) t.size e

      go : (stack : List Path) → (after t k).stack ≡ stack → Full t (first (after t k)) × (number t (first (after t k)) ≡ suc k)
      go [] h = absurd (omega (arith, long, ap (λ (l : List Path). length (head l)) h, sound.some_full.1.long, sound.some_full.1.there.some_bit))
      go (p ∷ rest) h = subst⁻¹ (λ (q : Path). Full t q × (number t q ≡ suc k)) is_p ((full, exact (dec_le (number t p) k)))
        where
          is_p : first (after t k) ≡ p
          is_p = ap head h

          on_stack : Mem p (after t k).stack
          on_stack = subst⁻¹ (λ (l : List Path). Mem p l) h (inl refl)

          full : Full t p
          full = record { there = i.there p (inr on_stack); long = sym (ap length is_p) ∙ long }

          takes : Mem p (after t (suc k)).taken
          takes = subst⁻¹ (λ (l : List Path). Mem p l) (ap (λ (s : State). s.taken) (after_suc t k) ∙ step_takes t (after t k) p rest h) (inl refl)

          at_most : number t p ≤ suc k
          at_most = (taken_from_its_number_on t sound p full (suc k)).0 takes

          exact : Dec (number t p ≤ k) → number t p ≡ suc k
          exact (yes l) = absurd (i.apart p on_stack ((taken_from_its_number_on t sound p full k).1 l))
          exact (no l) = omega (arith, at_most)

  module _ (accept : Path → Bool) where
    -- where the head ends the run, it is an accepted full path with number k + 1; and such a path ends it
    ends_is : (k : ℕ) → ends t accept (after t k) ≡ true → Full t (first (after t k)) × (accept (first (after t k)) ≡ true) × (number t (first (after t k)) ≡ suc k)
    unfolding ends
    ends_is k e =
        let h = and_both (is_full t (first (after t k))) (accept (first (after t k))) e in
        let f = full_head k h.0 in
        (f.0, h.1, f.1)

    ends_at : (k : ℕ) (w : Path) → Full t w → accept w ≡ true → number t w ≡ suc k → ends t accept (after t k) ≡ true
    unfolding ends is_full
    ends_at k w f a e =
        subst⁻¹ (λ (p : Path). (eqb (length p) t.size && accept p) ≡ true) (first_before_its_number t sound w f k e)
        (both_and (eqb (length w) t.size) (accept w) (eq-eqb (length w) t.size f.long) a)

    -- a run takes no accepted full path where none has a number from k + 1 to k + fuel
    pub run_finds_nothing : (fuel k : ℕ) → ((v : Path) → Full t v → accept v ≡ true → k < number t v → k + fuel < number t v)
        → run t accept fuel (after t k) ≡ spent (count (after t (k + fuel)))
    unfolding run
    run_finds_nothing zero k none = ap (λ (j : ℕ). spent (count (after t j))) (sym (add-zero k))
    run_finds_nothing (suc fuel) k none =
        go (ends t accept (after t k)) refl (run_finds_nothing fuel (suc k) (λ v f a l. omega (arith, none v f a (omega arith))))
      where
        plus_suc : suc k + fuel ≡ k + suc fuel
        plus_suc = omega arith

        go : (d : Bool) → ends t accept (after t k) ≡ d → run t accept fuel (after t (suc k)) ≡ spent (count (after t (suc k + fuel)))
            → run t accept (suc fuel) (after t k) ≡ spent (count (after t (k + suc fuel)))
        go true e ih = let h = ends_is k e in absurd (omega (arith, h.2, none (first (after t k)) h.0 h.1 (omega (arith, h.2))))
        go false e ih =
            run_goes_on t accept fuel (after t k) e
            ∙ ap (λ (s : State). run t accept fuel s) (sym (after_suc t k))
            ∙ ih
            ∙ ap (λ (j : ℕ). spent (count (after t j))) plus_suc

    -- with fuel enough a run finds the next accepted full path, at its number
    pub run_finds_the_next : (fuel k : ℕ) (w : Path) → Next t accept k w → number t w ≤ k + fuel → run t accept fuel (after t k) ≡ answer w (number t w)
    run_finds_the_next zero k w n l = absurd (omega (arith, n.above))
    run_finds_the_next (suc fuel) k w n l = go (ends t accept (after t k)) refl (run_finds_the_next fuel (suc k) w)
      where
        found : ends t accept (after t k) ≡ true → run t accept (suc fuel) (after t k) ≡ answer w (number t w)
        found e =
            let h = ends_is k e in
            let same : first (after t k) ≡ w =
            number_names_one t sound _ w h.0 n.full (omega (arith, h.2, n.above, n.smallest (first (after t k)) h.0 h.1 (omega (arith, h.2)))) in
            let counts : count (step t (after t k)) ≡ number t w =
            ap (λ (s : State). count s) (sym (after_suc t k))
            ∙ ap (λ (j : ℕ). count (after t j)) (sym (sym (ap (number t) same) ∙ h.2))
            ∙ count_at_its_number t sound w n.full in
            run_ends t accept fuel (after t k) e ∙ ap (λ (p : Path). answer p (count (step t (after t k)))) same ∙ ap (answer w) counts

        later : ends t accept (after t k) ≡ false → Next t accept (suc k) w
        later e =
            record {
              full = n.full;
              accepted = n.accepted;
              above = apart (dec_le (number t w) (suc k));
              smallest = λ v f a b. n.smallest v f a (omega arith);
            }
          where
            apart : Dec (number t w ≤ suc k) → suc k < number t w
            apart (yes b) = absurd (not_both (ends t accept (after t k)) e (ends_at k w n.full n.accepted (omega (arith, n.above))))
            apart (no b) = omega arith

        go : (d : Bool) → ends t accept (after t k) ≡ d → (Next t accept (suc k) w → number t w ≤ suc k + fuel → run t accept fuel (after t (suc k)) ≡ answer w (number t w))
            → run t accept (suc fuel) (after t k) ≡ answer w (number t w)
        go true e ih = found e
        go false e ih =
            run_goes_on t accept fuel (after t k) e ∙ ap (λ (s : State). run t accept fuel s) (sym (after_suc t k)) ∙ ih (later e) (omega arith)

    -- with less it is spent, and has taken a path at each step
    pub run_is_spent_before_the_next : (fuel k : ℕ) (w : Path) → Next t accept k w → k + fuel < number t w → run t accept fuel (after t k) ≡ spent (k + fuel)
    run_is_spent_before_the_next fuel k w n l =
        run_finds_nothing fuel k (λ v f a b. omega (arith, n.smallest v f a b)) ∙ ap spent (count_up_to_its_number t sound w n.full (k + fuel) (omega arith))

    -- an answer is the next accepted full path, at its number
    pub answer_is_the_next : (fuel k : ℕ) (w : Path) (c : ℕ) → run t accept fuel (after t k) ≡ answer w c
        → Next t accept k w × (c ≡ number t w) × (number t w ≤ k + fuel)
    answer_is_the_next fuel k w c e = go (next_or_none t sound accept k)
      where
        go : ((v : Path) × Next t accept k v) ⊎ ((v : Path) → Full t v → accept v ≡ true → number t v ≤ k) → Next t accept k w × (c ≡ number t w) × (number t w ≤ k + fuel)
        go (inr none) = answer_is_not_spent w c _ (sym e ∙ run_finds_nothing fuel k (λ v f a b. absurd (omega (arith, none v f a))))
        go (inl (v, n)) = two (dec_le (number t v) (k + fuel))
          where
            two : Dec (number t v ≤ k + fuel) → Next t accept k w × (c ≡ number t w) × (number t w ≤ k + fuel)
            two (no l) = answer_is_not_spent w c _ (sym e ∙ run_is_spent_before_the_next fuel k v n (omega arith))
            two (yes l) = (
              subst (λ (p : Path). Next t accept k p) same n,
              counts ∙ ap (number t) same,
              subst (λ (p : Path). number t p ≤ k + fuel) same l,
            )
              where
                both : answer v (number t v) ≡ answer w c
                both = sym (run_finds_the_next fuel k v n l) ∙ e

                same : v ≡ w
                same = cc both

                counts : c ≡ number t v
                counts = cc both
