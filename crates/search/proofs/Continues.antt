-- The loop of the search: where it stands, and what the runs of the specification do from there. Assumes nothing.
use Prim.Native.Nat.{ℕ, suc, ◌+◌, ◌-◌, ◌*◌, ◌≤◌, ◌<◌}
use native.Mathlib.Omega.{arith}
use mathlib.Core.Bool.{Bool, true, false, cond, ◌&&◌}
use mathlib.Core.List.{List, [], ◌∷◌}
use mathlib.Core.Logic.{◌⊎◌, inl, inr}
use mathlib.Core.Path.{◌≡◌, refl, sym, ap, ap₂, ◌∙◌, subst}
use lib.Dec.{eqb, ltb}
use lib.IntN.{ℤ, pos, ◌+ℤ◌}
use lib.ListN.{get_or, get_or-eq_default}
use borrow.Author.Tests.{ltb-true, ltb-false, eq-eqb, ne_eqb}
use Rattle.paths.specs.Stack.{Nodes, extend, grow}
use Rattle.paths.specs.Low.{lower}
use Rattle.paths.specs.Search.{SearchResult, answer}
use Rattle.paths.specs.Keys.{WithLow, run_keys, stack_after, low_after}
use Rattle.heap.specs.Heap.{weigh}
use Rattle.heap.specs.Holds.{weigh_list, Holds}
use Rattle.trellis.specs.Values.{Values}
use Rattle.trellis.specs.Order.{bit}
use Rattle.trellis.specs.Keys.{Key, key, key_before, key_extension, key_passes, key_nodes, none_taken, key_search}
use Rattle.std.specs.Prelude.{None, Some}
use Rattle.stack.specs.declared.Path.{Path}
use Rattle.stack.specs.Places.{path_key, Upto}
use Rattle.extension.specs.Steps.{TableOf, Given, table_extension, table_nodes, Advanced}
use Rattle.search.specs.Progress.{Standing, Going, Answered, Ended, Reached}
use Rattle.search.specs.Outcomes.{outcome_of}
use Rattle.paths.proofs.Keys.{no_keys_left, stack_after_both, low_after_both}
use Rattle.extension.proofs.Advances.{good_none}

plus_one : (c : ℕ) → suc c ≡ c + 1
plus_one c = omega arith

-- ---- where the search stands

pub standing_start : (n : ℕ) (f : ℕ → Key) → Standing n f 0 0 (key (pos 0) 0 0)
standing_start n f = record { few = omega arith; heap = record { order = λ j a b. absurd (omega arith) }; held = λ j lt. absurd (omega arith); good = good_none n }

pub holds_none : (f : ℕ → Key) → Holds Upto f 0 []
unfolding weigh weigh_list
holds_none f = record { heap = record { order = λ j a b. absurd (omega arith) }; equal = λ h. refl; ordered = tt }

module _ (n : ℕ) (table : List ℤ) (soft left right : List ℕ) (limit : ℕ) where
  abbrev N : Nodes Key
  N = table_nodes n table soft left right

  pub going_start : (f : ℕ → Key) (c m : ℕ) (p : Key) (z : ℤ) (xs : List Key) → Holds Upto f m xs → Going N n limit f c p z xs m c p z
  unfolding stack_after low_after
  going_start f c m p z xs h =
      let none : 0 ≡ c - c = omega arith in
      record {
        rest = xs;
        holds = h;
        later = omega arith;
        within = inr refl;
        partial = inr refl;
        same = λ accept fuel. let e : fuel + (c - c) ≡ fuel = omega arith in ap (λ (k : ℕ). run_keys N accept k c z (grow N p xs)) e;
        taken = λ k e. absurd (omega (arith, e));
        stack = ap (λ (k : ℕ). stack_after N k (grow N p xs)) none;
        low_is = ap (λ (k : ℕ). low_after N k z (grow N p xs)) none;
      }

  module _ (f f' : ℕ → Key) (m m' c : ℕ) (p : Key) (st : Standing n f m c p) where
    pub standing_next : (y : Path) → Advanced N n f f' m m' p (Some y) → Standing n f' m' (c + 1) (path_key y)
    standing_next y d = record { few = omega (arith, d.few, st.few); heap = d.heap; held = d.held; good = d.taken.good }

  pub ended : (f f' : ℕ → Key) (c₀ : ℕ) (p₀ : Key) (z₀ : ℤ) (xs : List Key) (m m' c : ℕ) (p : Key) (z : ℤ) → c < limit → Advanced N n f f' m m' p None → Going N n limit f c₀ p₀ z₀ xs m c p z
      → Ended N n limit f' c₀ p₀ z₀ xs m' c (key (pos 0) 0 0) z
  ended f f' c₀ p₀ z₀ xs m m' c p z h d g =
      record { later = g.later; within = h; none = refl; same = λ accept fuel. g.same accept fuel ∙ ap (run_keys N accept fuel c z) (d.lists g.rest g.holds) ∙ no_keys_left N accept fuel c z }

  module _ (f f' : ℕ → Key) (c₀ : ℕ) (p₀ : Key) (z₀ : ℤ) (xs : List Key) (m m' c : ℕ) (p : Key) (taken : Path) (z : ℤ) (h : c < limit) (d : Advanced N n f f' m m' p (Some taken)) (g : Going N n limit f c₀ p₀ z₀ xs m c p z) where
    abbrev y : Key
    y = path_key taken

    abbrev Took : Type 0
    Took = (rest : List Key) × (grow N p g.rest ≡ y ∷ rest) × Holds Upto f' m' rest

    took : Took
    took = d.lists g.rest g.holds

    abbrev low : ℤ
    low = lower z y.sum

    abbrev step : (Key → Bool) → ℕ → List Key → Bool → SearchResult (WithLow Key)
    step accept fuel rest full = cond (full && accept y) (answer (record { key = y; low = low }) (suc c)) (run_keys N accept fuel (suc c) low (grow N y rest))

    -- one step of a run
    run_step : (e : Took) (accept : Key → Bool) (fuel : ℕ) → run_keys N accept (fuel + (suc c - c₀)) c₀ z₀ (grow N p₀ xs) ≡ step accept fuel e.0 (eqb y.len n)
    unfolding run_keys
    run_step e accept fuel =
        let k : fuel + (suc c - c₀) ≡ suc fuel + (c - c₀) = omega (arith, g.later) in
        ap (λ (i : ℕ). run_keys N accept i c₀ z₀ (grow N p₀ xs)) k ∙ g.same accept (suc fuel) ∙ ap (run_keys N accept (suc fuel) c z) e.1

    one_more : c - c₀ + 1 ≡ suc c - c₀
    one_more = omega (arith, g.later)

    -- its stack
    stack_step : (e : Took) → grow N y e.0 ≡ stack_after N (suc c - c₀) (grow N p₀ xs)
    unfolding stack_after
    stack_step e =
        ap (stack_after N 1) (sym e.1 ∙ g.stack) ∙ stack_after_both N (c - c₀) 1 (grow N p₀ xs) ∙ ap (λ (k : ℕ). stack_after N k (grow N p₀ xs)) one_more

    -- and its lowest sum
    low_step : (e : Took) → low ≡ low_after N (suc c - c₀) z₀ (grow N p₀ xs)
    unfolding low_after
    low_step e =
        ap₂ (low_after N 1) g.low_is (sym e.1 ∙ g.stack) ∙ low_after_both N (c - c₀) 1 z₀ (grow N p₀ xs) ∙ ap (λ (k : ℕ). low_after N k z₀ (grow N p₀ xs)) one_more

    pub answered : y.len ≡ n → Answered N n limit f' c₀ p₀ z₀ xs m' (c + 1) y low
    answered full =
        let e = took in
        subst (λ (i : ℕ). Answered N n limit f' c₀ p₀ z₀ xs m' i y low) (plus_one c)
        (record {
          rest = e.0;
          holds = e.2;
          later = omega (arith, g.later);
          within = omega arith;
          full = full;
          same = λ accept fuel. run_step e accept fuel ∙ ap (step accept fuel e.0) (eq-eqb y.len n full);
          stack = stack_step e;
          low_is = low_step e;
        })

    pub going_next : (y.len ≡ n → ⊥) → Going N n limit f' c₀ p₀ z₀ xs m' (c + 1) y low
    going_next nf =
        let e = took in
        subst (λ (i : ℕ). Going N n limit f' c₀ p₀ z₀ xs m' i y low) (plus_one c)
        (record {
          rest = e.0;
          holds = e.2;
          later = omega (arith, g.later);
          within = inl (omega arith);
          partial = inl (omega (arith, d.taken.good.short, nf));
          same = λ accept fuel. run_step e accept fuel ∙ ap (step accept fuel e.0) (ne_eqb y.len n nf);
          taken = λ k i. let steps : c - c₀ ≡ k = omega (arith, i, g.later) in sym e.1 ∙ g.stack ∙ ap (λ (j : ℕ). stack_after N j (grow N p₀ xs)) steps;
          stack = stack_step e;
          low_is = low_step e;
        })

-- ---- the table's nodes are the specification's

pub same_nodes : (n : ℕ) (soft left right : List ℕ) (table : List ℤ) (vs : Values) → Given n soft left right table → TableOf vs table → table_nodes n table soft left right ≡ key_nodes n vs soft left right
unfolding table_extension key_extension
same_nodes n soft left right table vs g t = λ i. record { extension = λ b k. extension b k i; sum = λ k. k.sum; before = key_before; exists = key_passes left right; full = λ k. eqb k.len n }
  where
    small : (k : ℕ) → get_or soft k 0 < 8
    small k = go (ltb k n) refl
      where
        go : (b : Bool) → ltb k n ≡ b → get_or soft k 0 < 8
        go true e = g.soft k (ltb-true k n e)
        go false e = omega (arith, get_or-eq_default soft 0 {n = k} (omega (arith, g.softs, ltb-false k n e)))

    extension : (b : Bool) (k : Key) → table_extension table soft b k ≡ key_extension vs soft b k
    extension b k = ap (λ (z : ℤ). key (k.sum +ℤ z) (suc k.len) (k.bits * 2 + bit b)) (t.entry b (get_or soft k.len 0) (small k.len))

-- ---- what the contract says

pub reached_by : (n : ℕ) (soft left right : List ℕ) (table : List ℤ) (vs : Values) → Given n soft left right table → TableOf vs table
    → (limit : ℕ) (f : ℕ → Key) (c₀ : ℕ) (p : Key) (z : ℤ) (xs : List Key) (m c : ℕ) (y : Key) (z' : ℤ)
    → Reached (table_nodes n table soft left right) n limit f c₀ p z xs m c y z' → Reached (key_nodes n vs soft left right) n limit f c₀ p z xs m c y z'
reached_by n soft left right table vs g t limit f c₀ p z xs m c y z' = subst (λ (M : Nodes Key). Reached M n limit f c₀ p z xs m c y z') (same_nodes n soft left right table vs g t)

-- the empty path's extensions are the stack before a path is taken
pub start_grows : (n : ℕ) (vs : Values) (soft left right : List ℕ) → 0 < n → grow (key_nodes n vs soft left right) (key (pos 0) 0 0) [] ≡ extend (key_nodes n vs soft left right) (key (pos 0) 0 0) []
unfolding grow
start_grows n vs soft left right some = rw (ne_eqb 0 n (omega arith)) refl

module _ (n limit : ℕ) (vs : Values) (soft left right : List ℕ) (f : ℕ → Key) (m c : ℕ) (y : Key) (z : ℤ) (some : 0 < n)
    (r : Reached (key_nodes n vs soft left right) n limit f 0 (key (pos 0) 0 0) none_taken [] m c y z) where
  abbrev K : Nodes Key
  K = key_nodes n vs soft left right

  abbrev always : Key → Bool
  always k = true

  -- the ways that the search can have gone
  abbrev Ways : Type 0
  Ways =
      ((limit ≤ c) × Going K n limit f 0 (key (pos 0) 0 0) none_taken [] m c y z)
      ⊎ (Answered K n limit f 0 (key (pos 0) 0 0) none_taken [] m c y z ⊎ Ended K n limit f 0 (key (pos 0) 0 0) none_taken [] m c y z)

  -- the search is the run from its start, in two parts
  search_is : (fuel : ℕ) → limit ≡ fuel + (c - 0) → key_search n vs soft left right limit ≡ run_keys K always (fuel + (c - 0)) 0 none_taken (grow K (key (pos 0) 0 0) [])
  unfolding key_search
  search_is fuel e = ap₂ (λ (k : ℕ). run_keys K always k 0 none_taken) e (sym (start_grows n vs soft left right some))

  not_yet : (y.len < n) ⊎ (y ≡ key (pos 0) 0 0) → y.len ≡ n → ⊥
  not_yet (inl h) e = omega arith
  not_yet (inr h) e = omega (arith, ap (λ (k : Key). k.len) h)

  -- the last path taken is a word
  pub word_is_taken : y.len ≡ n → Answered K n limit f 0 (key (pos 0) 0 0) none_taken [] m c y z
  word_is_taken full = go r.way
    where
      go : Ways → Answered K n limit f 0 (key (pos 0) 0 0) none_taken [] m c y z
      go (inl g) = absurd (not_yet g.1.partial full)
      go (inr (inl a)) = a
      go (inr (inr e)) = absurd (omega (arith, e.none))

  pub answer_is : y.len ≡ n → key_search n vs soft left right limit ≡ answer (record { key = y; low = z }) c
  answer_is full = let a = word_is_taken full in search_is (limit - c) (omega (arith, a.within)) ∙ a.same always (limit - c)

  pub spent_is : (y.len ≡ n → ⊥) → None ≡ outcome_of (key_search n vs soft left right limit)
  unfolding outcome_of run_keys
  spent_is partial = go r.way
    where
      all : limit ≤ c → (c ≤ limit) ⊎ (c ≡ 0) → limit ≡ 0 + (c - 0)
      all h (inl w) = omega arith
      all h (inr w) = omega arith

      go : Ways → None ≡ outcome_of (key_search n vs soft left right limit)
      go (inl g) = sym (ap outcome_of (search_is 0 (all g.0 g.1.within) ∙ g.1.same always 0))
      go (inr (inl a)) = absurd (partial a.full)
      go (inr (inr e)) = sym (ap outcome_of (search_is (limit - c) (omega (arith, e.within)) ∙ e.same always (limit - c)))
