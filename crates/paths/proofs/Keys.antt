-- The search on keys is the search on paths, and the lowest sum that it keeps is the word's low point. Assumes nothing.
use mathlib.Core.Bool.{Bool, true, false, cond, ◌&&◌}
use mathlib.Core.List.{List, [], ◌∷◌, map}
use mathlib.Core.Logic.{◌⊎◌, inl, inr}
use mathlib.Core.Path.{◌≡◌, refl, sym, ap, ◌∙◌, subst, subst⁻¹}
use Prim.Native.Nat.{ℕ, zero, suc, ◌+◌, ◌<◌}
use native.Mathlib.Omega.{arith}
use native.Mathlib.Nat.{zero-add, suc-add}
use lib.Dec.{eqb}
use borrow.Author.Tests.{eqb-true, eqb-false}
use lib.IntN.{ℤ}
use lib.ListN.{length}
use lib.Signed.{◌≤ℤ◌}
use Rattle.paths.specs.Paths.{Path}
use Rattle.paths.specs.Stack.{Nodes, Sorted, insert, push, extend, grow}
use Rattle.paths.specs.Tree.{Tree, is_full, nodes, Exists, Sound}
use Rattle.paths.specs.Search.{State, answer, spent, count, start, take_head, step, steps, after, run}
use Rattle.paths.specs.Low.{lower}
use Rattle.paths.specs.Keys.{WithLow, run_keys, stack_after, low_after, KeysOf, key_with_low, with_key}
use Rattle.paths.proofs.Booleans.{is_false}
use Rattle.paths.proofs.Lists.{of_map}
use Rattle.paths.proofs.Invariant.{Invariant, step_invariant, start_invariant, after_invariant}
use Rattle.paths.proofs.Low.{LowSoFar, low_at_start, low_of_one_more, led_by_the_search, lowest_so_far_is_the_low_point}
use Rattle.paths.proofs.Run.{answer_is_not_spent}

-- ---- on keys alone

module _ {A : Type 0} (N : Nodes A) where
  -- an empty stack stays, and so does the lowest sum
  none_after : (k : ℕ) → stack_after N k [] ≡ []
  unfolding stack_after
  none_after zero = refl
  none_after (suc k) = refl

  low_after_none : (k : ℕ) (z : ℤ) → low_after N k z [] ≡ z
  unfolding low_after
  low_after_none zero z = refl
  low_after_none (suc k) z = refl

  -- a steps and then b
  pub stack_after_both : (a b : ℕ) (stack : List A) → stack_after N b (stack_after N a stack) ≡ stack_after N (a + b) stack
  unfolding stack_after
  stack_after_both zero b stack = ap (λ (k : ℕ). stack_after N k stack) (sym (zero-add b))
  stack_after_both (suc a) b [] = none_after b ∙ sym (none_after (suc a + b))
  stack_after_both (suc a) b (x ∷ rest) = stack_after_both a b (grow N x rest) ∙ ap (λ (k : ℕ). stack_after N k (x ∷ rest)) (sym (suc-add a b))

  pub low_after_both : (a b : ℕ) (z : ℤ) (stack : List A) → low_after N b (low_after N a z stack) (stack_after N a stack) ≡ low_after N (a + b) z stack
  unfolding stack_after low_after
  low_after_both zero b z stack = ap (λ (k : ℕ). low_after N k z stack) (sym (zero-add b))
  low_after_both (suc a) b z [] = low_after_none b z ∙ sym (low_after_none (suc a + b) z)
  low_after_both (suc a) b z (x ∷ rest) = low_after_both a b (lower z (N.sum x)) (grow N x rest) ∙ ap (λ (k : ℕ). low_after N k z (x ∷ rest)) (sym (suc-add a b))

  pub no_keys_left : (accept : A → Bool) (fuel c : ℕ) (z : ℤ) → run_keys N accept fuel c z [] ≡ spent c
  unfolding run_keys
  no_keys_left accept zero c z = refl
  no_keys_left accept (suc fuel) c z = refl

  -- a run of a + b is the run of b from where a spent run of a stopped
  pub spent_keys_go_on : (accept : A → Bool) (a b c d : ℕ) (z : ℤ) (stack : List A) → run_keys N accept a c z stack ≡ spent d
      → run_keys N accept (a + b) c z stack ≡ run_keys N accept b d (low_after N a z stack) (stack_after N a stack)
  unfolding run_keys stack_after low_after
  spent_keys_go_on accept zero b c d z stack e =
      let same : c ≡ d = cc e in
      ap (λ (k : ℕ). run_keys N accept k c z stack) (zero-add b) ∙ ap (λ (k : ℕ). run_keys N accept b k z stack) same
  spent_keys_go_on accept (suc a) b c d z [] e = no_keys_left accept (suc a + b) c z ∙ e ∙ sym (no_keys_left accept b d z)
  spent_keys_go_on accept (suc a) b c d z (x ∷ rest) e =
      ap (λ (k : ℕ). run_keys N accept k c z (x ∷ rest)) (suc-add a b) ∙ go (N.full x && accept x) e (spent_keys_go_on accept a b (suc c) d y (grow N x rest))
    where
      y : ℤ
      y = lower z (N.sum x)

      taken : WithLow A
      taken = record { key = x; low = y }

      go : (t : Bool) → cond t (answer taken (suc c)) (run_keys N accept a (suc c) y (grow N x rest)) ≡ spent d
          → (run_keys N accept a (suc c) y (grow N x rest) ≡ spent d → run_keys N accept (a + b) (suc c) y (grow N x rest) ≡ run_keys N accept b d (low_after N a y (grow N x rest)) (stack_after N a (grow N x rest)))
          → cond t (answer taken (suc c)) (run_keys N accept (a + b) (suc c) y (grow N x rest)) ≡ run_keys N accept b d (low_after N a y (grow N x rest)) (stack_after N a (grow N x rest))
      go true k ih = answer_is_not_spent taken (suc c) d k
      go false k ih = ih k

-- ---- the search on paths

module _ (t : Tree) (sound : Sound t) where
  pub some_size : 0 < t.size
  some_size = omega (arith, sound.some_full.1.long, sound.some_full.1.there.some_bit)

  -- an empty stack spends the fuel
  pub run_on_empty : (accept : Path → Bool) (fuel : ℕ) (taken : List Path) → run t accept fuel (record { taken = taken; stack = [] }) ≡ spent (length taken)
  unfolding run step take_head is_full
  run_on_empty accept zero taken = refl
  run_on_empty accept (suc fuel) taken =
      ap (λ (b : Bool). cond (b && accept []) (answer [] (length taken)) (run t accept fuel (record { taken = taken; stack = [] }))) (is_false (eqb 0 t.size) not_full)
      ∙ run_on_empty accept fuel taken
    where
      not_full : eqb 0 t.size ≡ true → ⊥
      not_full e = omega (arith, eqb-true 0 t.size e, some_size)

-- ---- keys and paths

cond_map : {A B : Type 0} (f : A → B) (b : Bool) (x y : List A) → map f (cond b x y) ≡ cond b (map f x) (map f y)
cond_map f true x y = refl
cond_map f false x y = refl

module _ (t : Tree) {A : Type 0} (N : Nodes A) (key : Path → A) (keys : KeysOf t N key) where
  insert_keys : (p : Path) (stack : List Path) → map key (insert (nodes t) p stack) ≡ insert N (key p) (map key stack)
  unfolding insert
  insert_keys p [] = refl
  insert_keys p (q ∷ stack) =
      cond_map key (t.before q p) (q ∷ insert (nodes t) p stack) (p ∷ q ∷ stack)
      ∙ ap (λ (l : List A). cond (t.before q p) (key q ∷ l) (key p ∷ key q ∷ map key stack)) (insert_keys p stack)
      ∙ ap (λ (b : Bool). cond b (key q ∷ insert N (key p) (map key stack)) (key p ∷ key q ∷ map key stack)) (sym (keys.same_order q p))

  push_keys : (p : Path) (stack : List Path) → N.exists (key p) ≡ t.exists p → map key (push (nodes t) p stack) ≡ push N (key p) (map key stack)
  unfolding push
  push_keys p stack e =
      cond_map key (t.exists p) (insert (nodes t) p stack) stack
      ∙ ap (λ (l : List A). cond (t.exists p) l (map key stack)) (insert_keys p stack)
      ∙ ap (λ (b : Bool). cond b (insert N (key p) (map key stack)) (map key stack)) (sym e)

  extend_keys : (p : Path) (stack : List Path) → (p ≡ []) ⊎ Exists t p → length p < t.size → map key (extend (nodes t) p stack) ≡ extend N (key p) (map key stack)
  unfolding extend
  extend_keys p stack x l =
      push_keys (true ∷ p) (push (nodes t) (false ∷ p) stack) (keys.same_exists true p x l)
      ∙ ap (push N (key (true ∷ p))) (push_keys (false ∷ p) stack (keys.same_exists false p x l))
      ∙ ap (λ (y : A). push N y (push N (key (false ∷ p)) (map key stack))) (sym (keys.same_extension true p))
      ∙ ap (λ (y : A). push N (N.extension true (key p)) (push N y (map key stack))) (sym (keys.same_extension false p))

  keys_sorted : (stack : List Path) → Sorted t.before stack → Sorted N.before (map key stack)
  keys_sorted [] s = tt
  keys_sorted (p ∷ stack) s = (
    λ y m. let r = of_map key y stack m in subst⁻¹ (λ (x : A). N.before (key p) x ≡ true) r.1 (keys.same_order p r.0 ∙ s.0 r.0 r.2),
    keys_sorted stack s.1,
  )

  module _ (sound : Sound t) where
    pub grow_keys : (p : Path) (rest : List Path) → Exists t p → map key (grow (nodes t) p rest) ≡ grow N (key p) (map key rest)
    unfolding grow is_full
    grow_keys p rest x = go (eqb (length p) t.size) refl ∙ ap (λ (b : Bool). cond b (map key rest) (extend N (key p) (map key rest))) (sym (keys.same_full p))
      where
        go : (b : Bool) → eqb (length p) t.size ≡ b → map key (cond b rest (extend (nodes t) p rest)) ≡ cond b (map key rest) (extend N (key p) (map key rest))
        go true e = refl
        go false e = extend_keys p rest (inr x) (omega (arith, eqb-false (length p) t.size e, sound.short p x.in_tree))

    module _ (z₀ : ℤ) (high : (w : Path) → Exists t w → t.sum w ≤ℤ z₀) where
      -- a run on keys has the outcome of the run on paths, the word with its low point
      run_keys_from : (accept : A → Bool) (fuel : ℕ) (taken stack : List Path) (z : ℤ) → Invariant t taken stack → LowSoFar t z₀ taken z
          → run_keys N accept fuel (length taken) z (map key stack) ≡ with_key (key_with_low t key) (run t (λ p. accept (key p)) fuel (record { taken = taken; stack = stack }))
      unfolding run_keys run step take_head with_key
      run_keys_from accept zero taken stack z i so = refl
      run_keys_from accept (suc fuel) taken [] z i so = sym (ap (with_key (key_with_low t key)) (run_on_empty t sound (λ p. accept (key p)) (suc fuel) taken))
      run_keys_from accept (suc fuel) taken (p ∷ rest) z i so =
          ap (λ (b : Bool). cond (b && accept (key p)) (answer (told (lower z (N.sum (key p)))) (suc (length taken))) (run_keys N accept fuel (suc (length taken)) (lower z (N.sum (key p))) (grow N (key p) (map key rest)))) (keys.same_full p)
          ∙ ap (λ (s : ℤ). cond (is_full t p && accept (key p)) (answer (told (lower z s)) (suc (length taken))) (run_keys N accept fuel (suc (length taken)) (lower z s) (grow N (key p) (map key rest)))) (keys.same_sum p)
          ∙ ap (λ (l : List A). cond (is_full t p && accept (key p)) (answer (told (lower z (t.sum p))) (suc (length taken))) (run_keys N accept fuel (suc (length taken)) (lower z (t.sum p)) l))
          (sym (grow_keys p rest here))
          ∙ go (is_full t p && accept (key p)) (run_keys_from accept fuel (p ∷ taken) (grow (nodes t) p rest) (lower z (t.sum p)) (step_invariant t sound (record { taken = taken; stack = p ∷ rest }) i) one_more)
        where
          here : Exists t p
          here = i.there p (inr (inl refl))

          one_more : LowSoFar t z₀ (p ∷ taken) (lower z (t.sum p))
          one_more = low_of_one_more t z₀ taken p z so

          told : ℤ → WithLow A
          told y = record { key = key p; low = y }

          go : (b : Bool)
              → run_keys N accept fuel (suc (length taken)) (lower z (t.sum p)) (map key (grow (nodes t) p rest))
              ≡ with_key (key_with_low t key) (run t (λ p. accept (key p)) fuel (record { taken = p ∷ taken; stack = grow (nodes t) p rest }))
              → cond b (answer (told (lower z (t.sum p))) (suc (length taken))) (run_keys N accept fuel (suc (length taken)) (lower z (t.sum p)) (map key (grow (nodes t) p rest)))
              ≡ with_key (key_with_low t key) (cond b (answer p (suc (length taken))) (run t (λ p. accept (key p)) fuel (record { taken = p ∷ taken; stack = grow (nodes t) p rest })))
          go true ih = ap (λ (y : ℤ). answer (told y) (suc (length taken))) (lowest_so_far_is_the_low_point t taken p (led_by_the_search t sound taken rest p i) z₀ (lower z (t.sum p)) (high p here) one_more)
          go false ih = ih

    stack_after_from : (k : ℕ) (taken stack : List Path) → Invariant t taken stack → map key (steps t k (record { taken = taken; stack = stack })).stack ≡ stack_after N k (map key stack)
    unfolding stack_after steps step take_head
    stack_after_from zero taken stack i = refl
    stack_after_from (suc k) taken [] i = stack_after_from k taken [] i ∙ none_after N k
    stack_after_from (suc k) taken (p ∷ rest) i =
        stack_after_from k (p ∷ taken) (grow (nodes t) p rest) (step_invariant t sound (record { taken = taken; stack = p ∷ rest }) i)
        ∙ ap (stack_after N k) (grow_keys p rest (i.there p (inr (inl refl))))

    -- the lowest sum kept after k steps is that of the paths taken
    low_after_from : (z₀ : ℤ) (k : ℕ) (taken stack : List Path) (z : ℤ) → Invariant t taken stack → LowSoFar t z₀ taken z
        → LowSoFar t z₀ (steps t k (record { taken = taken; stack = stack })).taken (low_after N k z (map key stack))
    unfolding low_after steps step take_head
    low_after_from z₀ zero taken stack z i so = so
    low_after_from z₀ (suc k) taken [] z i so =
        subst (λ (y : ℤ). LowSoFar t z₀ (steps t k (record { taken = taken; stack = [] })).taken y) (low_after_none N k z) (low_after_from z₀ k taken [] z i so)
    low_after_from z₀ (suc k) taken (p ∷ rest) z i so =
        subst⁻¹ (λ (y : ℤ). LowSoFar t z₀ (steps t k next).taken y)
        (ap (λ (s : ℤ). low_after N k (lower z s) (grow N (key p) (map key rest))) (keys.same_sum p) ∙ ap (low_after N k (lower z (t.sum p))) (sym (grow_keys p rest (i.there p (inr (inl refl))))))
        (low_after_from z₀ k (p ∷ taken) (grow (nodes t) p rest) (lower z (t.sum p)) (step_invariant t sound (record { taken = taken; stack = p ∷ rest }) i) (low_of_one_more t z₀ taken p z so))
      where
        next : State
        next = record { taken = p ∷ taken; stack = grow (nodes t) p rest }

    pub start_keys : map key (start t).stack ≡ extend N (key []) []
    unfolding start
    start_keys = extend_keys [] [] (inl refl) (some_size t sound)

    -- from the start, with a number that is below no path's sum: the outcome of the search on paths, the word with its low point
    pub search_on_keys_is_search_on_paths : (z₀ : ℤ) → ((w : Path) → Exists t w → t.sum w ≤ℤ z₀) → (accept : A → Bool) (limit : ℕ)
        → run_keys N accept limit 0 z₀ (extend N (key []) []) ≡ with_key (key_with_low t key) (run t (λ p. accept (key p)) limit (start t))
    unfolding start
    search_on_keys_is_search_on_paths z₀ high accept limit =
        ap (run_keys N accept limit 0 z₀) (sym start_keys) ∙ run_keys_from z₀ high accept limit (start t).taken (start t).stack z₀ (start_invariant t sound) (low_at_start t z₀)

    -- the stack after k steps
    pub stack_on_keys_is_stack_on_paths : (k : ℕ) → map key (after t k).stack ≡ stack_after N k (extend N (key []) [])
    unfolding start after
    stack_on_keys_is_stack_on_paths k = stack_after_from k (start t).taken (start t).stack (start_invariant t sound) ∙ ap (stack_after N k) start_keys

    -- the lowest sum after k steps
    pub low_on_keys_is_low_on_paths : (z₀ : ℤ) (k : ℕ) → LowSoFar t z₀ (after t k).taken (low_after N k z₀ (extend N (key []) []))
    unfolding start after
    low_on_keys_is_low_on_paths z₀ k =
        subst (λ (stack : List A). LowSoFar t z₀ (after t k).taken (low_after N k z₀ stack)) start_keys
        (low_after_from z₀ k (start t).taken (start t).stack z₀ (start_invariant t sound) (low_at_start t z₀))

    -- from the state after k steps
    pub going_on_with_keys_is_going_on_with_paths : (z₀ : ℤ) → ((w : Path) → Exists t w → t.sum w ≤ℤ z₀) → (accept : A → Bool) (fuel k : ℕ)
        → run_keys N accept fuel (count (after t k)) (low_after N k z₀ (extend N (key []) [])) (stack_after N k (extend N (key []) []))
        ≡ with_key (key_with_low t key) (run t (λ p. accept (key p)) fuel (after t k))
    going_on_with_keys_is_going_on_with_paths z₀ high accept fuel k =
        ap (run_keys N accept fuel (count (after t k)) (low_after N k z₀ (extend N (key []) []))) (sym (stack_on_keys_is_stack_on_paths k))
        ∙ run_keys_from z₀ high accept fuel (after t k).taken (after t k).stack (low_after N k z₀ (extend N (key []) [])) (after_invariant t sound k) (low_on_keys_is_low_on_paths z₀ k)
