-- The search with a number of places: with places for all, and wherever none was pushed out, it is the search of 01; only where one was may its stack run empty, and never where no path is dead. Assumes nothing.
use mathlib.Core.Bool.{Bool, true, false, cond, ◌&&◌, ◌||◌}
use mathlib.Core.List.{List, [], ◌∷◌, map}
use mathlib.Core.Logic.{◌⊎◌, inl, inr, ⊎_elim}
use mathlib.Core.Path.{◌≡◌, refl, sym, ap, ap₂, ◌∙◌, subst, subst⁻¹}
use Prim.Native.Nat.{ℕ, zero, suc, ◌+◌, ◌≤◌, ◌<◌}
use native.Mathlib.Omega.{arith}
use lib.Dec.{ltb, eqb}
use borrow.Author.Tests.{lt-ltb, le-ltb, ltb-true, ltb-false, eqb-true, eqb-false}
use lib.IntN.{ℤ}
use lib.ListN.{length, length-map, take}
use lib.Seq.{take_all}
use lib.Signed.{◌≤ℤ◌, ≤ℤ_refl}
use Rattle.paths.specs.Lists.{Mem}
use Rattle.paths.specs.Paths.{Path}
use Rattle.paths.specs.Low.{lower}
use Rattle.paths.specs.Stack.{Nodes, Sorted, insert, push, extend, grow}
use Rattle.paths.specs.Tree.{Tree, is_full, nodes, Exists, Full, Sound}
use Rattle.paths.specs.Search.{State, SearchResult, answer, spent, start, take_head, step, run, limited_search}
use Rattle.paths.specs.Keys.{WithLow, KeysOf, key_with_low, with_key}
use Rattle.paths.specs.Bounded.{Bounded, bounded, BoundedResult, ended, ended_with_key, crowded, push_within, extend_within, run_within, bounded_search, Continued, run_keys_within}
use Rattle.paths.proofs.Booleans.{not_both, or_assoc, or_false, or_neither}
use Rattle.paths.proofs.Prefixes.{Prefix, prefix_self, prefix_first}
use Rattle.paths.proofs.Stack.{push_length, push_keeps_length, of_extend, in_extend, extend_length}
use Rattle.paths.proofs.Invariant.{prefix_exists, Stacked, extended_sorted, stacked_next, first_sorted, stacked_first}
use Rattle.paths.proofs.Run.{answer_is_not_spent}
use Rattle.paths.proofs.Low.{Led, LowSoFar, low_at_start, low_of_one_more, lowest_so_far_is_the_low_point}
use Rattle.paths.proofs.Keys.{grow_keys, start_keys, run_on_empty}
use Rattle.paths.proofs.Limit.{spent_is_below_the_winner}

-- ---- a list that is cut

-- its members are members of the list
pub of_take : {A : Type 0} (k : ℕ) (l : List A) (x : A) → Mem x (take k l) → Mem x l
of_take zero l x m = absurd m
of_take (suc k) [] x m = absurd m
of_take (suc k) (y ∷ l) x (inl e) = inl e
of_take (suc k) (y ∷ l) x (inr m) = inr (of_take k l x m)

-- it stays in its order
take_sorted : {A : Type 0} (before : A → A → Bool) (k : ℕ) (l : List A) → Sorted before l → Sorted before (take k l)
take_sorted before zero l s = tt
take_sorted before (suc k) [] s = tt
take_sorted before (suc k) (x ∷ l) s = (λ y m. s.0 y (of_take k l y m), take_sorted before k l s.1)

take_map : {A B : Type 0} (f : A → B) (k : ℕ) (l : List A) → map f (take k l) ≡ take k (map f l)
take_map f zero l = refl
take_map f (suc k) [] = refl
take_map {B = B} f (suc k) (x ∷ l) = ap (λ (r : List B). f x ∷ r) (take_map f k l)

take_twice : {A : Type 0} (k : ℕ) (l : List A) → take k (take k l) ≡ take k l
take_twice zero l = refl
take_twice (suc k) [] = refl
take_twice {A = A} (suc k) (x ∷ l) = ap (λ (r : List A). x ∷ r) (take_twice k l)

take_with : {A : Type 0} (k : ℕ) (l : List A) (x : A) → take k (x ∷ take k l) ≡ take k (x ∷ l)
take_with zero l x = refl
take_with (suc k) [] x = refl
take_with {A = A} (suc k) (y ∷ l) x = ap (λ (r : List A). x ∷ r) (take_with k l y)

-- ---- nodes of any kind

module _ {A : Type 0} (N : Nodes A) (places : ℕ) where
  all_have_places : (stack : List A) → crowded N places stack ≡ false → take places stack ≡ stack
  unfolding crowded
  all_have_places stack e = take_all places stack (ltb-false places (length stack) e)

  not_crowded : (stack : List A) → length stack ≤ places → crowded N places stack ≡ false
  unfolding crowded
  not_crowded stack l = le-ltb places (length stack) l

  insert_in_cut : (k : ℕ) (x : A) (stack : List A) → take k (insert N x (take k stack)) ≡ take k (insert N x stack)
  unfolding insert
  insert_in_cut zero x stack = refl
  insert_in_cut (suc k) x [] = refl
  insert_in_cut (suc k) x (y ∷ stack) = go (N.before y x) (insert_in_cut k x stack)
    where
      go : (b : Bool) → take k (insert N x (take k stack)) ≡ take k (insert N x stack)
          → take (suc k) (cond b (y ∷ insert N x (take k stack)) (x ∷ y ∷ take k stack)) ≡ take (suc k) (cond b (y ∷ insert N x stack) (x ∷ y ∷ stack))
      go true ih = ap (λ (r : List A). y ∷ r) ih
      go false ih = ap (λ (r : List A). x ∷ r) (take_with k stack y)

  push_in_cut : (x : A) (stack : List A) → take places (push N x (take places stack)) ≡ take places (push N x stack)
  unfolding push
  push_in_cut x stack = go (N.exists x)
    where
      go : (b : Bool) → take places (cond b (insert N x (take places stack)) (take places stack)) ≡ take places (cond b (insert N x stack) stack)
      go true = insert_in_cut places x stack
      go false = take_twice places stack

  -- whether one is pushed out now or when one more goes in
  crowded_in_cut : (x : A) (stack : List A) → (crowded N places stack || crowded N places (push N x (take places stack))) ≡ crowded N places (push N x stack)
  unfolding crowded
  crowded_in_cut x stack = go (ltb places (length stack)) refl
    where
      go : (b : Bool) → ltb places (length stack) ≡ b → (b || ltb places (length (push N x (take places stack)))) ≡ ltb places (length (push N x stack))
      go true e = sym (lt-ltb places (length (push N x stack)) (omega (arith, ltb-true places (length stack) e, push_keeps_length N x stack)))
      go false e = ap (λ (l : List A). ltb places (length (push N x l))) (all_have_places stack e)

  -- the extensions go in one after the other: as if both went in, and what has no place were cut off
  pub pushed_out_at_once : (x : A) (rest : List A) (lost : Bool)
      → extend_within N places x (bounded rest lost) ≡ bounded (take places (extend N x rest)) (lost || crowded N places (extend N x rest))
  unfolding extend_within push_within extend
  pushed_out_at_once x rest lost =
      let one = push N (N.extension false x) rest in
      let y = N.extension true x in
      ap₂ bounded (push_in_cut y one) (or_assoc lost (crowded N places one) (crowded N places (push N y (take places one))) ∙ ap (λ (b : Bool). lost || b) (crowded_in_cut y one))

  -- a step from x, which is not full
  abbrev onward : ℕ → ℕ → Bool → A → List A → BoundedResult A
  onward fuel c lost x rest = run_within N places fuel (suc c) (lost || crowded N places (extend N x rest)) (take places (extend N x rest))

  stepped : (fuel c : ℕ) (lost : Bool) (x : A) (rest : List A) → run_within N places (suc fuel) c lost (x ∷ rest) ≡ cond (N.full x) (ended (answer x (suc c)) lost) (onward fuel c lost x rest)
  unfolding run_within
  stepped fuel c lost x rest = ap (λ (s : Bounded A). cond (N.full x) (ended (answer x (suc c)) lost) (run_within N places fuel (suc c) s.any_pushed_out s.stack)) (pushed_out_at_once x rest lost)

  -- by cases of whether the head is full
  by_head : (P : BoundedResult A → Type 0) (fuel c : ℕ) (lost : Bool) (x : A) (rest : List A)
      → (N.full x ≡ true → P (ended (answer x (suc c)) lost)) → (N.full x ≡ false → P (onward fuel c lost x rest)) → P (run_within N places (suc fuel) c lost (x ∷ rest))
  by_head P fuel c lost x rest full part = subst⁻¹ P (stepped fuel c lost x rest) (go (N.full x) refl)
    where
      go : (b : Bool) → N.full x ≡ b → P (cond b (ended (answer x (suc c)) lost) (onward fuel c lost x rest))
      go true e = full e
      go false e = part e

  -- what was pushed out stays so
  stays_pushed_out : (fuel c : ℕ) (stack : List A) → (run_within N places fuel c true stack).any_pushed_out ≡ true
  unfolding run_within
  stays_pushed_out zero c stack = refl
  stays_pushed_out (suc fuel) c [] = refl
  stays_pushed_out (suc fuel) c (x ∷ rest) = by_head (λ r. r.any_pushed_out ≡ true) fuel c true x rest (λ e. refl) (λ e. stays_pushed_out fuel (suc c) (take places (extend N x rest)))

  -- where none was pushed out in the end, none was before
  pub none_before : (fuel c : ℕ) (lost : Bool) (stack : List A) → (run_within N places fuel c lost stack).any_pushed_out ≡ false → lost ≡ false
  none_before fuel c true stack e = absurd (not_both (run_within N places fuel c true stack).any_pushed_out e (stays_pushed_out fuel c stack))
  none_before fuel c false stack e = refl

  -- with places for all none is pushed out
  pub none_is_pushed_out : (fuel c : ℕ) (lost : Bool) (stack : List A) → length stack + fuel ≤ places → (run_within N places fuel c lost stack).any_pushed_out ≡ lost
  unfolding run_within
  none_is_pushed_out zero c lost stack l = refl
  none_is_pushed_out (suc fuel) c lost [] l = refl
  none_is_pushed_out (suc fuel) c lost (x ∷ rest) l =
      by_head (λ r. r.any_pushed_out ≡ lost) fuel c lost x rest (λ e. refl)
      (λ e.
      ap₂ (λ (b : Bool) (s : List A). (run_within N places fuel (suc c) (lost || b) s).any_pushed_out) fits (all_have_places (extend N x rest) fits)
      ∙ none_is_pushed_out fuel (suc c) (lost || false) (extend N x rest) (omega (arith, extend_length N x rest))
      ∙ or_false lost)
    where
      fits : crowded N places (extend N x rest) ≡ false
      fits = not_crowded (extend N x rest) (omega (arith, extend_length N x rest))

  -- at most fuel-many are taken
  pub taken_within : (fuel c : ℕ) (lost : Bool) (stack : List A) (d : ℕ) → (run_within N places fuel c lost stack).result ≡ spent d → d ≤ c + fuel
  unfolding run_within
  taken_within zero c lost stack d e = let s : c ≡ d = cc e in omega arith
  taken_within (suc fuel) c lost [] d e = let s : c ≡ d = cc e in omega arith
  taken_within (suc fuel) c lost (x ∷ rest) d e =
      by_head (λ r. r.result ≡ spent d → d ≤ c + suc fuel) fuel c lost x rest (λ f k. answer_is_not_spent x (suc c) d k)
      (λ f k. omega (arith, taken_within fuel (suc c) (lost || crowded N places (extend N x rest)) (take places (extend N x rest)) d k)) e

-- ---- a tree

module _ (t : Tree) (places : ℕ) where
  abbrev first : List Path
  first = extend (nodes t) [] []

  -- the search, from the stack that has its places
  pub bounded_search_is : (limit : ℕ) → bounded_search t places limit ≡ run_within (nodes t) places limit 0 (crowded (nodes t) places first) (take places first)
  unfolding bounded_search
  bounded_search_is limit = ap (λ (s : Bounded Path). run_within (nodes t) places limit 0 s.any_pushed_out s.stack) (pushed_out_at_once (nodes t) places [] [] false)

module _ (t : Tree) (sound : Sound t) (places : ℕ) where
  -- where none was pushed out, the run is that of the search
  none_pushed_out_is_the_run : (fuel : ℕ) (lost : Bool) (taken stack : List Path) → (run_within (nodes t) places fuel (length taken) lost stack).any_pushed_out ≡ false
      → (run_within (nodes t) places fuel (length taken) lost stack).result ≡ run t (λ w. true) fuel (record { taken = taken; stack = stack })
  unfolding run_within run step take_head grow
  none_pushed_out_is_the_run zero lost taken stack e = refl
  none_pushed_out_is_the_run (suc fuel) lost taken [] e = sym (run_on_empty t sound (λ w. true) (suc fuel) taken)
  none_pushed_out_is_the_run (suc fuel) lost taken (x ∷ rest) e =
      by_head (nodes t) places (λ r. r.any_pushed_out ≡ false → r.result ≡ whole) fuel (length taken) lost x rest
      (λ f k. sym (ap (λ (b : Bool). cond (b && true) (answer x (suc (length taken))) (run t (λ w. true) fuel (record { taken = x ∷ taken; stack = grow (nodes t) x rest }))) f))
      (λ f k.
      let fits = (or_neither lost (crowded (nodes t) places (extend (nodes t) x rest)) (none_before (nodes t) places fuel (suc (length taken)) (lost || crowded (nodes t) places (extend (nodes t) x rest)) (take places (extend (nodes t) x rest)) k)).1 in
      none_pushed_out_is_the_run fuel (lost || crowded (nodes t) places (extend (nodes t) x rest)) (x ∷ taken) (take places (extend (nodes t) x rest)) k
      ∙ ap (λ (s : List Path). run t (λ w. true) fuel (record { taken = x ∷ taken; stack = s })) (all_have_places (nodes t) places (extend (nodes t) x rest) fits ∙ sym (grown x rest f))
      ∙ sym (ap (λ (b : Bool). cond (b && true) (answer x (suc (length taken))) (run t (λ w. true) fuel (record { taken = x ∷ taken; stack = grow (nodes t) x rest }))) f))
      e
    where
      grown : (x : Path) (rest : List Path) → is_full t x ≡ false → grow (nodes t) x rest ≡ extend (nodes t) x rest
      grown x rest f = ap (λ (b : Bool). cond b rest (extend (nodes t) x rest)) f

      whole : SearchResult Path
      whole = run t (λ w. true) (suc fuel) (record { taken = taken; stack = x ∷ rest })

  -- where none was pushed out, word and count, or that it is spent, are those of the search of 01
  pub none_pushed_out_is_the_search : (limit : ℕ) → (bounded_search t places limit).any_pushed_out ≡ false → (bounded_search t places limit).result ≡ limited_search t limit
  unfolding limited_search start
  none_pushed_out_is_the_search limit e =
      let none = sym (ap (λ (r : BoundedResult Path). r.any_pushed_out) (bounded_search_is t places limit)) ∙ e in
      ap (λ (r : BoundedResult Path). r.result) (bounded_search_is t places limit)
      ∙ none_pushed_out_is_the_run limit (crowded (nodes t) places (first t places)) [] (take places (first t places)) none
      ∙ ap (λ (s : List Path). run t (λ w. true) limit (record { taken = []; stack = s }))
      (all_have_places (nodes t) places (first t places) (none_before (nodes t) places limit 0 (crowded (nodes t) places (first t places)) (take places (first t places)) none))

  -- with places for all it is the search of 01, and none is pushed out
  pub room_for_all_is_the_search : (limit : ℕ) → limit + 2 ≤ places → bounded_search t places limit ≡ ended (limited_search t limit) false
  room_for_all_is_the_search limit l = ap₂ ended (none_pushed_out_is_the_search limit flag) flag
    where
      fits : crowded (nodes t) places (first t places) ≡ false
      fits = not_crowded (nodes t) places (first t places) (omega (arith, extend_length (nodes t) [] []))

      flag : (bounded_search t places limit).any_pushed_out ≡ false
      flag =
          ap (λ (r : BoundedResult Path). r.any_pushed_out) (bounded_search_is t places limit)
          ∙ ap₂ (λ (b : Bool) (s : List Path). (run_within (nodes t) places limit 0 b s).any_pushed_out) fits (all_have_places (nodes t) places (first t places) fits)
          ∙ none_is_pushed_out (nodes t) places limit 0 false (first t places) (omega (arith, extend_length (nodes t) [] []))

  -- a spent search has taken at most limit-many
  pub spent_within_the_limit : (limit c : ℕ) → (bounded_search t places limit).result ≡ spent c → c ≤ limit
  spent_within_the_limit limit c e =
      omega (
        arith,
        taken_within (nodes t) places limit 0 (crowded (nodes t) places (first t places)) (take places (first t places)) c
            (sym (ap (λ (r : BoundedResult Path). r.result) (bounded_search_is t places limit)) ∙ e),
      )

  -- a stack that ran empty before the limit has pushed one out
  pub emptied_has_pushed_out : (limit c : ℕ) → (bounded_search t places limit).result ≡ spent c → c < limit → (bounded_search t places limit).any_pushed_out ≡ true
  emptied_has_pushed_out limit c e l = go (bounded_search t places limit).any_pushed_out refl
    where
      go : (b : Bool) → (bounded_search t places limit).any_pushed_out ≡ b → b ≡ true
      go true k = refl
      go false k =
          let all : c ≡ limit = (spent_is_below_the_winner t sound c limit (sym (none_pushed_out_is_the_search limit k) ∙ e)).0 in
          absurd (omega (arith, all))

  -- ---- what the paths taken and the stack are to each other

  -- as `Led`, of every path on the stack
  record Standing (taken stack : List Path) : Type 0 where
    pub stacked : Stacked t taken stack
    pub above : (p w : Path) → Mem p taken → Mem w stack → (r : Path) × Prefix r w × (t.sum r ≤ℤ t.sum p)

  standing_first : Standing [] (take places (first t places))
  standing_first =
      record {
        stacked = stacked_first t sound (take places (first t places)) (take_sorted t.before places (first t places) (first_sorted t sound)) (λ q m. of_take places (first t places) q m);
        above = λ p w m. absurd m;
      }

  standing_next : (taken rest : List Path) (p : Path) → Standing taken (p ∷ rest) → Standing (p ∷ taken) (take places (extend (nodes t) p rest))
  standing_next taken rest p s =
      record {
        stacked = stacked_next t sound taken rest p s.stacked (take places (extend (nodes t) p rest)) (take_sorted t.before places (extend (nodes t) p rest) (extended_sorted t sound taken rest p s.stacked)) (λ q m. of_take places (extend (nodes t) p rest) q m);
        above = λ q w m k. above' q w m (of_extend (nodes t) p rest w (of_take places (extend (nodes t) p rest) w k));
      }
    where
      here : Exists t p
      here = s.stacked.there p (inr (inl refl))

      above_new : (q w : Path) (b : Bool) → w ≡ b ∷ p → (r : Path) × Prefix r p × (t.sum r ≤ℤ t.sum q) → (r : Path) × Prefix r w × (t.sum r ≤ℤ t.sum q)
      above_new q w b e k = (k.0, subst⁻¹ (λ (u : Path). Prefix k.0 u) e (inr k.1), k.2)

      above' : (q w : Path) → Mem q (p ∷ taken) → ((b : Bool) × (w ≡ b ∷ p) × (t.exists w ≡ true)) ⊎ Mem w rest → (r : Path) × Prefix r w × (t.sum r ≤ℤ t.sum q)
      above' q w (inl e) (inl (b, k, x)) = above_new q w b k (p, prefix_self p here.some_bit, subst⁻¹ (λ (u : Path). t.sum p ≤ℤ t.sum u) e (≤ℤ_refl (t.sum p)))
      above' q w (inr m) (inl (b, k, x)) = above_new q w b k (s.above q p m (inl refl))
      above' q w (inl e) (inr k) =
          (w, prefix_self w (s.stacked.there w (inr (inr k))).some_bit, subst⁻¹ (λ (u : Path). t.sum w ≤ℤ t.sum u) e (sound.sums_fall p w (s.stacked.sorted.0 w k)))
      above' q w (inr m) (inr k) = s.above q w m (inr k)

  led_within : (taken rest : List Path) (w : Path) → Standing taken (w ∷ rest) → Led t taken w
  led_within taken rest w s =
      record {
        there = s.stacked.there w (inr (inl refl));
        below = λ r h. s.stacked.below w r (inr (inl refl)) h;
        above = λ p m. s.above p w m (inl refl);
      }

  -- ---- words

  answer_from : (fuel : ℕ) (lost : Bool) (taken stack : List Path) → Standing taken stack → (w : Path) (d : ℕ)
      → (run_within (nodes t) places fuel (length taken) lost stack).result ≡ answer w d → Full t w × (length taken < d) × (d ≤ length taken + fuel)
  unfolding run_within is_full
  answer_from zero lost taken stack s w d e = answer_is_not_spent w d (length taken) (sym e)
  answer_from (suc fuel) lost taken [] s w d e = answer_is_not_spent w d (length taken) (sym e)
  answer_from (suc fuel) lost taken (p ∷ rest) s w d e =
      by_head (nodes t) places (λ r. r.result ≡ answer w d → Full t w × (length taken < d) × (d ≤ length taken + suc fuel)) fuel (length taken) lost p rest
      (λ f k.
      let same : p ≡ w = cc k in
      let count : suc (length taken) ≡ d = cc k in (
        subst (λ (q : Path). Full t q) same (record { there = s.stacked.there p (inr (inl refl)); long = eqb-true (length p) t.size f }),
        omega arith,
        omega arith,
      ))
      (λ f k.
      let r = answer_from fuel (lost || crowded (nodes t) places (extend (nodes t) p rest)) (p ∷ taken) (take places (extend (nodes t) p rest)) (standing_next taken rest p s) w d k in
      (r.0, omega (arith, r.1), omega (arith, r.2)))
      e

  -- an answer is a full path, taken within the limit
  pub bounded_answer_is_full : (limit : ℕ) (w : Path) (c : ℕ) → (bounded_search t places limit).result ≡ answer w c → Full t w × (0 < c) × (c ≤ limit)
  bounded_answer_is_full limit w c e =
      let r = answer_from limit (crowded (nodes t) places (first t places)) [] (take places (first t places)) standing_first w c (sym (ap (λ (r : BoundedResult Path). r.result) (bounded_search_is t places limit)) ∙ e) in
      (r.0, r.1, omega (arith, r.2))

  -- ---- where no path is dead, the stack never runs empty

  module _ (continued : Continued t) (some : 0 < places) where
    some_member : {A : Type 0} (x : A) (l : List A) → Mem x l → 0 < length l
    some_member {A = A} x [] m = elim m [ ]
    some_member x (y ∷ l) m = omega arith

    some_left : {A : Type 0} (k : ℕ) (l : List A) → 0 < k → 0 < length l → 0 < length (take k l)
    some_left (suc k) (x ∷ l) h s = omega arith
    some_left (suc k) [] h s = absurd (omega arith)
    some_left zero l h s = absurd (omega arith)

    extended_some : (p : Path) (rest : List Path) → Exists t p → is_full t p ≡ false → 0 < length (extend (nodes t) p rest)
    unfolding is_full
    extended_some p rest x f =
        let k = continued p x (omega (arith, eqb-false (length p) t.size f, sound.short p x.in_tree)) in
        some_member (k.0 ∷ p) (extend (nodes t) p rest) (in_extend (nodes t) k.0 p rest k.1)

    never_empty : (fuel : ℕ) (lost : Bool) (taken stack : List Path) → Standing taken stack → 0 < length stack
        → (d : ℕ) → (run_within (nodes t) places fuel (length taken) lost stack).result ≡ spent d → d ≡ length taken + fuel
    unfolding run_within
    never_empty zero lost taken stack s n d e = let k : length taken ≡ d = cc e in omega arith
    never_empty (suc fuel) lost taken [] s n d e = absurd (omega arith)
    never_empty (suc fuel) lost taken (p ∷ rest) s n d e =
        by_head (nodes t) places (λ r. r.result ≡ spent d → d ≡ length taken + suc fuel) fuel (length taken) lost p rest
        (λ f k. answer_is_not_spent p (suc (length taken)) d k)
        (λ f k.
        omega (
          arith,
          never_empty fuel (lost || crowded (nodes t) places (extend (nodes t) p rest)) (p ∷ taken) (take places (extend (nodes t) p rest)) (standing_next taken rest p s)
              (some_left places (extend (nodes t) p rest) some (extended_some p rest (s.stacked.there p (inr (inl refl))) f)) d k,
        ))
        e

    first_some : 0 < length (first t places)
    first_some = go sound.some_full.0 sound.some_full.1
      where
        go : (w : Path) → Full t w → 0 < length (first t places)
        go w f =
            let h = prefix_first w f.there.some_bit in
            some_member (h.0 ∷ []) (first t places) (in_extend (nodes t) h.0 [] [] (prefix_exists t sound (h.0 ∷ []) w h.1 f.there).in_tree)

    -- a search that is spent has taken limit-many
    pub never_emptied : (limit c : ℕ) → (bounded_search t places limit).result ≡ spent c → c ≡ limit
    never_emptied limit c e =
        omega (
          arith,
          never_empty limit (crowded (nodes t) places (first t places)) [] (take places (first t places)) standing_first (some_left places (first t places) some first_some) c
              (sym (ap (λ (r : BoundedResult Path). r.result) (bounded_search_is t places limit)) ∙ e),
        )

  -- ---- on keys

  module _ {A : Type 0} (N : Nodes A) (key : Path → A) (keys : KeysOf t N key) (z₀ : ℤ) (high : (w : Path) → Exists t w → t.sum w ≤ℤ z₀) where
    crowded_keys : (stack : List Path) → crowded N places (map key stack) ≡ crowded (nodes t) places stack
    unfolding crowded
    crowded_keys stack = ap (ltb places) (length-map stack key)

    -- a run on keys has the result of the run on paths, the word with its low point
    run_keys_from : (fuel : ℕ) (lost : Bool) (taken stack : List Path) (z : ℤ) → Standing taken stack → LowSoFar t z₀ taken z
        → run_keys_within N places fuel (length taken) z lost (map key stack) ≡ ended_with_key (key_with_low t key) (run_within (nodes t) places fuel (length taken) lost stack)
    unfolding run_keys_within run_within ended_with_key with_key grow
    run_keys_from zero lost taken stack z s so = refl
    run_keys_from (suc fuel) lost taken [] z s so = refl
    run_keys_from (suc fuel) lost taken (p ∷ rest) z s so =
        by_head (nodes t) places (λ r. run_keys_within N places (suc fuel) (length taken) z lost (map key (p ∷ rest)) ≡ ended_with_key (key_with_low t key) r) fuel (length taken) lost p rest
        (λ f.
        ap (λ (b : Bool). cond b (told (N.sum (key p))) (goes_on (N.sum (key p)) (grow N (key p) (map key rest)))) (keys.same_full p ∙ f)
        ∙ ap told (keys.same_sum p)
        ∙ ap (λ (y : ℤ). ended (answer (record { key = key p; low = y }) (suc (length taken))) lost) (lowest_so_far_is_the_low_point t taken p (led_within taken rest p s) z₀ (lower z (t.sum p)) (high p here) one_more))
        (λ f.
        ap (λ (b : Bool). cond b (told (N.sum (key p))) (goes_on (N.sum (key p)) (grow N (key p) (map key rest)))) (keys.same_full p ∙ f)
        ∙ ap₂ goes_on (keys.same_sum p) (sym (grow_keys t N key keys sound p rest here) ∙ ap (map key) (ap (λ (b : Bool). cond b rest (extend (nodes t) p rest)) f))
        ∙ ap₂ (λ (b : Bool) (l : List A). run_keys_within N places fuel (suc (length taken)) (lower z (t.sum p)) (lost || b) l) (crowded_keys (extend (nodes t) p rest)) (sym (take_map key places (extend (nodes t) p rest)))
        ∙ run_keys_from fuel (lost || crowded (nodes t) places (extend (nodes t) p rest)) (p ∷ taken) (take places (extend (nodes t) p rest)) (lower z (t.sum p)) (standing_next taken rest p s) one_more)
      where
        here : Exists t p
        here = s.stacked.there p (inr (inl refl))

        one_more : LowSoFar t z₀ (p ∷ taken) (lower z (t.sum p))
        one_more = low_of_one_more t z₀ taken p z so

        told : ℤ → BoundedResult (WithLow A)
        told y = ended (answer (record { key = key p; low = lower z y }) (suc (length taken))) lost

        goes_on : ℤ → List A → BoundedResult (WithLow A)
        goes_on y l = run_keys_within N places fuel (suc (length taken)) (lower z y) (lost || crowded N places l) (take places l)

    -- from the start, with a number that is below no path's sum: the result of the search on paths, the word with its low point
    pub bounded_search_on_keys : (limit : ℕ)
        → run_keys_within N places limit 0 z₀ (crowded N places (extend N (key []) [])) (take places (extend N (key []) [])) ≡ ended_with_key (key_with_low t key) (bounded_search t places limit)
    unfolding start
    bounded_search_on_keys limit =
        ap₂ (λ (b : Bool) (l : List A). run_keys_within N places limit 0 z₀ b l) (ap (crowded N places) (sym keyed) ∙ crowded_keys (first t places)) (ap (take places) (sym keyed) ∙ sym (take_map key places (first t places)))
        ∙ run_keys_from limit (crowded (nodes t) places (first t places)) [] (take places (first t places)) z₀ standing_first (low_at_start t z₀)
        ∙ ap (ended_with_key (key_with_low t key)) (sym (bounded_search_is t places limit))
      where
        keyed : map key (first t places) ≡ extend N (key []) []
        keyed = start_keys t N key keys sound
