-- A held search that goes on: from where the definition's search stops, its outcome is that of the definition's search with the larger limit, and if it is spent, it stops there again. Assumes nothing.
use Prim.Native.Nat.{ℕ, zero, suc, ◌+◌, ◌-◌, ◌<◌, ◌≤◌}
use native.Mathlib.Omega.{arith}
use mathlib.Core.Bool.{Bool, true, false, cond, true≢false}
use mathlib.Core.List.{List, [], ◌∷◌, map}
use mathlib.Core.Logic.{◌⊎◌, inl, inr}
use mathlib.Core.Path.{◌≡◌, refl, sym, ap, ap₂, ◌∙◌, subst, subst⁻¹}
use lib.Dec.{eqb}
use lib.IntN.{ℤ, pos}
use lib.ListN.{length, get_or}
use borrow.Author.Tests.{eq-eqb, eqb-true, eqb-false}
use Rattle.column.specs.Shape.{short}
use Rattle.paths.specs.Tree.{Tree, Sound}
use Rattle.paths.specs.Stack.{Nodes, extend, grow}
use Rattle.paths.specs.Search.{SearchResult, answer, spent, start, steps, after, run, limited_search}
use Rattle.paths.specs.Keys.{WithLow, KeysOf, run_keys, stack_after, low_after, with_key}
use Rattle.paths.proofs.Low.{LowSoFar, low_at_start, one_lowest}
use Rattle.paths.proofs.Keys.{stack_after_both, low_after_both, spent_keys_go_on, stack_on_keys_is_stack_on_paths, low_on_keys_is_low_on_paths}
use Rattle.trellis.specs.Values.{level_values}
use Rattle.trellis.specs.Order.{sum, number}
use Rattle.trellis.specs.Keys.{Key, key, key_of, key_nodes, none_taken, key_search}
use Rattle.trellis.specs.Trellis.{searched}
use Rattle.trellis.specs.Demand.{supercode}
use Rattle.trellis.proofs.Demand.{trellis_sound}
use Rattle.trellis.proofs.Demand as Demand
use Rattle.trellis.proofs.Keys.{by_bits, keys_of_trellis, key_search_is_the_search}
use Rattle.trellis.proofs.Short.{searchable, one_codeword_is_ahead_of_all}
use Rattle.search.specs.Progress.{Standing, Going, Answered, Ended, Reached}
use Rattle.search.specs.Outcomes.{SupercodesAt, TablesFor, outcome_of, code_outcome}
use Rattle.search.specs.declared.Progress.{Progress}
use Rattle.std.specs.Prelude.{Option, None, Some, is_some}
use Rattle.search.specs.declared.Found.{Found}
use Rattle.search.proofs.Continues.{standing_start, holds_none, start_grows}
use Rattle.search.proofs.ShortSearch.{search_short, level_not_above}
use Rattle.held.specs.Entry.{begun_held, column_trellis, held_trellis, last_of, paths_of}
use Rattle.held.specs.State.{LastTaken, outcome_at, Ready, Stopped}
use Rattle.held.specs.declared.Held.{Held}

spent_by_bits : (o : SearchResult (WithLow Key)) (c : ℕ) → by_bits o ≡ spent c → o ≡ spent c
spent_by_bits (answer k d) c e = let z : ◌≡◌ {A = ℕ} 0 1 = cc e in absurd (omega arith)
spent_by_bits (spent d) c e = ap spent (cc e)

abbrev always : Key → Bool
always k = true

-- ---- the search of a column on keys, by a pair of tables

module _ (soft : List ℕ) (i : ℕ) (level : i < 4) (left right : List ℕ) (masks : SupercodesAt i left right) where
  abbrev t : Tree
  t = column_trellis soft i

  abbrev K : Nodes Key
  K = key_nodes 30 (level_values i) soft left right

  abbrev start_of : List Key
  start_of = extend K (key (pos 0) 0 0) []

  sound : Sound t
  sound = trellis_sound short i (searchable i level) (level_values i) soft supercode

  keys : KeysOf t K (key_of (level_values i) soft)
  keys = keys_of_trellis short i (searchable i level) (level_values i) soft left right supercode masks.masks

  -- the definition's stack, and the lowest sum, after k steps
  stack_is : (k : ℕ) → map (key_of (level_values i) soft) (after t k).stack ≡ stack_after K k start_of
  unfolding key_of sum number
  stack_is k = stack_on_keys_is_stack_on_paths t K (key_of (level_values i) soft) keys sound k

  low_is : (k : ℕ) → LowSoFar t none_taken (after t k).taken (low_after K k none_taken start_of)
  unfolding key_of sum number
  low_is k = low_on_keys_is_low_on_paths t K (key_of (level_values i) soft) keys sound none_taken k

  search_is : (limit : ℕ) → by_bits (key_search 30 (level_values i) soft left right limit) ≡ searched t limit
  search_is = key_search_is_the_search short i (searchable i level) (level_values i) soft left right supercode masks.masks (level_not_above i level soft)

  -- a spent search has taken as many paths as its limit says: 01's stack is never empty
  spent_takes_the_limit : (limit c : ℕ) → searched t limit ≡ spent c → c ≡ limit
  spent_takes_the_limit limit c e =
      let best = one_codeword_is_ahead_of_all i level soft in
      (Demand.spent_is_above_the_limit short i (searchable i level) (level_values i) soft supercode best.0 best.1 limit c e).0

-- ---- an entry goes on, up to a limit

-- it then stands there with these paths
abbrev moved : Held → ℕ → ℕ → Key → ℤ → List ℤ → List ℕ → List ℕ → Held
moved h limit m p z sums lens bits = record { limit = limit; level = h.level; paths = m; last = p.bits; sum = p.sum; low = z; len = p.len; column = h.column; lens = lens; sums = sums; bits = bits }

module _ (h : Held) (s : Stopped h) (limit : ℕ) (more : h.limit < limit) (left right : List ℕ) (table : List ℤ) (tables : TablesFor supercode h.level left right table) where
  abbrev k : ℕ
  k = h.limit

  abbrev N : Nodes Key
  N = key_nodes 30 (level_values h.level) h.column left right

  abbrev begun : List Key
  begun = extend N (key (pos 0) 0 0) []

  abbrev outcome : SearchResult (WithLow Key)
  outcome = key_search 30 (level_values h.level) h.column left right limit

  masks : SupercodesAt h.level left right
  masks = record { masks = tables.masks; lefts = tables.lefts; rights = tables.rights }

  -- the heap with the extensions of the last path taken is the definition's stack
  on_stack : grow N (last_of h) s.rest ≡ stack_after N k begun
  unfolding stack_after
  on_stack = go k s.stack
    where
      go : (n : ℕ) → LastTaken h n s.rest → grow N (last_of h) s.rest ≡ stack_after N n begun
      go zero e = ap₂ (grow N) e.0 e.1 ∙ start_grows 30 (level_values h.level) h.column left right (omega arith)
      go (suc n) e =
          let one_more : n + 1 ≡ suc n = omega arith in
          ap (stack_after N 1) (e ∙ stack_is h.column h.level s.ready.level left right masks n) ∙ stack_after_both N n 1 begun
          ∙ ap (λ (j : ℕ). stack_after N j begun) one_more

  low_after_k : h.low ≡ low_after N k none_taken begun
  low_after_k = one_lowest _ h.low (low_after N k none_taken begun) s.low (low_is h.column h.level s.ready.level left right masks k)

  -- the definition's search with the limit is the run from where the entry stands
  goes_on : (fuel : ℕ) → limit ≡ k + fuel → outcome ≡ run_keys N always fuel k h.low (grow N (last_of h) s.rest)
  unfolding key_search
  goes_on fuel e =
      ap (λ (n : ℕ). run_keys N always n 0 none_taken begun) e
      ∙ spent_keys_go_on N always k fuel 0 k none_taken begun (spent_by_bits _ k (search_is h.column h.level s.ready.level left right masks k ∙ s.spent))
      ∙ ap₂ (λ (z : ℤ) (stack : List Key). run_keys N always fuel k z stack) (sym low_after_k) (sym on_stack)

  module _ (m c : ℕ) (p : Key) (z : ℤ) (sums : List ℤ) (lens bits : List ℕ) where
    abbrev r : Held
    r = moved h limit m p z sums lens bits

    module _ (standing : Standing 30 (paths_of r) m c p) (reached : Reached N 30 limit (paths_of r) k (last_of h) h.low s.rest m c p z) where
      abbrev Goes : Type 0
      Goes = Going N 30 limit (paths_of r) k (last_of h) h.low s.rest m c p z

      abbrev Ways : Type 0
      Ways = ((limit ≤ c) × Goes) ⊎ (Answered N 30 limit (paths_of r) k (last_of h) h.low s.rest m c p z ⊎ Ended N 30 limit (paths_of r) k (last_of h) h.low s.rest m c p z)

      in_parts : (fuel : ℕ) → k ≤ c → c + fuel ≡ limit → outcome ≡ run_keys N always (fuel + (c - k)) k h.low (grow N (last_of h) s.rest)
      in_parts fuel later e = goes_on (fuel + (c - k)) (omega arith)

      -- the last path taken is a word: it is the answer
      word_is : p.len ≡ 30 → outcome ≡ answer (record { key = p; low = z }) c
      word_is full = go reached.way
        where
          not_yet : (p.len < 30) ⊎ (p ≡ last_of h) → ⊥
          not_yet (inl l) = omega arith
          not_yet (inr e) = omega (arith, ap (λ (q : Key). q.len) e, s.partial)

          go : Ways → outcome ≡ answer (record { key = p; low = z }) c
          go (inl g) = absurd (not_yet g.1.partial)
          go (inr (inl a)) = in_parts (limit - c) (omega (arith, a.later)) (omega (arith, a.within)) ∙ a.same always (limit - c)
          go (inr (inr e)) = absurd (omega (arith, e.none))

      -- it is none: no word was taken, and the limit is reached
      spent_is : (p.len ≡ 30 → ⊥) → Goes × (c ≡ limit) × (outcome ≡ spent c)
      unfolding run_keys
      spent_is none = go reached.way
        where
          all : limit ≤ c → (c ≤ limit) ⊎ (c ≡ k) → c ≡ limit
          all l (inl w) = omega arith
          all l (inr w) = omega arith

          go : Ways → Goes × (c ≡ limit) × (outcome ≡ spent c)
          go (inl g) = let e = all g.0 g.1.within in (g.1, e, in_parts 0 g.1.later (omega arith) ∙ g.1.same always 0)
          go (inr (inl a)) = absurd (none a.full)
          go (inr (inr e)) =
              let ends : outcome ≡ spent c = in_parts (limit - c) e.later (omega (arith, e.within)) ∙ e.same always (limit - c) in
              absurd (omega (arith, e.within, spent_takes_the_limit h.column h.level s.ready.level left right masks limit c (sym (search_is h.column h.level s.ready.level left right masks limit) ∙ ap by_bits ends)))

      pub found_by_going_on : cond (eqb p.len 30) (Some (record { word = p.bits; count = c; low = z })) None ≡ code_outcome (searched (held_trellis h) limit)
      unfolding outcome_of
      found_by_going_on = search_short supercode h.level s.ready.level h.column left right table tables limit _ (go (eqb p.len 30) refl)
        where
          go : (b : Bool) → eqb p.len 30 ≡ b → cond b (Some (record { word = p.bits; count = c; low = z })) None ≡ outcome_of outcome
          go true e = sym (ap outcome_of (word_is (eqb-true p.len 30 e)))
          go false e = sym (ap outcome_of (spent_is (eqb-false p.len 30 e)).2)

      pub stops_again : (p.len ≡ 30 → ⊥) → Stopped r
      stops_again none =
          let g = (spent_is none).0 in
          let all = (spent_is none).1 in
          let steps : k + (c - k) ≡ limit = omega (arith, g.later) in
          let before : c ≡ k + suc (limit - k - 1) = omega arith in
          let up_to : suc (k + (limit - k - 1)) ≡ limit = omega arith in
          let first : p ∷ g.rest ≡ map (key_of (level_values h.level) h.column) (after (held_trellis h) (k + (limit - k - 1))).stack =
          g.taken (limit - k - 1) before ∙ ap (stack_after N (limit - k - 1)) on_stack ∙ stack_after_both N k (limit - k - 1) begun ∙ sym (stack_is h.column h.level s.ready.level left right masks (k + (limit - k - 1))) in
          record {
            ready = record { level = s.ready.level; full = s.ready.full; range = s.ready.range; standing = subst (λ (n : ℕ). Standing 30 (paths_of r) m n p) all standing };
            partial = omega (arith, standing.good.short);
            spent = sym (search_is h.column h.level s.ready.level left right masks limit) ∙ ap by_bits (spent_is none).2 ∙ ap spent all;
            rest = g.rest;
            holds = g.holds;
            stack = subst (λ (n : ℕ). LastTaken r n g.rest) up_to first;
            low =
                subst⁻¹ (λ (y : ℤ). LowSoFar (held_trellis h) none_taken (after (held_trellis h) limit).taken y)
                (g.low_is ∙ ap₂ (low_after N (c - k)) low_after_k on_stack ∙ low_after_both N k (c - k) none_taken begun ∙ ap (λ (n : ℕ). low_after N n none_taken begun) steps)
                (low_is h.column h.level s.ready.level left right masks limit);
          }

-- a state with a word is not spent
pub spent_has_no_word : (p : Progress) → outcome_at p ≡ None → p.last.len ≡ 30 → ⊥
spent_has_no_word p e full = go (sym (ap (λ (b : Bool). cond b (Some (found_at p)) None) (eq-eqb p.last.len 30 full)) ∙ e)
  where
    found_at : Progress → Found
    found_at p = record { word = p.last.bits; count = p.count; low = p.low }

    go : ◌≡◌ {A = Option Found} (Some (found_at p)) None → ⊥
    go q = true≢false (ap is_some q)

-- ---- a search of which no step is made

pub begun_is_ready : (soft : List ℕ) (level : ℕ) → level < 4 → length soft ≡ 30 → ((k : ℕ) → k < 30 → get_or soft k 0 ≤ 7) → Ready (begun_held soft level)
unfolding begun_held
begun_is_ready soft level l full range = record { level = l; full = full; range = range; standing = standing_start 30 _ }

pub begun_is_stopped : (soft : List ℕ) (level : ℕ) → Ready (begun_held soft level) → Stopped (begun_held soft level)
unfolding begun_held limited_search run start after steps with_key stack_after
begun_is_stopped soft level ready =
    record {
      ready = ready;
      partial = omega arith;
      spent = refl;
      rest = [];
      holds = holds_none _;
      stack = (refl, refl);
      low = low_at_start (column_trellis soft level) none_taken;
    }
