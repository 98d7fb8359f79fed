-- Demand 3 of a search that is taken up: word, count and low point, and the 9, by the summed limit. Assumes nothing.
use Prim.Native.Nat.{ℕ, ◌+◌, ◌<◌, ◌≤◌}
use native.Mathlib.Omega.{arith}
use mathlib.Core.List.{List}
use mathlib.Core.Logic.{◌⊎◌, inl, inr, ◌↔◌}
use mathlib.Core.Path.{◌≡◌, sym, ap, ◌∙◌, subst}
use lib.ListN.{length, get_or}
use Rattle.column.specs.Shape.{short}
use Rattle.paths.specs.Lists.{Lists}
use Rattle.paths.specs.Paths.{Path}
use Rattle.paths.specs.Low.{low_point}
use Rattle.trellis.specs.Values.{level_values}
use Rattle.trellis.specs.Order.{number as column_of, sum}
use Rattle.trellis.specs.Demand.{supercode, AheadOfAll, Counted}
use Rattle.trellis.specs.TwoWords.{off}
use Rattle.searches.specs.Searches.{found, number, Allowed, search_answer}
use Rattle.store_searches.proofs.Calls.{call_answers_within_the_limit, call_is_9_exactly_above_the_limit}
use Rattle.held.specs.Entry.{nothing_held}
use Rattle.held.specs.State.{Stopped}
use Rattle.held.specs.declared.Held.{Held}
use Rattle.store_held.specs.Names.{free, kept, under}
use Rattle.store_held.specs.Calls.{entry, kept_of, names_of, MadeStore, TakeCall}
use Rattle.store_held.specs.Stories.{take}
use Rattle.store_held.specs.declared.Store.{Store}
use Rattle.store_held.specs.declared.HeldAnswer.{HeldAnswer}
use Rattle.store_held.proofs.Entries.{under_is, kept_is, nothing_is_free}
use Rattle.store_held.proofs.Stories.{answers_by_the_rules, taken_up_is_one_search}

-- a name holds this search, and is taken up with a limit that 4 and 18 let through
module _ (s : Store) (m : MadeStore s) (name : ℕ) (low : name < 4) (soft : List ℕ) (level summed : ℕ) (is : under (names_of s) name ≡ kept soft level summed) (limit : ℕ) (some : 1 ≤ limit) (most : summed + limit ≤ 2000) where
  held_so : kept_of (entry s name) ≡ kept soft level summed
  held_so = sym (under_is s name) ∙ is

  kept_is_allowed : Allowed level soft (summed + limit)
  kept_is_allowed = go (m.each name low).made
    where
      never : free ≡ kept soft level summed → ⊥
      never e = let z : ◌≡◌ {A = ℕ} 0 1 = cc e in absurd (omega arith)

      by : (h : Held) → Stopped h → kept h.column h.level h.limit ≡ kept soft level summed → Allowed level soft (summed + limit)
      by h st e =
          let column : h.column ≡ soft = cc e in
          let at_level : h.level ≡ level = cc e in
          let range = st.ready.range in
          record {
            full = ap length (sym column) ∙ st.ready.full;
            level = omega (arith, st.ready.level, at_level);
            some = omega (arith, some);
            most = most;
            range = λ k l. subst (λ (c : List ℕ). get_or c k 0 ≤ 7) column (range k l);
          }

      go : (entry s name ≡ nothing_held) ⊎ ((1 ≤ (entry s name).limit) × ((entry s name).limit ≤ 2000) × Stopped (entry s name)) → Allowed level soft (summed + limit)
      go (inl e) = absurd (never (sym nothing_is_free ∙ ap kept_of (sym e) ∙ held_so))
      go (inr e) = by (entry s name) e.2 (sym (kept_is (entry s name) e.0) ∙ held_so)

  module _ (r : HeldAnswer) (t : TakeCall s name limit r) (w : Path) (best : AheadOfAll short (level_values level) soft level w) (ps : List Path) (listed : Lists (Counted supercode short (level_values level) soft level w) ps) where
    answer_is : r.answer ≡ search_answer off supercode level soft (summed + limit)
    answer_is =
        answers_by_the_rules s m r (take name limit) t
        ∙ taken_up_is_one_search (names_of s) name soft level summed limit is low some most

    -- w is the codeword ahead of all others, and ps lists the paths that are prefixes of it or ahead of it
    pub taken_up_answers_within_the_sum : length ps ≤ summed + limit → r.answer ≡ found (column_of w) (length ps) (low_point (sum (level_values level) soft) w)
    taken_up_answers_within_the_sum l = answer_is ∙ (call_answers_within_the_limit supercode level soft (summed + limit) kept_is_allowed w best ps listed l).0

    pub taken_up_is_9_exactly_above_the_sum : (number r.answer ≡ 9) ↔ (summed + limit < length ps)
    taken_up_is_9_exactly_above_the_sum =
        let exactly = call_is_9_exactly_above_the_limit supercode level soft (summed + limit) kept_is_allowed w best ps listed in
        (λ nine. exactly.0 (ap number (sym answer_is) ∙ nine), λ above. ap number answer_is ∙ exactly.1 above)
