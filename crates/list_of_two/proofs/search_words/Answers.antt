use mathlib.Core.List.{[]}
use mathlib.Core.Logic.{inr}
use mathlib.Core.Path.{◌≡◌, ap, subst, subst⁻¹}
use Prim.Native.Nat.{ℕ}
use mir.Syntax.{w16}
use mir.Facts.{to_z-of_z}
use Rattle.heap.specs.Holds.{Holds}
use Rattle.trellis.specs.Values.{Values}
use Rattle.trellis.specs.Keys.{Key}
use Rattle.stack.specs.Places.{path_key, places, Upto}
use Rattle.extension.specs.Steps.{TableOf}
use Rattle.search.specs.Progress.{Reached}
use Rattle.search.specs.declared.Progress.{Progress}
use Rattle.search.proofs.Continues.{holds_none}
use Rattle.list_of_two.proofs.TwoRuns.{Task, K, At, Before, at_the_start, after_a_word, First, Second, none_is, one_is, ended_is, second_is, first_is}
use borrow.Author.Rules.{rules}
use Rattle.list_of_two.proofs.search_words.Invariants.{at_of, Before-run}
use Rattle.list_of_two.proofs.search_words.Goals.{After-run-end}
use Rattle.list_of_two.proofs.search_words.Goals as goal

-- what is searched
abbrev task : After-run-end → Values → Task
task c vs = let t = c.args.trellis.now in record { n = t.n; vs = vs; soft = t.col.now; left = t.left.now; right = t.right.now; threshold = c.args.threshold; limit = c.args.limit }

-- the stack at the loop's head, and after its run
abbrev heap : After-run-end → ℕ → Key
heap c = places c.loop-first.stack

abbrev heap_after : After-run-end → ℕ → Key
heap_after c = places c.run-end.new.stack

-- the threshold of the invariant was handed on
before : (c : After-run-end) → Before (λ vs. TableOf vs c.args.trellis.now.values.now) (task c) (heap c) (at_of c.loop-first.stack c.loop-first.first)
before c = subst (Before-run c.args.trellis.now c.args.limit c.loop-first.stack c.loop-first.first) (to_z-of_z c.ranges.threshold) c.loop-first.invariant.1

module _ (c : After-run-end) (vs : Values) (tb : TableOf vs c.args.trellis.now.values.now) where
  abbrev x : Progress
  x = c.run-end.result

  abbrev m : ℕ
  m = c.run-end.new.stack.paths

  -- what a run from the start came to
  first : (c.loop-first.first.last.len ≡ c.args.trellis.now.n → ⊥) → First (task c vs) (heap_after c) m x.count (path_key x.last) x.low
  first partial =
      let e = at_the_start (before c) vs tb partial in
      let none = subst⁻¹ (λ (k : ℕ). Holds Upto (heap c) k []) (ap (λ (s : At). s.paths) e) (holds_none (heap c)) in
      record {
        some = c.requires.given.some;
        threshold_fits = c.ranges.threshold;
        sum_fits = record { sfits = search rules };
        reached = subst (λ (s : At). Reached (K (task c vs)) c.args.trellis.now.n c.args.limit (heap_after c) s.count s.last s.low [] m x.count (path_key x.last) x.low) e (c.run-end.ensures.reached vs tb [] none);
      }

  -- what a run from the first word came to
  second : c.loop-first.first.last.len ≡ c.args.trellis.now.n
      → (let y = c.loop-first.first in Second (task c vs) (heap c) c.loop-first.stack.paths y.count (path_key y.last) y.low (heap_after c) m x.count (path_key x.last) x.low)
  second full = record { taken = after_a_word (before c) vs tb c.requires.given.some full; sum_fits = record { sfits = search rules }; reached = c.run-end.ensures.reached vs tb }

pub returns-then-end-trellis : goal.returns-then-end-trellis
returns-then-end-trellis c vs tb =
    let r = (goal.at.returns-then-end-trellis c).After-run-end in
    rw (c.found.ensures, to_z-of_z {w = w16} {z = c.loop-first.first.low} (record { sfits = search rules })) (ended_is (second r vs tb c.if-first-trellis.true) c.if-end-trellis.true)

pub returns-then-first-end : goal.returns-then-first-end
returns-then-first-end c vs tb = let r = (goal.at.returns-then-first-end c).After-run-end in rw c.found-then-first-end.ensures (second_is (second r vs tb c.if-first-trellis.true) c.if-end-trellis.false c.if-first-end.true)

pub returns-then-first-trellis : goal.returns-then-first-trellis
returns-then-first-trellis c vs tb =
    let r = (goal.at.returns-then-first-trellis c).After-run-end in
    rw (c.found-then-first-trellis.ensures, to_z-of_z {w = w16} {z = c.loop-first.first.low} (record { sfits = search rules })) (first_is (second r vs tb c.if-first-trellis.true) c.if-end-trellis.false c.if-first-end.false)

pub returns-then-end-trellis-2 : goal.returns-then-end-trellis-2
returns-then-end-trellis-2 c vs tb = let r = (goal.at.returns-then-end-trellis-2 c).After-run-end in none_is (first r vs tb c.if-first-trellis.false) c.if-end-trellis-2.true

pub loop-first-preserved : goal.loop-first-preserved
loop-first-preserved c =
    let r = (goal.at.loop-first-preserved c).After-run-end in (
      c.run-end.ensures.standing_2,
      subst⁻¹ (Before-run c.args.trellis.now c.args.limit c.run-end.new.stack c.run-end.result) (to_z-of_z c.ranges.threshold)
          (inr (λ vs tb. record { first = first r vs tb c.if-first-trellis.false; full = c.if-end-trellis-2.false; below = c.if-end-threshold.true })),
    )

pub returns-else-end-threshold : goal.returns-else-end-threshold
returns-else-end-threshold c vs tb = let r = (goal.at.returns-else-end-threshold c).After-run-end in rw c.found-else-end-threshold.ensures (one_is (first r vs tb c.if-first-trellis.false) c.if-end-trellis-2.false c.if-end-threshold.false)
