-- The loop of the checker: what it knows before a line, and what the line makes of it. Assumes nothing.
use Prim.Native.Nat.{ℕ, suc, ◌+◌, ◌-◌, ◌≤◌, ◌<◌}
use native.Mathlib.Omega.{arith}
use mathlib.Core.Bool.{Bool, true, false, cond, ◌&&◌}
use mathlib.Core.List.{List, [], ◌∷◌}
use mathlib.Core.Path.{◌≡◌, refl, sym, ap, ap₂, ◌∙◌}
use lib.Dec.{eqb}
use lib.IntN.{ℤ, pos}
use lib.ListN.{length, get_or}
use borrow.Author.Tests.{eq-eqb, ne_eqb}
use Rattle.paths.specs.Stack.{Nodes, extend, grow}
use Rattle.paths.specs.Listings.{Verdict, accepted, wrong}
use Rattle.heap.specs.Holds.{Holds}
use Rattle.trellis.specs.Values.{Values}
use Rattle.trellis.specs.Keys.{Key, key, key_nodes}
use Rattle.std.specs.Prelude.{Option, None, Some}
use Rattle.stack.specs.declared.Path.{Path}
use Rattle.stack.specs.Places.{path_key, Upto}
use Rattle.extension.specs.Steps.{Given, TableOf, table_nodes, Advanced}
use Rattle.search.specs.Progress.{Standing}
use Rattle.search.proofs.Continues.{standing_start, holds_none, standing_next, same_nodes}
use Rattle.checker.specs.Judging.{code_verdict, names, judge_keys, judged_keys}

-- k lines are right, p is the last of them, and the heap holds the rest of the stack: the judge goes on from there
pub record Judging (N : Nodes Key) (size : ℕ) (lengths numbers : List ℕ) (f : ℕ → Key) (paths k : ℕ) (p : Key) : Type 0 where
  pub standing : Standing size f paths k p
  pub rest : List Key
  pub holds : Holds Upto f paths rest
  pub same : judged_keys N lengths numbers ≡ judge_keys N lengths numbers (length lengths - k) k (eqb p.len size) (grow N p rest)

module _ (n : ℕ) (table : List ℤ) (soft left right lengths numbers : List ℕ) where
  abbrev N : Nodes Key
  N = table_nodes n table soft left right

  abbrev judges : ℕ → ℕ → Bool → List Key → Verdict
  judges = judge_keys N lengths numbers

  pub judging_start : 0 < n → (f : ℕ → Key) → Judging N n lengths numbers f 0 0 (key (pos 0) 0 0)
  unfolding judged_keys grow
  judging_start some f = record {
    standing = standing_start n f;
    rest = [];
    holds = holds_none f;
    same =
        let all : length lengths ≡ length lengths - 0 = omega arith in
        ap (λ (m : ℕ). judges m 0 false (extend N (key (pos 0) 0 0) [])) all ∙ ap (λ (b : Bool). judges (length lengths - 0) 0 b (cond b [] (extend N (key (pos 0) 0 0) []))) (sym (ne_eqb 0 n (omega arith)));
  }

  -- a line after the answer is wrong, whatever is on the stack
  after_the_answer : (m k : ℕ) (stack : List Key) → judges (suc m) k true stack ≡ wrong (suc k)
  unfolding judge_keys
  after_the_answer m k [] = refl
  after_the_answer m k (x ∷ rest) = refl

  one_on : (k : ℕ) → wrong (suc k) ≡ wrong (k + 1)
  one_on k = let e : suc k ≡ k + 1 = omega arith in ap wrong e

  module _ (f : ℕ → Key) (paths k : ℕ) (p : Key) (j : Judging N n lengths numbers f paths k p) where
    -- before line k + 1
    next_line : k < length lengths → judged_keys N lengths numbers ≡ judges (suc (length lengths - suc k)) k (eqb p.len n) (grow N p j.rest)
    next_line l = let e : length lengths - k ≡ suc (length lengths - suc k) = omega arith in j.same ∙ ap (λ (m : ℕ). judges m k (eqb p.len n) (grow N p j.rest)) e

    pub follows_the_answer : k < length lengths → p.len ≡ n → judged_keys N lengths numbers ≡ wrong (k + 1)
    follows_the_answer l full =
        next_line l
        ∙ ap (λ (b : Bool). judges (suc (length lengths - suc k)) k b (grow N p j.rest)) (eq-eqb p.len n full)
        ∙ after_the_answer (length lengths - suc k) k (grow N p j.rest)
        ∙ one_on k

    -- after the last
    pub ended : length lengths ≤ k → (full : Bool) → eqb p.len n ≡ full → judged_keys N lengths numbers ≡ cond full accepted (wrong (k + 1))
    unfolding judge_keys
    ended l full is =
        let e : length lengths - k ≡ 0 = omega arith in
        j.same ∙ ap (λ (m : ℕ). judges m k (eqb p.len n) (grow N p j.rest)) e ∙ ap₂ (λ (b : Bool) (w : Verdict). cond b accepted w) is (one_on k)

    -- a step is made for line k + 1
    module _ (f' : ℕ → Key) (paths' : ℕ) (l : k < length lengths) (partial : p.len ≡ n → ⊥) where
      judges_line : (stack : List Key) → grow N p j.rest ≡ stack → judged_keys N lengths numbers ≡ judges (suc (length lengths - suc k)) k false stack
      judges_line stack e = next_line l ∙ ap₂ (judges (suc (length lengths - suc k)) k) (ne_eqb p.len n partial) e

      pub no_path : Advanced N n f f' paths paths' p None → judged_keys N lengths numbers ≡ wrong (k + 1)
      unfolding judge_keys
      no_path d = judges_line [] (d.lists j.rest j.holds) ∙ one_on k

      module _ (taken : Path) (d : Advanced N n f f' paths paths' p (Some taken)) where
        abbrev y : Key
        y = path_key taken

        -- as the code asks
        abbrev named : Bool
        named = eqb (get_or lengths k 0) y.len && eqb (get_or numbers k 0) y.bits

        -- the judge at this line, by what is asked of it
        at_line : judged_keys N lengths numbers ≡ cond named (judges (length lengths - suc k) (suc k) (eqb y.len n) (grow N y (d.lists j.rest j.holds).0)) (wrong (suc k))
        unfolding judge_keys names
        at_line = judges_line (y ∷ (d.lists j.rest j.holds).0) (d.lists j.rest j.holds).1

        pub wrong_line : named ≡ false → judged_keys N lengths numbers ≡ wrong (k + 1)
        wrong_line w = at_line ∙ ap (λ (b : Bool). cond b (judges (length lengths - suc k) (suc k) (eqb y.len n) (grow N y (d.lists j.rest j.holds).0)) (wrong (suc k))) w ∙ one_on k

        pub right_line : named ≡ true → Judging N n lengths numbers f' paths' (k + 1) y
        right_line r =
            let moved : suc k ≡ k + 1 = omega arith in
            record {
              standing = standing_next n table soft left right 0 f f' paths paths' k p j.standing taken d;
              rest = (d.lists j.rest j.holds).0;
              holds = (d.lists j.rest j.holds).2;
              same =
                  at_line
                  ∙ ap (λ (b : Bool). cond b (judges (length lengths - suc k) (suc k) (eqb y.len n) (grow N y (d.lists j.rest j.holds).0)) (wrong (suc k))) r
                  ∙ ap (λ (i : ℕ). judges (length lengths - i) i (eqb y.len n) (grow N y (d.lists j.rest j.holds).0)) moved;
            }

  -- the table's nodes are the specification's
  pub contract : (vs : Values) → Given n soft left right table → TableOf vs table → (r : Option ℕ) → r ≡ code_verdict (judged_keys N lengths numbers)
      → r ≡ code_verdict (judged_keys (key_nodes n vs soft left right) lengths numbers)
  contract vs g t r e = e ∙ ap (λ (M : Nodes Key). code_verdict (judged_keys M lengths numbers)) (same_nodes n soft left right table vs g t)
