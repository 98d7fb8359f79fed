-- The loop of the search with 64 places: where it stands, and what the run of the specification does from there. Assumes nothing.
use Prim.Native.Nat.{ℕ, suc, ◌+◌, ◌-◌, ◌<◌}
use native.Mathlib.Omega.{arith}
use mathlib.Core.Bool.{Bool, true, false, cond, ◌||◌, true≢false}
use mathlib.Core.List.{List, [], ◌∷◌}
use mathlib.Core.Path.{◌≡◌, refl, sym, ap, ap₂, ◌∙◌}
use lib.Dec.{eqb}
use lib.IntN.{ℤ, pos}
use lib.ListN.{take}
use borrow.Author.Tests.{eq-eqb, ne_eqb}
use mir.Syntax.{w16}
use mir.Val.{SFits, to_z, of_z}
use mir.Facts.{to_z-of_z}
use Rattle.std.specs.Int.{int_min}
use Rattle.paths.specs.Low.{lower}
use Rattle.paths.specs.Stack.{Nodes, extend, grow}
use Rattle.paths.specs.Search.{answer}
use Rattle.paths.specs.Keys.{WithLow}
use Rattle.paths.specs.Bounded.{Bounded, bounded, BoundedResult, ended, crowded, run_keys_within}
use Rattle.trellis.specs.Values.{Values}
use Rattle.trellis.specs.Keys.{Key, key, none_taken}
use Rattle.trellis.specs.Bounded.{key_search_within}
use Rattle.std.specs.Prelude.{Option, None, Some}
use Rattle.paths.specs.Lists.{Mem}
use Rattle.stack.specs.declared.Path.{Path}
use Rattle.stack.specs.Places.{path_key}
use Rattle.extension.specs.Steps.{Given, TableOf, Good, Held, table_nodes}
use Rattle.extension.proofs.Advances.{good_none}
use Rattle.search.proofs.Continues.{same_nodes}
use Rattle.chip.specs.Places.{Stepped}
use Rattle.search.specs.Outcomes as search
use Rattle.search.specs.declared.Found.{Found}
use Rattle.chip.specs.Outcomes.{taken, outcome_of}
use Rattle.chip.specs.declared.ChipOutcome.{ChipOutcome}

-- a word, or none, after c paths
abbrev pub ended_with : Option Found → ℕ → Bool → ChipOutcome
ended_with found c lost = record { found = found; count = c; pushed = lost }

-- the lowest sum so far, as the standard library has it
pub lower_of : (a b z : ℤ) → SFits w16 b → SFits w16 z → z ≡ int_min a (to_z w16 (of_z w16 b)) → to_z w16 (of_z w16 z) ≡ lower a b
unfolding lower
lower_of a b z fb fz e = to_z-of_z fz ∙ e ∙ ap (int_min a) (to_z-of_z fb)

-- a path was pushed out before, or one is now, or none
pub pushed_before : (a b x : Bool) → a ≡ b → a ≡ true → a ≡ (b || x)
pushed_before a true x e t = t
pushed_before a false x e t = absurd (true≢false (sym t ∙ e))

pub pushed_now : (a b x y : Bool) → a ≡ b → a ≡ false → y ≡ x → y ≡ (b || x)
pushed_now a true x y e t k = absurd (true≢false (sym e ∙ t))
pushed_now a false x y e t k = k

abbrev pub root : Key
root = key (pos 0) 0 0

-- the run of the specification when count-many were taken, p the last, and the others are on the stack
abbrev pub run_from : Nodes Key → ℕ → ℕ → ℤ → Key → Bounded Key → BoundedResult (WithLow Key)
run_from N fuel count low p s = run_keys_within N 64 fuel count low (s.any_pushed_out || crowded N 64 (grow N p s.stack)) (take 64 (grow N p s.stack))

-- the run from the start
abbrev pub whole_run : Nodes Key → ℕ → BoundedResult (WithLow Key)
whole_run N limit = run_from N limit 0 none_taken root (bounded [] false)

-- count-many are taken, p the last, which is not full; the others are on the stack
pub record Going (N : Nodes Key) (size : ℕ) (s : Bounded Key) (count : ℕ) (p : Key) (low : ℤ) : Type 0 where
  pub part : p.len < size
  pub good : Good size p
  pub held : (k : Key) → Mem k s.stack → Held size k
  pub same : (fuel : ℕ) → whole_run N (fuel + count) ≡ run_from N fuel count low p s

module _ (n : ℕ) (table : List ℤ) (soft left right : List ℕ) (limit : ℕ) where
  abbrev N : Nodes Key
  N = table_nodes n table soft left right

  pub going_start : 0 < n → Going N n (bounded [] false) 0 root none_taken
  going_start some =
      record {
        part = some;
        good = good_none n;
        held = λ k m. absurd m;
        same = λ fuel. let e : fuel + 0 ≡ fuel = omega arith in ap (whole_run N) e;
      }

  module _ (s s' : Bounded Key) (c : ℕ) (p : Key) (z : ℤ) (h : c < limit) (g : Going N n s c p z) where
    -- the run after the step
    run_step : (y : Option Path) → Stepped N n s s' p y → (l : List Key) → take 64 (grow N p s.stack) ≡ l → (fuel : ℕ) → whole_run N (suc fuel + c) ≡ run_keys_within N 64 (suc fuel) c z s'.any_pushed_out l
    run_step y d l e fuel = g.same (suc fuel) ∙ ap₂ (run_keys_within N 64 (suc fuel) c z) (sym d.flag) e

    whole : whole_run N limit ≡ whole_run N (suc (limit - suc c) + c)
    whole = let e : limit ≡ suc (limit - suc c) + c = omega arith in ap (whole_run N) e

    pub emptied_is : Stepped N n s s' p None → ended_with None c s'.any_pushed_out ≡ outcome_of (whole_run N limit)
    unfolding run_keys_within outcome_of taken search.outcome_of
    emptied_is d = sym (ap outcome_of (whole ∙ run_step None d [] d.step.0 (limit - suc c)))

    module _ (y : Path) (d : Stepped N n s s' p (Some y)) where
      abbrev low : ℤ
      low = lower z y.sum

      -- the run after y is taken
      abbrev next : ℕ → Bool → BoundedResult (WithLow Key)
      next fuel full = cond full (ended (answer (record { key = path_key y; low = low }) (suc c)) s'.any_pushed_out) (run_from N fuel (suc c) low (path_key y) s')

      run_taken : (fuel : ℕ) → whole_run N (suc fuel + c) ≡ next fuel (eqb y.len n)
      unfolding run_keys_within
      run_taken fuel = run_step (Some y) d (path_key y ∷ s'.stack) d.step fuel

      plus_one : suc c ≡ c + 1
      plus_one = omega arith

      pub going_next : (y.len ≡ n → ⊥) → Going N n s' (c + 1) (path_key y) low
      going_next nf =
          record {
            part = omega (arith, d.taken.good.short, nf);
            good = d.taken.good;
            held = d.held;
            same = λ fuel.
                let e : fuel + (c + 1) ≡ suc fuel + c = omega arith in
                ap (whole_run N) e ∙ run_taken fuel ∙ ap (next fuel) (ne_eqb y.len n nf)
                ∙ ap (λ (i : ℕ). run_from N fuel i low (path_key y) s') plus_one;
          }

      pub found_is : y.len ≡ n → ended_with (Some (record { word = y.bits; count = c + 1; low = low })) (c + 1) s'.any_pushed_out ≡ outcome_of (whole_run N limit)
      unfolding outcome_of taken search.outcome_of
      found_is full =
          ap (λ (i : ℕ). ended_with (Some (record { word = y.bits; count = i; low = low })) i s'.any_pushed_out) (sym plus_one)
          ∙ sym (ap outcome_of (whole ∙ run_taken (limit - suc c) ∙ ap (next (limit - suc c)) (eq-eqb y.len n full)))

  pub spent_is : (s : Bounded Key) (c : ℕ) (lost : Bool) (p : Key) (z : ℤ) → c ≡ limit → Going N n s c p z → lost ≡ (s.any_pushed_out || crowded N 64 (grow N p s.stack))
      → ended_with None limit lost ≡ outcome_of (whole_run N limit)
  unfolding run_keys_within outcome_of taken search.outcome_of
  spent_is s c lost p z e g q = ap₂ (ended_with None) (sym e) q ∙ sym (ap outcome_of (ap (whole_run N) all ∙ g.same 0))
    where
      all : limit ≡ 0 + c
      all = omega arith

  root_grows : 0 < n → grow N root [] ≡ extend N root []
  unfolding grow
  root_grows some = rw (ne_eqb 0 n (omega arith)) refl

  -- what the contract says
  pub contract : (vs : Values) → Given n soft left right table → TableOf vs table → (r : ChipOutcome) → r ≡ outcome_of (whole_run N limit) → r ≡ outcome_of (key_search_within 64 n vs soft left right limit)
  unfolding key_search_within
  contract vs g t r e =
      e
      ∙ ap (λ (l : List Key). outcome_of (run_keys_within N 64 limit 0 none_taken (crowded N 64 l) (take 64 l))) (root_grows g.some)
      ∙ ap (λ (M : Nodes Key). outcome_of (run_keys_within M 64 limit 0 none_taken (crowded M 64 (extend M root [])) (take 64 (extend M root [])))) (same_nodes n soft left right table vs g t)
