-- The totals of a level are the numbers of the outer rule. Assumes nothing.
use mathlib.Core.Path.{◌≡◌, refl, sym, ap, ap₂, ◌∙◌}
use mathlib.Core.Bool.{Bool, true, false, cond, not}
use mathlib.Core.List.{List, [], ◌∷◌}
use Prim.Native.Nat.{ℕ, zero, suc, ◌+◌, ◌*◌, ◌≤◌}
use native.Mathlib.Decide.{ℕ_discrete}
use native.Mathlib.Omega.{arith}
use lib.Dec.{eqb}
use lib.ListN.{length}
use borrow.Author.Tests.{eq-eqb, ne_eqb}
use Rattle.reedsolomon.specs.Words.{indicator, count, unequal, wrong, errors, InReach}
use Rattle.reedsolomon.specs.Row.{symbol}
use Rattle.concatenated.specs.Lists.{total}
use Rattle.concatenated.specs.Outer.{is_in}
use Rattle.concatenated.specs.Decode.{is_changed, changed}

-- ---- counting from the front

count_from_front : (E : ℕ → Bool) (n : ℕ) → count E (suc n) ≡ indicator (E 0) + count (λ j. E (suc j)) n
unfolding count
count_from_front E zero = omega arith
count_from_front E (suc n) = omega (arith, count_from_front E n)

errors_from_front : (E : ℕ → Bool) (n : ℕ) (w c : ℕ → ℕ)
    → errors ℕ_discrete E (suc n) w c ≡ wrong (E 0) (ℕ_discrete (w 0) (c 0)) + errors ℕ_discrete (λ j. E (suc j)) n (λ j. w (suc j)) (λ j. c (suc j))
unfolding errors
errors_from_front E zero w c = omega arith
errors_from_front E (suc n) w c = omega (arith, errors_from_front E n w c)

-- ---- a column

one_for_true : (b : Bool) → cond b 1 0 ≡ indicator b
unfolding indicator
one_for_true true = refl
one_for_true false = refl

pub at_most_one : (b : Bool) → cond b 1 0 ≤ 1
at_most_one true = omega arith
at_most_one false = omega arith

changed_is_wrong : (m : Bool) (x y : ℕ) → cond (is_changed m x y) 1 0 ≡ wrong m (ℕ_discrete x y)
unfolding wrong unequal
changed_is_wrong true x y = refl
changed_is_wrong false x y = go (ℕ_discrete x y)
  where
    go : (d : Dec (x ≡ y)) → cond (not (eqb x y)) 1 0 ≡ unequal d
    go (yes p) = ap (λ (t : Bool). cond (not t) 1 0) (eq-eqb x y p)
    go (no p) = ap (λ (t : Bool). cond (not t) 1 0) (ne_eqb x y p)

-- ---- a level

-- 01's s is the number of erased columns
pub erased_total_is_s : (marks : List Bool) → total marks ≡ count (is_in marks) (length marks)
unfolding total count
erased_total_is_s [] = refl
erased_total_is_s (m ∷ marks) = ap₂ ◌+◌ (one_for_true m) (erased_total_is_s marks) ∙ sym (count_from_front (is_in (m ∷ marks)) (length marks))

-- 01's e is the number of changed columns
pub changed_total_is_e : (w : List ℕ) (marks : List Bool) (c : List ℕ) → length marks ≡ length w → length c ≡ length w
    → total (changed w marks c) ≡ errors ℕ_discrete (is_in marks) (length w) (symbol w) (symbol c)
unfolding total changed errors
changed_total_is_e [] marks c e f = refl
changed_total_is_e (x ∷ w) [] c e f = absurd (omega arith)
changed_total_is_e (x ∷ w) (m ∷ marks) [] e f = absurd (omega arith)
changed_total_is_e (x ∷ w) (m ∷ marks) (y ∷ c) e f =
    ap₂ ◌+◌ (changed_is_wrong m x y) (changed_total_is_e w marks c (omega arith) (omega arith)) ∙ sym (errors_from_front (is_in (m ∷ marks)) (length w) (symbol (x ∷ w)) (symbol (y ∷ c)))

-- so 2·e + s of the outer rule is told by the totals
pub in_reach_by_totals : (N T : ℕ) (w : List ℕ) (marks : List Bool) (c : List ℕ) → length w ≡ N → length marks ≡ N → length c ≡ N
    → 2 * total (changed w marks c) + total marks ≤ T → InReach ℕ_discrete (is_in marks) N T (symbol w) (symbol c)
unfolding InReach
in_reach_by_totals N T w marks c lw lm lc h =
    omega (
      arith,
      h,
      changed_total_is_e w marks c (lm ∙ sym lw) (lc ∙ sym lw) ∙ ap (λ (n : ℕ). errors ℕ_discrete (is_in marks) n (symbol w) (symbol c)) lw,
      erased_total_is_s marks ∙ ap (count (is_in marks)) lm,
    )
