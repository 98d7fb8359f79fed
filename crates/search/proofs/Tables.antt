-- The tables of a search. Branch values: the entries, that each lies within 60 of zero, and the raising of 01's table to that of a level; the masks of the supercode search, level by level. Assumes nothing.
use mathlib.Core.Bool.{Bool, true, false}
use mathlib.Core.List.{List, []}
use mathlib.Core.Logic.{◌⊎◌, inl, inr, ⊎_elim}
use mathlib.Core.Path.{◌≡◌, refl, sym, ap, ap₂, ◌∙◌, subst, subst⁻¹}
use Prim.Native.Nat.{ℕ, suc, ◌+◌, ◌*◌, ◌/◌, ◌%◌, ◌≤◌, ◌<◌}
use native.Mathlib.Nat.{eq-or-lt_of_le, le_of_suc-le-suc, suc_inj}
use native.Mathlib.Omega.{arith}
use lib.Dec.{ltb}
use lib.IntN.{ℤ, pos, nat_abs, ◌+ℤ◌}
use lib.ListN.{length, get_or, set, length-set, get_or-eq_default}
use borrow.Author.Tests.{ltb-true, ltb-false}
use lib.Seq.{get_or-set_same, get_or-set_other, ext_get_or}
use mir.Syntax.{w16}
use mir.Val.{SFits}
use Rattle.column.proofs.Tabulated.{tabulated_length, tabulated_at}
use Rattle.trellis.specs.Values.{Values, values, level_values, branch}
use Rattle.trellis.specs.Order.{bit}
use Rattle.trellis.proofs.Values.{branch_at_level, level_0_has_the_values_of_01}
use Rattle.trellis.proofs.Order.{bit_below}
use Rattle.trellis.proofs.Sums.{add_near, Near, level_values_near}
use Rattle.stack.proofs.Sums.{near_fits}
use Rattle.extension.specs.Steps.{TableOf, table_of}
use Rattle.trellis.specs.Demand.{supercode}
use Rattle.search.specs.Outcomes.{TablesFor, SupercodesAt, SupercodesBelow}

pub table_of_lem : (vs : Values) → TableOf vs (table_of vs)
table_of_lem vs = record {
  entry = λ b q h.
      let inside : bit b * 8 + q < 16 = omega (arith, bit_below b) in
      let row : (bit b * 8 + q) / 8 ≡ bit b = omega arith in
      let place : (bit b * 8 + q) % 8 ≡ q = omega arith in
      tabulated_at (λ k. branch vs (k / 8) (k % 8)) 16 (bit b * 8 + q) (pos 0) inside ∙ ap₂ (branch vs) row place;
}

pub table_length : (vs : Values) → length (table_of vs) ≡ 16
table_length vs = tabulated_length (λ k. branch vs (k / 8) (k % 8)) 0 16

-- each entry lies within 60 of zero, if the values do
pub table_near : (vs : Values) → Near 60 vs → (k : ℕ) → nat_abs (get_or (table_of vs) k (pos 0)) ≤ 60
table_near vs near k = go (ltb k 16) refl
  where
    go : (t : Bool) → ltb k 16 ≡ t → nat_abs (get_or (table_of vs) k (pos 0)) ≤ 60
    go true e = subst⁻¹ (λ (v : ℤ). nat_abs v ≤ 60) (tabulated_at (λ j. branch vs (j / 8) (j % 8)) 16 k (pos 0) (ltb-true k 16 e)) (near (k / 8) (k % 8))
    go false e = subst⁻¹ (λ (v : ℤ). nat_abs v ≤ 60) (get_or-eq_default (table_of vs) (pos 0) {n = k} (omega (arith, table_length vs, ltb-false k 16 e))) (omega arith)

-- a value of 01's and what it rises by at a level fit 16 bits, and so does their sum
pub raising_fits : (i : ℕ) → i < 4 → (k : ℕ) (x : ℤ) → x ≡ get_or (table_of values) k (pos 0) → SFits w16 x × SFits w16 (pos (2 * i)) × SFits w16 (x +ℤ pos (2 * i))
raising_fits i h k x e =
    let near : nat_abs x ≤ 60 = subst⁻¹ (λ (v : ℤ). nat_abs v ≤ 60) e (table_near values (subst (Near 60) level_0_has_the_values_of_01 (level_values_near 0 (omega arith))) k) in
    (near_fits x (omega arith), near_fits (pos (2 * i)) (omega arith), near_fits (x +ℤ pos (2 * i)) (omega (arith, add_near x (pos (2 * i)))))

at_or_below : (j k : ℕ) → j < k + 1 → (j ≡ k) ⊎ (j < k)
at_or_below j k l = let up_to_lem : suc j ≤ suc k = omega arith in ⊎_elim (λ e. inl (suc_inj e)) (λ u. inr (le_of_suc-le-suc u)) (eq-or-lt_of_le up_to_lem)

-- the first k entries of a table are raised by r, the others are as they were
pub record RaisedUpTo (r : ℤ) (old : List ℤ) (k : ℕ) (table : List ℤ) : Type 0 where
  pub long : length table ≡ length old
  pub raised : (j : ℕ) → j < k → get_or table j (pos 0) ≡ get_or old j (pos 0) +ℤ r
  pub left : (j : ℕ) → k ≤ j → get_or table j (pos 0) ≡ get_or old j (pos 0)

pub one_more_raised : (r : ℤ) (old : List ℤ) (k : ℕ) (table : List ℤ) (x : ℤ) → k < length old → RaisedUpTo r old k table → x ≡ get_or old k (pos 0) +ℤ r → RaisedUpTo r old (k + 1) (set table k x)
one_more_raised r old k table x inside so e = record {
  long = length-set table k x ∙ so.long;
  raised = λ j l.
      ⊎_elim (λ same. ap (λ (i : ℕ). get_or (set table k x) i (pos 0)) same ∙ get_or-set_same table k x (pos 0) (omega (arith, so.long)) ∙ e ∙ ap (λ (i : ℕ). get_or old i (pos 0) +ℤ r) (sym same))
      (λ below. get_or-set_other table k j x (pos 0) (λ same. absurd (omega (arith, same, below))) ∙ so.raised j below)
      (at_or_below j k l);
  left = λ j l. get_or-set_other table k j x (pos 0) (λ same. absurd (omega (arith, same, l))) ∙ so.left j (omega arith);
}

-- 01's table, all of it raised by 2·i, is that of level i
pub all_raised : (i k : ℕ) (table : List ℤ) → 16 ≤ k → RaisedUpTo (pos (2 * i)) (table_of values) k table → table ≡ table_of (level_values i)
all_raised i k table enough so =
    ext_get_or (pos 0) table (table_of (level_values i)) (so.long ∙ table_length values ∙ sym (table_length (level_values i)))
    (λ j l. let inside : j < 16 = omega (arith, so.long, table_length values) in
    so.raised j (omega arith) ∙ ap (λ (v : ℤ). v +ℤ pos (2 * i)) (tabulated_at (λ k. branch values (k / 8) (k % 8)) 16 j (pos 0) inside)
    ∙ sym (branch_at_level i (j / 8) (j % 8)) ∙ sym (tabulated_at (λ k. branch (level_values i) (k / 8) (k % 8)) 16 j (pos 0) inside))

-- the masks of one level more
pub one_level_more : (n : ℕ) (tables : List (List ℕ)) (left right : List ℕ) → n < 4 → SupercodesBelow n tables → SupercodesAt n left right → SupercodesBelow (n + 1) (set (set tables n left) (n + 4) right)
one_level_more n tables left right few below at = record {
  many = length-set (set tables n left) (n + 4) right ∙ length-set tables n left ∙ below.many;
  each = λ i l.
      ⊎_elim (λ same. subst⁻¹ (λ (j : ℕ). SupercodesAt j (get_or after j []) (get_or after (j + 4) [])) same
      (subst⁻¹ (λ (m : List ℕ). SupercodesAt n m (get_or after (n + 4) [])) (get_or-set_other first (n + 4) n right [] (λ e. absurd (omega arith)) ∙ get_or-set_same tables n left [] (omega (arith, below.many)))
      (subst⁻¹ (SupercodesAt n left) (get_or-set_same first (n + 4) right [] (omega (arith, below.many, length-set tables n left))) at)))
      (λ under. subst⁻¹ (λ (m : List ℕ). SupercodesAt i m (get_or after (i + 4) [])) (kept i (λ e. absurd (omega (arith, e, under))) (λ e. absurd (omega (arith, e, under))))
      (subst⁻¹ (SupercodesAt i (get_or tables i [])) (kept (i + 4) (λ e. absurd (omega (arith, e, under))) (λ e. absurd (omega (arith, e, under)))) (below.each i under)))
      (at_or_below i n l);
}
  where
    first : List (List ℕ)
    first = set tables n left

    after : List (List ℕ)
    after = set first (n + 4) right

    kept : (j : ℕ) → (j ≡ n → ⊥) → (j ≡ n + 4 → ⊥) → get_or after j [] ≡ get_or tables j []
    kept j one two = get_or-set_other first (n + 4) j right [] two ∙ get_or-set_other tables n j left [] one

-- with the level's values they are the tables of the supercode search
pub supercode_tables : (i : ℕ) (tables : List (List ℕ)) (table : List ℤ) → i < 4 → SupercodesBelow 4 tables → table ≡ table_of (level_values i) → TablesFor supercode i (get_or tables i []) (get_or tables (i + 4) []) table
supercode_tables i tables table h all values = let at = all.each i h in record { masks = at.masks; lefts = at.lefts; rights = at.rights; values = values }
