-- The loops over a column's soft values: the bits that they read as, the sum of these bits, and their low point; the table of what they give. Assumes nothing.
use mathlib.Core.Bool.{Bool, true, false, cond}
use mathlib.Core.List.{List, [], ◌∷◌}
use mathlib.Core.Logic.{⊎_elim}
use mathlib.Core.Path.{◌≡◌, refl, sym, ap, ap₂, ◌∙◌, subst, subst⁻¹}
use Prim.Native.Nat.{ℕ, zero, suc, ◌+◌, ◌*◌, ◌/◌, ◌≤◌, ◌<◌}
use native.Mathlib.Omega.{arith}
use lib.Dec.{ltb}
use lib.IntN.{ℤ, pos, nat_abs, ◌+ℤ◌}
use lib.ListN.{length, get_or}
use lib.Signed.{◌≤ℤ◌}
use borrow.Author.Tests.{ltb-true, ltb-false}
use mir.Syntax.{w16}
use mir.Val.{SFits, to_z, of_z}
use mir.Facts.{to_z-of_z}
use Rattle.paths.specs.Paths.{Path}
use Rattle.paths.specs.Low.{lower, lowest_from, lowest, low_point}
use Rattle.paths.proofs.Low.{lowest_from_above, low_point_of_one, low_point_of_one_more}
use Rattle.trellis.specs.Values.{Values, reading, branch}
use Rattle.trellis.specs.Order.{bit, sum}
use Rattle.trellis.specs.Keys.{none_taken}
use Rattle.trellis.specs.TwoWords.{hard_path}
use Rattle.trellis.proofs.HardPath.{read_bit, read_bit_is_reading, hard_path_length}
use Rattle.trellis.proofs.Sums.{add_near, near_is_not_above}
use Rattle.stack.proofs.Sums.{near_fits}
use Rattle.extension.specs.Steps.{TableOf}
use Rattle.list_of_two.specs.Hard.{Agreeing, AgreeingOf}

-- a soft value reads as the upper of its three bits
pub reading_is_quarter : (q : ℕ) → q < 8 → reading q ≡ q / 4
unfolding reading
reading_is_quarter q h = go (ltb q 4) refl
  where
    go : (b : Bool) → ltb q 4 ≡ b → cond b 0 1 ≡ q / 4
    go true e = omega (arith, ltb-true q 4 e)
    go false e = omega (arith, ltb-false q 4 e)

-- the sum after k values with one entry more, as the code adds it: it fits, is their sum, and lies within 60 a bit of zero
pub record Added (k : ℕ) (y x : ℤ) : Type 0 where
  pub fits : SFits w16 (y +ℤ to_z w16 (of_z w16 x))
  pub is : to_z w16 (of_z w16 (y +ℤ to_z w16 (of_z w16 x))) ≡ y +ℤ x
  pub near : nat_abs (to_z w16 (of_z w16 (y +ℤ to_z w16 (of_z w16 x)))) ≤ 60 * (k + 1)

pub added : (k : ℕ) (y x : ℤ) → k < 30 → nat_abs y ≤ 60 * k → nat_abs x ≤ 60 → Added k y x
added k y x few ny nx =
    let back : y +ℤ to_z w16 (of_z w16 x) ≡ y +ℤ x = ap (λ (t : ℤ). y +ℤ t) (to_z-of_z (near_fits x (omega arith))) in
    let near : nat_abs (y +ℤ x) ≤ 60 * (k + 1) = omega (arith, add_near y x) in
    let fits : SFits w16 (y +ℤ x) = near_fits (y +ℤ x) (omega arith) in
    let is : to_z w16 (of_z w16 (y +ℤ to_z w16 (of_z w16 x))) ≡ y +ℤ x = ap (λ (t : ℤ). to_z w16 (of_z w16 t)) back ∙ to_z-of_z fits in
    record { fits = subst⁻¹ (SFits w16) back fits; is = is; near = subst⁻¹ (λ (t : ℤ). nat_abs t ≤ 60 * (k + 1)) is near }

-- the lowest sum of a path's prefixes and of the number that the search begins with
unfoldable pub low_from : (Path → ℤ) → Path → ℤ
low_from sum [] = none_taken
low_from sum (b ∷ p) = lower (low_from sum p) (sum (b ∷ p))

-- the sum of the first bit read is not above that number, which counts for nothing
low_from_is_low_point : (sum : Path → ℤ) (soft : List ℕ) → sum (hard_path soft 1) ≤ℤ none_taken → (k : ℕ) → low_from sum (hard_path soft (suc k)) ≡ low_point sum (hard_path soft (suc k))
unfolding hard_path low_from lowest lowest_from
low_from_is_low_point sum soft high zero =
    lowest_from_above none_taken (sum (hard_path soft 1) ∷ []) (omega arith) (λ x m. ⊎_elim (λ e. subst⁻¹ (λ (y : ℤ). y ≤ℤ none_taken) e high) (λ e. absurd e) m) ∙ sym (low_point_of_one sum _)
low_from_is_low_point sum soft high (suc k) =
    ap (λ (z : ℤ). lower z (sum (hard_path soft (suc (suc k))))) (low_from_is_low_point sum soft high k) ∙ sym (low_point_of_one_more sum _ (hard_path soft (suc k)) (omega arith))

-- y is the sum of the first k bits read, z the lowest so far
pub record ReadTo (vs : Values) (soft : List ℕ) (k : ℕ) (y z : ℤ) : Type 0 where
  pub sum_is : y ≡ sum vs soft (hard_path soft k)
  pub low_is : z ≡ low_from (sum vs soft) (hard_path soft k)

pub read_none : (vs : Values) (soft : List ℕ) → ReadTo vs soft 0 (pos 0) none_taken
unfolding sum hard_path low_from
read_none vs soft = record { sum_is = refl; low_is = refl }

module _ (soft : List ℕ) (agreeing : List ℤ) (vs : Values) (of : Agreeing vs agreeing) where
  -- the entry of a value
  entry_read : (q : ℕ) → q < 8 → get_or agreeing q (pos 0) ≡ branch vs (bit (read_bit q)) q
  entry_read q h = of.entry q h ∙ ap (λ (b : ℕ). branch vs b q) (sym (read_bit_is_reading q))

  -- one value more
  pub read_next : (k : ℕ) (y z x w : ℤ) → get_or soft k 0 < 8 → x ≡ y +ℤ get_or agreeing (get_or soft k 0) (pos 0) → w ≡ lower z x
      → ReadTo vs soft k y z → ReadTo vs soft (k + 1) x w
  unfolding sum hard_path low_from
  read_next k y z x w h e low r =
      let next : suc k ≡ k + 1 = omega arith in
      let is : x ≡ sum vs soft (hard_path soft (suc k)) = e ∙ ap₂ ◌+ℤ◌ r.sum_is (entry_read (get_or soft k 0) h ∙ ap (λ (l : ℕ). branch vs (bit (read_bit (get_or soft k 0))) (get_or soft l 0)) (sym (hard_path_length soft k))) in
      record { sum_is = is ∙ ap (λ (j : ℕ). sum vs soft (hard_path soft j)) next; low_is = low ∙ ap₂ lower r.low_is is ∙ ap (λ (j : ℕ). low_from (sum vs soft) (hard_path soft j)) next }

  pub read_all : get_or soft 0 0 < 8 → ((q : ℕ) → q < 8 → nat_abs (get_or agreeing q (pos 0)) ≤ 60) → (y z : ℤ) → ReadTo vs soft 30 y z → z ≡ low_point (sum vs soft) (hard_path soft 30)
  unfolding sum hard_path
  read_all h near y z r = r.low_is ∙ low_from_is_low_point (sum vs soft) soft high 29
    where
      q : ℕ
      q = get_or soft 0 0

      high : (pos 0 +ℤ branch vs (bit (read_bit q)) q) ≤ℤ none_taken
      high =
          let small : nat_abs (branch vs (bit (read_bit q)) q) ≤ 60 = subst (λ (x : ℤ). nat_abs x ≤ 60) (entry_read q h) (near q h) in
          near_is_not_above (pos 0 +ℤ branch vs (bit (read_bit q)) q) 32767 (omega (arith, add_near (pos 0) (branch vs (bit (read_bit q)) q)))

-- ---- the entries picked from a table

-- from the table of given values, what these give
pub picked_agree : (vs : Values) (table agreeing : List ℤ) → TableOf vs table → AgreeingOf table agreeing → Agreeing vs agreeing
picked_agree vs table agreeing of picked = record { count = picked.count; entry = entry }
  where
    entry : (q : ℕ) → q < 8 → get_or agreeing q (pos 0) ≡ branch vs (reading q) q
    entry q h =
        picked.entry q h ∙ ap (λ (b : ℕ). get_or table (b * 8 + q) (pos 0)) (sym (read_bit_is_reading q ∙ reading_is_quarter q h))
        ∙ of.entry (read_bit q) q h ∙ ap (λ (b : ℕ). branch vs b q) (read_bit_is_reading q)

-- they are as near to zero
pub picked_near : (table agreeing : List ℤ) → AgreeingOf table agreeing → ((k : ℕ) → k < 16 → nat_abs (get_or table k (pos 0)) ≤ 60) → (q : ℕ) → q < 8 → nat_abs (get_or agreeing q (pos 0)) ≤ 60
picked_near table agreeing picked near q h = subst⁻¹ (λ (x : ℤ). nat_abs x ≤ 60) (picked.entry q h) (near (q / 4 * 8 + q) (omega arith))

-- the first q entries are picked
pub record PickedTo (q : ℕ) (table agreeing : List ℤ) : Type 0 where
  pub count : length agreeing ≡ 8
  pub entry : (j : ℕ) → j < q → get_or agreeing j (pos 0) ≡ get_or table (j / 4 * 8 + j) (pos 0)
