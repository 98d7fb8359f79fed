-- A buffer without a value above 7 is soft, and a soft page has none. Assumes nothing.
use mathlib.Core.Bool.{Bool, true, false, cond}
use mathlib.Core.List.{List, [], ◌∷◌}
use Prim.Native.Nat.{ℕ, suc, ◌≤◌}
use native.Mathlib.Nat.{not-suc-le-zero, le_of_suc-le-suc}
use native.Mathlib.Omega.{arith}
use borrow.Author.Tests.{leb-true}
use lib.Dec.{T, leb, leb→le}
use lib.ListN.{length}
use Rattle.dump.specs.Accepted.{Values}
use Rattle.concatenated.specs.SoftPage.{Soft}
use Rattle.questions.specs.Questions.{first_above}
use Rattle.questions.proofs.AllInRange.{no_value_above}

pub values_are_soft : (s : List ℕ) → length s ≤ first_above s 7 → Soft s
unfolding first_above
values_are_soft [] h = tt
values_are_soft (x ∷ xs) h = go (leb x 7) (leb→le x 7) h (values_are_soft xs)
  where
    go : (b : Bool) → (T b → x ≤ 7) → suc (length xs) ≤ cond b (suc (first_above xs 7)) 0 → (length xs ≤ first_above xs 7 → Soft xs) → Soft (x ∷ xs)
    go true ok h later = (ok tt, later (le_of_suc-le-suc h))
    go false ok h later = absurd (not-suc-le-zero h)

-- so is a soft page, and question 5 is answered yes
module _ (s : List ℕ) (values : Values 1890 7 s) where
  pub none_above_7 : 1890 ≤ first_above s 7
  none_above_7 = leb-true 1890 (first_above s 7) (no_value_above s 1890 7 values.size values.range)

  pub page_is_soft : Soft s
  page_is_soft = values_are_soft s (omega (arith, values.size, none_above_7))
