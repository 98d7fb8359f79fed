-- The entries of what a level makes, one by one. Assumes nothing.
use mathlib.Core.Bool.{Bool, true, false}
use mathlib.Core.List.{List, [], ◌∷◌}
use mathlib.Core.Path.{◌≡◌, refl, ap, ◌∙◌}
use Prim.Native.Nat.{ℕ, zero, suc, ◌-◌, ◌<◌}
use native.Mathlib.Nat.{not-suc-le-zero, le_of_suc-le-suc, suc_inj}
use native.Mathlib.Omega.{arith}
use lib.ListN.{length, get_or}
use Rattle.column.specs.Shape.{Shape}
use Rattle.column.specs.Level.{level_word}
use Rattle.packing.specs.Packing.{digit}
use Rattle.concatenated.specs.Soft.{taken_off_by}
use Rattle.concatenated.specs.SoftPage.{column_off}
use Rattle.concatenated.specs.Decode.{is_changed, changed, row_off}

-- the soft values of a column with a word taken off
pub off_at : (w : ℕ) (c : List ℕ) (p : ℕ) → p < length c → get_or (column_off w c) p 0 ≡ taken_off_by (digit 2 (length c - suc p) w) (get_or c p 0)
unfolding column_off
off_at w [] p h = absurd (not-suc-le-zero h)
off_at w (q ∷ c) zero h = let z : length c ≡ suc (length c) - 1 = omega arith in ap (λ (k : ℕ). taken_off_by (digit 2 k w) q) z
off_at w (q ∷ c) (suc p) h =
    let z : length c - suc p ≡ suc (length c) - suc (suc p) = omega arith in
    off_at w c p (le_of_suc-le-suc h) ∙ ap (λ (k : ℕ). taken_off_by (digit 2 k w) (get_or c p 0)) z

-- the columns with a row's level words taken off
pub row_off_at : (S : Shape) (i : ℕ) (r : List ℕ) (cs : List (List ℕ)) (j : ℕ) → j < length r → j < length cs
    → get_or (row_off S i r cs) j [] ≡ column_off (level_word S i (get_or r j 0)) (get_or cs j [])
unfolding row_off
row_off_at S i [] cs j h l = absurd (not-suc-le-zero h)
row_off_at S i (s ∷ r) [] j h l = absurd (not-suc-le-zero l)
row_off_at S i (s ∷ r) (c ∷ cs) zero h l = refl
row_off_at S i (s ∷ r) (c ∷ cs) (suc j) h l = row_off_at S i r cs j (le_of_suc-le-suc h) (le_of_suc-le-suc l)

-- the changed columns
pub changed_length : (xs : List ℕ) (ms : List Bool) (r : List ℕ) → length ms ≡ length xs → length r ≡ length xs → length (changed xs ms r) ≡ length xs
unfolding changed
changed_length [] ms r e f = refl
changed_length (x ∷ xs) [] r e f = absurd (omega arith)
changed_length (x ∷ xs) (m ∷ ms) [] e f = absurd (omega arith)
changed_length (x ∷ xs) (m ∷ ms) (y ∷ r) e f = ap suc (changed_length xs ms r (suc_inj e) (suc_inj f))

pub changed_at : (xs : List ℕ) (ms : List Bool) (r : List ℕ) (j : ℕ) → length ms ≡ length xs → length r ≡ length xs → j < length xs
    → get_or (changed xs ms r) j false ≡ is_changed (get_or ms j false) (get_or xs j 0) (get_or r j 0)
unfolding changed
changed_at [] ms r j e f h = absurd (not-suc-le-zero h)
changed_at (x ∷ xs) [] r j e f h = absurd (omega arith)
changed_at (x ∷ xs) (m ∷ ms) [] j e f h = absurd (omega arith)
changed_at (x ∷ xs) (m ∷ ms) (y ∷ r) zero e f h = refl
changed_at (x ∷ xs) (m ∷ ms) (y ∷ r) (suc j) e f h = changed_at xs ms r j (suc_inj e) (suc_inj f) (le_of_suc-le-suc h)

-- an erased column is no changed one
pub erased_is_not_changed : (xs : List ℕ) (ms : List Bool) (r : List ℕ) (j : ℕ) → get_or ms j false ≡ true → get_or (changed xs ms r) j false ≡ false
unfolding changed
erased_is_not_changed [] ms r j e = refl
erased_is_not_changed (x ∷ xs) [] r j e = refl
erased_is_not_changed (x ∷ xs) (m ∷ ms) [] j e = refl
erased_is_not_changed (x ∷ xs) (m ∷ ms) (y ∷ r) zero e = ap (λ (b : Bool). is_changed b x y) e
erased_is_not_changed (x ∷ xs) (m ∷ ms) (y ∷ r) (suc j) e = erased_is_not_changed xs ms r j e
