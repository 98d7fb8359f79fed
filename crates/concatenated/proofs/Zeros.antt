-- Lists of equal entries, and what the steps of page decoding make of zeros. Assumes nothing.
use mathlib.Core.Bool.{Bool, false, not}
use mathlib.Core.List.{List, [], ◌∷◌}
use mathlib.Core.Path.{◌≡◌, refl, sym, ap, ap₂, ◌∙◌}
use Prim.Native.Nat.{ℕ, zero, suc, ◌+◌, ◌-◌, ◌*◌, ◌/◌, ◌%◌, ◌^◌, ◌≤◌, ◌<◌}
use native.Mathlib.Nat.{zero-add, zero-mul, suc-mul, zero-div, zero-mod, mul-le-mul_right}
use native.Mathlib.Omega.{arith}
use lib.IntN.{ℤ}
use lib.ListN.{length, length-replicate, length-drop, get_or-replicate, replicate, take, drop}
use lib.Seq.{length-take-le, get_or-take, get_or-drop, ext_get_or}
use borrow.Author.Tests.{eq-eqb}
use Rattle.poly.specs.Polynomial.{add, remainder}
use Rattle.poly.proofs.Remainder.{remainder_zero}
use Rattle.poly.proofs.Sum.{add_zero_l}
use Rattle.column.specs.Shape.{Shape, levels, generator, degree}
use Rattle.column.specs.Level.{level_word, taken_off, reimaged}
use Rattle.concatenated.specs.Lists.{sum, total, listed}
use Rattle.concatenated.specs.Format.{Format}
use Rattle.concatenated.specs.Soft.{taken_off_by}
use Rattle.concatenated.specs.SoftPage.{column_off, column_part, soft_columns}
use Rattle.trellis.specs.Trellis.{WordFound}
use Rattle.concatenated.specs.Decode.{found, lows, changed, row_off}
use Rattle.concatenated.specs.ZeroPage.{zero_page}
use Rattle.concatenated.proofs.Lists.{listed_length, listed_at}
use Rattle.concatenated.proofs.SoftPages.{part_of_the_page}

-- ---- lists of equal entries

pub sum_replicate : (n x : ℕ) → sum (replicate n x) ≡ n * x
unfolding sum
sum_replicate zero x = sym (zero-mul x)
sum_replicate (suc n) x = omega (arith, sum_replicate n x, suc-mul n x)

pub lows_replicate : (k : ℕ) (w : WordFound) (n : ℕ) → lows (replicate k (found w n)) ≡ replicate k w.low
unfolding lows
lows_replicate zero w n = refl
lows_replicate (suc k) w n = ap (λ (zs : List ℤ). w.low ∷ zs) (lows_replicate k w n)

pub total_of_none : (n : ℕ) → total (replicate n false) ≡ 0
unfolding total
total_of_none zero = refl
total_of_none (suc n) = omega (arith, total_of_none n)

pub none_changed : (n x : ℕ) → changed (replicate n x) (replicate n false) (replicate n x) ≡ replicate n false
unfolding changed
none_changed zero x = refl
none_changed (suc n) x = ap₂ (λ (b : Bool) (t : List Bool). not b ∷ t) (eq-eqb x x refl) (none_changed n x)

part_of_equals : {A : Type 0} (x : A) (n m k : ℕ) → m + n ≤ k → take n (drop m (replicate k x)) ≡ replicate n x
part_of_equals x n m k h =
    let long : length (take n (drop m (replicate k x))) ≡ n = length-take-le n (drop m (replicate k x)) (omega (arith, length-drop m (replicate k x), length-replicate k x)) in
    ext_get_or x (take n (drop m (replicate k x))) (replicate n x) (long ∙ sym (length-replicate n x))
    (λ i l. let inside : i < n = omega (arith, long, l) in
    get_or-take n (drop m (replicate k x)) i x inside ∙ get_or-drop m (replicate k x) i x ∙ get_or-replicate k (m + i) x x (omega arith) ∙ sym (get_or-replicate n i x x inside))

-- ---- the columns of the all-zero page

pub zero_columns : (P : Format) → soft_columns P (zero_page P) ≡ replicate P.columns (replicate P.shape.bits 0)
unfolding soft_columns
zero_columns P =
    let N = P.columns in
    let n = P.shape.bits in
    let long : length (listed (column_part P (zero_page P)) N) ≡ N = listed_length (column_part P (zero_page P)) N in
    ext_get_or [] (listed (column_part P (zero_page P)) N) (replicate N (replicate n 0)) (long ∙ sym (length-replicate N (replicate n 0)))
    (λ j l. let inside : j < N = omega (arith, long, l) in
    let room : suc j * n ≤ N * n = mul-le-mul_right n inside in
    listed_at (column_part P (zero_page P)) N j [] inside ∙ part_of_the_page P (zero_page P) (length-replicate (N * n) 0) j inside
    ∙ part_of_equals 0 n (j * n) (N * n) (omega (arith, suc-mul j n)) ∙ sym (get_or-replicate N j (replicate n 0) [] inside))

-- ---- the level words of zeros

module _ (S : Shape) where
  level_word_of_zero : (i : ℕ) → level_word S i 0 ≡ 0
  unfolding level_word
  level_word_of_zero i =
      ap (λ (t : ℕ). t + remainder (degree S i) (generator S i) t) (zero-mul (2 ^ degree S i)) ∙ zero-add (remainder (degree S i) (generator S i) 0) ∙ remainder_zero (degree S i) (generator S i)

  nothing_off_zero : (k : ℕ) → taken_off S k 0 ≡ 0
  unfolding taken_off
  nothing_off_zero zero = refl
  nothing_off_zero (suc k) =
      ap (λ (t : ℕ). add t (level_word S (levels S - suc k) (t / 2 ^ degree S (levels S - suc k)))) (nothing_off_zero k)
      ∙ add_zero_l (level_word S (levels S - suc k) (0 / 2 ^ degree S (levels S - suc k)))
      ∙ ap (level_word S (levels S - suc k)) (zero-div (2 ^ degree S (levels S - suc k)))
      ∙ level_word_of_zero (levels S - suc k)

  pub zero_reimages_to_zero : (i : ℕ) → reimaged S i 0 ≡ 0
  unfolding reimaged
  zero_reimages_to_zero i = ap (λ (t : ℕ). t / 2 ^ degree S i) (nothing_off_zero (levels S - suc i)) ∙ zero-div (2 ^ degree S i)

  zero_word_off : (c : List ℕ) → column_off 0 c ≡ c
  unfolding column_off taken_off_by
  zero_word_off [] = refl
  zero_word_off (q ∷ c) =
      ap₂ (λ (b : ℕ) (t : List ℕ). taken_off_by b q ∷ t) (ap (λ (t : ℕ). t % 2) (zero-div (2 ^ length c)) ∙ zero-mod 2) (zero_word_off c)

  -- a row of zeros takes nothing off
  pub zero_row_off : (i n : ℕ) (c : List ℕ) → row_off S i (replicate n 0) (replicate n c) ≡ replicate n c
  unfolding row_off
  zero_row_off i zero c = refl
  zero_row_off i (suc n) c =
      ap₂ (λ (d : List ℕ) (t : List (List ℕ)). d ∷ t) (ap (λ (w : ℕ). column_off w c) (level_word_of_zero i) ∙ zero_word_off c) (zero_row_off i n c)
