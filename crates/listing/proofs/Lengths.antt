-- How long the lines are at most. Assumes nothing.
use Rattle.std.proofs.Common.{◌≡◌, List, [], ◌∷◌, ℕ, zero, suc, ◌+◌, ◌*◌, ◌-◌, ◌/◌, ◌≤◌, ◌<◌, length, refl, arith, length-append, cond, true, false, Bool, sym, subst, zero-add, suc-add}
use lib.Dec.{ltb}
use Rattle.std.specs.Prelude.{get_or}
use Rattle.io.specs.Digits.{last_digits}
use Rattle.listing.specs.Text.{ascii, decimal, decimal_in, hex_of}
use Rattle.listing.specs.Lines.{ok_line, columns_text, level_line, level_lines, data_line, refused_line, census_line}

-- one of two lists, neither longer than k
one_of_two : (t : Bool) (xs ys : List ℕ) (k : ℕ) → length xs ≤ k → length ys ≤ k → length (cond t xs ys) ≤ k
one_of_two true xs ys k p q = p
one_of_two false xs ys k p q = q

decimal_in_length : (k n : ℕ) → length (decimal_in k n) ≤ k
unfolding decimal_in
decimal_in_length zero n = omega arith
decimal_in_length (suc k) n = one_of_two (ltb n 10) _ _ (suc k) (omega arith) (simp length-append (omega (arith, decimal_in_length k (n / 10))))

pub decimal_length : (n : ℕ) → length (decimal n) ≤ 20
decimal_length n = decimal_in_length 20 n

last_digits_length : (b k n : ℕ) → length (last_digits b k n) ≡ k
last_digits_length b zero n = refl
last_digits_length b (suc k) n = simp length-append (omega (arith, last_digits_length b k (n / b)))

pub hex_of_length : (bs : List ℕ) → length (hex_of bs) ≡ 2 * length bs
unfolding hex_of
hex_of_length [] = refl
hex_of_length (b ∷ bs) = omega (arith, hex_of_length bs)

pub columns_text_length : (total mark : ℕ) → length (columns_text total mark) ≤ 37
unfolding columns_text ascii
columns_text_length total mark = simp length-append (grind (arith, decimal_in_length, last_digits_length))

pub ok_line_length : (steps : ℕ) → length (ok_line steps) ≤ 35
unfolding ok_line ascii
ok_line_length steps = simp length-append (omega (arith, decimal_length steps))

pub level_line_length : (level changed changed_mark erased erased_mark : ℕ) → length (level_line level changed changed_mark erased erased_mark) ≤ 118
unfolding level_line ascii
level_line_length level changed changed_mark erased erased_mark =
    simp length-append (omega (arith, decimal_length level, columns_text_length changed changed_mark, columns_text_length erased erased_mark))

pub data_line_length : (bytes : List ℕ) → length (data_line bytes) ≡ 2 * length bytes + 6
unfolding data_line ascii
data_line_length bytes = simp length-append (omega (arith, hex_of_length bytes))

pub refused_line_length : (number place : ℕ) → length (refused_line number place) ≤ 61
unfolding refused_line ascii
refused_line_length number place = simp length-append (omega (arith, decimal_length number, decimal_length place))

pub census_line_length : (level ones zeros others spent : ℕ) → length (census_line level ones zeros others spent) ≤ 133
unfolding census_line ascii
census_line_length level ones zeros others spent =
    simp length-append (omega (arith, decimal_length level, decimal_length ones, decimal_length zeros, decimal_length others, decimal_length spent))

module _ (changed changed_marks erased erased_marks : List ℕ) where
  abbrev lines : ℕ → List ℕ
  lines n = level_lines n changed changed_marks erased erased_marks

  pub level_lines_length : (n : ℕ) → length (level_lines n changed changed_marks erased erased_marks) ≤ 118 * n
  unfolding level_lines
  level_lines_length zero = omega arith
  level_lines_length (suc n) = simp length-append (omega (arith, level_lines_length n, level_line_length n (get_or changed n 0) (get_or changed_marks n 0) (get_or erased n 0) (get_or erased_marks n 0)))

  -- the lines of fewer levels are no longer
  fewer_levels : (m k : ℕ) → length (lines m) ≤ length (lines (k + m))
  unfolding level_lines
  fewer_levels m zero = subst (λ (n : ℕ). length (lines m) ≤ length (lines n)) (sym (zero-add m)) (omega arith)
  fewer_levels m (suc k) = subst (λ (n : ℕ). length (lines m) ≤ length (lines n)) (sym (suc-add k m)) (simp length-append (omega (arith, fewer_levels m k)))

  -- a level's line stands within the lines of all
  pub one_of_four : (n : ℕ) → n < 4
      → length (level_lines n changed changed_marks erased erased_marks) + length (level_line n (get_or changed n 0) (get_or changed_marks n 0) (get_or erased n 0) (get_or erased_marks n 0)) ≤ length (level_lines 4 changed changed_marks erased erased_marks)
  unfolding level_lines
  one_of_four n h =
      let all : 3 - n + suc n ≡ 4 = omega (arith, h) in
      let fewer = subst (λ (k : ℕ). length (lines (suc n)) ≤ length (lines k)) all (fewer_levels (suc n) (3 - n)) in
      simp (← length-append) fewer
