-- Words with their remainders: they keep bitwise sums, and the remainder shows as a number of 2^30 or more. Assumes nothing.
use mathlib.Core.Bool.{Bool, true, false}
use mathlib.Core.List.{List}
use mathlib.Core.Logic.{◌↔◌, ⊎_elim}
use mathlib.Core.Path.{◌≡◌, refl, sym, ap, ap₂, ◌∙◌, subst, subst⁻¹}
use Prim.Native.Nat.{ℕ, zero, suc, ◌+◌, ◌-◌, ◌*◌, ◌/◌, ◌%◌, ◌^◌, ◌≤◌, ◌<◌}
use native.Mathlib.Nat.{le_refl, lt_of_lt_of_le, eq-or-lt_of_le, add-zero, mul-zero, mul-one, one-mul, mul_comm, mul_assoc, add-mul, pow-suc}
use native.Mathlib.Decide.{ℕ_discrete}
use native.Mathlib.Omega.{arith}
use lib.Bits.{bit_xor}
use lib.ListN.{length, length-set, get_or, set}
use lib.Pow.{pow_mono, pow-lt, shl_lt}
use lib.Seq.{get_or-set_same, get_or-set_other}
use borrow.Author.Tests.{eq-eqb, eqb-true}
use Rattle.poly.specs.Polynomial.{add, reduced, remainder}
use Rattle.poly.proofs.Sum.{add_zero_r, add_swap, add_lt, add_high, add_shl, scale_lt}
use Rattle.poly.proofs.Remainder.{remainder_zero, remainder_add, remainder_double, remainder_lt, remainder_small}
use Rattle.column.specs.Shape.{short, generator, degree}
use Rattle.column.specs.Level.{is_word}
use Rattle.column.proofs.Division.{digit_product}
use Rattle.column.proofs.Short.{sound, level_room}
use Rattle.trellis.specs.Order.{number}
use Rattle.trellis.specs.TwoWords.{hard_path}
use Rattle.trellis.proofs.HardPath.{hard_path_next, hard_path_below}
use Rattle.list_of_two.specs.Hard.{checked_word, ChecksFor}
use Rattle.list_of_two.proofs.Reading.{reading_is_quarter}

-- the remainder by the level's generator
abbrev rest : ℕ → ℕ → ℕ
rest i = remainder (degree short i) (generator short i)

-- the two parts do not overlap
as_sum : (i x : ℕ) → x < 2 ^ 30 → checked_word i x ≡ add (rest i x * 2 ^ 30) x
unfolding checked_word
as_sum i x h = let e : 2 ^ 30 * rest i x ≡ rest i x * 2 ^ 30 = mul_comm (2 ^ 30) (rest i x) in sym (add_high (rest i x) 30 x h ∙ omega (arith, e))

pub checked_add : (i a b : ℕ) → a < 2 ^ 30 → b < 2 ^ 30 → checked_word i (add a b) ≡ add (checked_word i a) (checked_word i b)
checked_add i a b ha hb =
    as_sum i (add a b) (add_lt 30 a b ha hb)
    ∙ ap (λ (t : ℕ). add t (add a b)) (ap (λ (t : ℕ). t * 2 ^ 30) (remainder_add (degree short i) (generator short i) a b) ∙ add_shl (rest i a) (rest i b) 30)
    ∙ add_swap (rest i a * 2 ^ 30) (rest i b * 2 ^ 30) a b
    ∙ sym (ap₂ add (as_sum i a ha) (as_sum i b hb))

-- ---- the test of a word

-- a checked word below 2^30 is a word of the level
pub below_is_word : (i x : ℕ) → x < 2 ^ 30 → (checked_word i x < 2 ^ 30) ↔ (is_word short i x ≡ true)
unfolding checked_word is_word
below_is_word i x h = (λ l. eq-eqb (rest i x) 0 (omega arith), λ e. let none : rest i x ≡ 0 = eqb-true _ _ e in omega arith)

-- and then that word
pub checked_is_word : (i x : ℕ) → is_word short i x ≡ true → checked_word i x ≡ x
unfolding checked_word is_word
checked_is_word i x e = let none : rest i x ≡ 0 = eqb-true _ _ e in omega arith

-- one that is not below is none
pub above_is_no_word : (i x : ℕ) → x < 2 ^ 30 → 2 ^ 30 ≤ checked_word i x → is_word short i x ≡ false
above_is_no_word i x h l = go (is_word short i x) refl
  where
    go : (b : Bool) → is_word short i x ≡ b → b ≡ false
    go false e = refl
    go true e = absurd (omega (arith, (below_is_word i x h).1 e))

-- as a reading shows it
pub read_below_is_word : (i x y : ℕ) → x < 2 ^ 30 → y ≡ checked_word i x → y < 2 ^ 30 → (y ≡ x) × (is_word short i y ≡ true)
read_below_is_word i x y h e l =
    let word : is_word short i x ≡ true = (below_is_word i x h).0 (subst (λ (t : ℕ). t < 2 ^ 30) e l) in
    let same : y ≡ x = e ∙ checked_is_word i x word in
    (same, ap (is_word short i) same ∙ word)

pub read_above_is_no_word : (i x y : ℕ) → x < 2 ^ 30 → y ≡ checked_word i x → 2 ^ 30 ≤ y → is_word short i x ≡ false
read_above_is_no_word i x y h e l = above_is_no_word i x h (subst (λ (t : ℕ). 2 ^ 30 ≤ t) e l)

module _ (i : ℕ) (level : i < 4) where
  abbrev d : ℕ
  d = degree short i

  abbrev g : ℕ
  g = generator short i

  rest_lt : (x : ℕ) → rest i x < 2 ^ d
  rest_lt x = remainder_lt d g (sound.degrees i level) x

  -- 24 bits at most
  pub rest_below : (x : ℕ) → rest i x < 16777216
  rest_below x = lt_of_lt_of_le (rest_lt x) (pow_mono {j = 24} (omega (arith, level_room i d level refl)))

  pub checked_below : (x : ℕ) → x < 2 ^ 30 → checked_word i x < 2 ^ 54
  unfolding checked_word
  checked_below x h = omega (arith, rest_below x)

  -- ---- the table

  -- the remainder of 1
  rest_of_one : rest i 1 ≡ 1
  unfolding degree
  rest_of_one = remainder_small d g 1 (pow-lt {i = 0} (omega arith))

  -- of twice a word: the remainder, doubled and reduced
  rest_of_double : (x : ℕ) → rest i (x * 2) ≡ rest i (rest i x * 2)
  rest_of_double x = remainder_double d g x ∙ sym (remainder_double d g (rest i x) ∙ ap (λ (t : ℕ). reduced d g (t * 2)) (remainder_small d g (rest i x) (rest_lt x)))

  -- the entries from k on are made, and x, with the remainder r, is the word of the entry before them
  pub record MadeFrom (k : ℕ) (checks : List ℕ) (x r : ℕ) : Type 0 where
    pub count : length checks ≡ 30
    pub word : x ≡ 2 ^ (30 - k)
    pub is_rest : r ≡ rest i x
    pub entry : (j : ℕ) → k ≤ j → j < 30 → get_or checks j 0 ≡ checked_word i (2 ^ (29 - j))

  pub none_made : (checks : List ℕ) → length checks ≡ 30 → MadeFrom 30 checks 1 1
  none_made checks e = record { count = e; word = refl; is_rest = sym rest_of_one; entry = λ j l m. absurd (omega arith) }

  pub one_more_made : (k : ℕ) (checks : List ℕ) (x r s : ℕ) → 0 < k → k ≤ 30 → MadeFrom k checks x r → s ≡ rest i (r * 2)
      → MadeFrom (k - 1) (set checks (k - 1) (x + 1073741824 * r)) (x * 2) s
  unfolding checked_word
  one_more_made k checks x r s some few made e = record { count = simp length-set made.count; word = word; is_rest = e ∙ ap (λ (t : ℕ). rest i (t * 2)) made.is_rest ∙ sym (rest_of_double x); entry = entry }
    where
      word : x * 2 ≡ 2 ^ (30 - (k - 1))
      word = let next : suc (30 - k) ≡ 30 - (k - 1) = omega arith in ap (λ (t : ℕ). t * 2) made.word ∙ sym (pow-suc 2 (30 - k)) ∙ ap (λ (t : ℕ). 2 ^ t) next

      new : x + 1073741824 * r ≡ checked_word i (2 ^ (29 - (k - 1)))
      new = let same : 30 - k ≡ 29 - (k - 1) = omega arith in
          ap (λ (t : ℕ). x + 1073741824 * t) made.is_rest ∙ ap (checked_word i) (made.word ∙ ap (λ (t : ℕ). 2 ^ t) same)

      entry : (j : ℕ) → k - 1 ≤ j → j < 30 → get_or (set checks (k - 1) (x + 1073741824 * r)) j 0 ≡ checked_word i (2 ^ (29 - j))
      entry j l m = elim (ℕ_discrete j (k - 1)) [
        | yes p ↦ ap (λ (t : ℕ). get_or (set checks (k - 1) (x + 1073741824 * r)) t 0) p ∙ get_or-set_same checks (k - 1) (x + 1073741824 * r) 0 (omega (arith, made.count)) ∙ new ∙ ap (λ (t : ℕ). checked_word i (2 ^ (29 - t))) (sym p)
        | no p ↦ get_or-set_other checks (k - 1) j (x + 1073741824 * r) 0 p ∙ made.entry j (after j l p) m
      ]
        where
          after : (j : ℕ) → k - 1 ≤ j → (j ≡ k - 1 → ⊥) → k ≤ j
          after j l p = ⊎_elim (λ q. absurd (p (sym q))) (λ q. omega arith) (eq-or-lt_of_le l)

  -- the next word is below 2^31, and twice its remainder has one bit more than a remainder
  pub made_below : (k : ℕ) (checks : List ℕ) (x r : ℕ) → MadeFrom k checks x r → (r < 16777216) × (x ≤ 2 ^ 30)
  made_below k checks x r made =
      let less : 30 - k ≤ 30 = omega arith in
      (subst⁻¹ (λ (t : ℕ). t < 16777216) made.is_rest (rest_below x), subst⁻¹ (λ (t : ℕ). t ≤ 2 ^ 30) made.word (pow_mono less))

  pub twice_below : (k : ℕ) (checks : List ℕ) (x r : ℕ) → MadeFrom k checks x r → r * 2 < 2 ^ (d + 1)
  twice_below k checks x r made = shl_lt d 1 (subst⁻¹ (λ (t : ℕ). t < 2 ^ d) made.is_rest (rest_lt x))

  pub all_made : (k : ℕ) (checks : List ℕ) (x r : ℕ) → k ≡ 0 → MadeFrom k checks x r → ChecksFor i checks
  all_made k checks x r e made = record { count = made.count; entry = λ j m. made.entry j (omega arith) m }

  -- ---- the reading

  -- no bits
  pub nothing_read : (soft : List ℕ) → 0 ≡ checked_word i (number (hard_path soft 0) * 2 ^ 30)
  unfolding number hard_path is_word
  nothing_read soft = sym (checked_is_word i 0 (eq-eqb (rest i 0) 0 (remainder_zero d g)))

  -- one bit more, at the place p
  one_bit : (n m p b : ℕ) → n < 2 ^ m → m + suc p ≡ 30 → b < 2 → bit_xor (checked_word i (n * 2 ^ suc p)) (checked_word i (2 ^ p) * b) ≡ checked_word i ((n * 2 + b) * 2 ^ p)
  unfolding add
  one_bit n m p b h e small = go b small
    where
      above : ℕ
      above = n * 2 ^ suc p

      twice : n * 2 ^ suc p ≡ n * 2 * 2 ^ p
      twice = ap (λ (t : ℕ). n * t) (pow-suc 2 p ∙ mul_comm (2 ^ p) 2) ∙ sym (mul_assoc n 2 (2 ^ p))

      go : (b : ℕ) → b < 2 → bit_xor (checked_word i above) (checked_word i (2 ^ p) * b) ≡ checked_word i ((n * 2 + b) * 2 ^ p)
      go zero l =
          ap (bit_xor (checked_word i above)) (mul-zero (checked_word i (2 ^ p))) ∙ add_zero_r (checked_word i above) ∙ ap (checked_word i) (twice ∙ ap (λ (t : ℕ). t * 2 ^ p) (sym (add-zero (n * 2))))
      go (suc zero) l =
          ap (bit_xor (checked_word i above)) (mul-one (checked_word i (2 ^ p)))
          ∙ sym (checked_add i above (2 ^ p) (subst (λ (t : ℕ). above < 2 ^ t) e (shl_lt m (suc p) h)) (pow-lt {j = 30} (omega arith)))
          ∙ ap (checked_word i) (add_high n (suc p) (2 ^ p) (pow-lt (le_refl (suc p))) ∙ ap₂ (λ (s t : ℕ). s + t) twice (sym (one-mul (2 ^ p))) ∙ sym (add-mul (n * 2) 1 (2 ^ p)))
      go (suc (suc b)) l = absurd (omega arith)

  pub one_more_read : (soft checks : List ℕ) → ChecksFor i checks → (k r : ℕ) → k < 30 → get_or soft k 0 < 8 → r ≡ checked_word i (number (hard_path soft k) * 2 ^ (30 - k))
      → bit_xor r (get_or checks k 0 * (get_or soft k 0 / 4)) ≡ checked_word i (number (hard_path soft (k + 1)) * 2 ^ (30 - (k + 1)))
  one_more_read soft checks made k r inside small e =
      let n : ℕ = number (hard_path soft k) in
      let q : ℕ = get_or soft k 0 in
      let here : 30 - k ≡ suc (29 - k) = omega arith in
      let next : 29 - k ≡ 30 - (k + 1) = omega arith in
      ap₂ (λ (s t : ℕ). bit_xor s (t * (q / 4))) (e ∙ ap (λ (t : ℕ). checked_word i (n * 2 ^ t)) here) (made.entry k inside)
      ∙ one_bit n k (29 - k) (q / 4) (hard_path_below soft k) (omega arith) (omega arith)
      ∙ ap₂ (λ (s t : ℕ). checked_word i (s * 2 ^ t)) (ap (λ (t : ℕ). n * 2 + t) (sym (reading_is_quarter q small)) ∙ hard_path_next soft k) next

  pub all_read : (soft : List ℕ) (k r : ℕ) → k ≡ 30 → r ≡ checked_word i (number (hard_path soft k) * 2 ^ (30 - k)) → r ≡ checked_word i (number (hard_path soft 30))
  all_read soft k r all e = e ∙ ap (λ (t : ℕ). checked_word i (number (hard_path soft t) * 2 ^ (30 - t))) all ∙ ap (checked_word i) (mul-one (number (hard_path soft 30)))

  -- an entry times a bit fits
  pub entry_times_bit_fits : (checks : List ℕ) → ChecksFor i checks → (k b : ℕ) → k < 30 → b < 2 → get_or checks k 0 * b < 2 ^ 64
  entry_times_bit_fits checks made k b inside small =
      let entry : get_or checks k 0 < 2 ^ 54 = subst⁻¹ (λ (t : ℕ). t < 2 ^ 54) (made.entry k inside) (checked_below (2 ^ (29 - k)) (pow-lt {j = 30} (omega arith))) in
      subst⁻¹ (λ (t : ℕ). t < 2 ^ 64) (digit_product (get_or checks k 0) b small) (scale_lt 64 (b % 2) (get_or checks k 0) (omega arith))
