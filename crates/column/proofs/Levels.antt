-- Level words and re-imaging, for every level of every sound family together. Assumes nothing.
use mathlib.Core.Path.{◌≡◌, refl, sym, ap, ap₂, ◌∙◌, subst}
use mathlib.Core.Logic.{◌↔◌}
use mathlib.Core.Bool.{Bool, true, false}
use Prim.Native.Nat.{ℕ, zero, suc, ◌+◌, ◌-◌, ◌*◌, ◌/◌, ◌%◌, ◌^◌, ◌≤◌, ◌<◌}
use native.Mathlib.Nat
use native.Mathlib.Nat.{mod-lt, div-eq_of_lt, mul-suc, mul-le-mul_left}
use native.Mathlib.Decide.{ℕ_discrete}
use native.Mathlib.Omega.{arith}
use lib.Dec.{T, eqb, eqb→eq}
use lib.Pow.{pow_pos, pow_mono, pow-add, split}
use Rattle.poly.specs.Polynomial.{add, remainder, Multiple}
use Rattle.poly.proofs.Sum.{add_assoc, add_comm, add_self, add_again, add_zero_l, add_zero_r, add_swap, add_shr, add_lt, add_high}
use Rattle.poly.proofs.Remainder.{remainder_add, remainder_lt, remainder_small, multiple_has_no_remainder, no_remainder_is_multiple}
use Rattle.poly.proofs.Coprime.{multiple_of_left, multiple_sum}
use Rattle.column.specs.Shape.{Word, Shape, levels, generator, degree, level_code, Sound}
use Rattle.column.specs.Level.{level_word, highest, taken_off, reimaged, is_word}

pub T→true : (b : Bool) → T b → b ≡ true
T→true true t = refl
T→true false t = absurd t

-- a word of a level is a word of each lower one
pub generator_divides : (S : Shape) (i k w : ℕ) → Multiple (generator S (k + i)) w → Multiple (generator S i) w
unfolding generator
generator_divides S i zero w h = subst (λ (t : ℕ). Multiple (generator S t) w) (Nat.zero-add i) h
generator_divides S i (suc k) w h =
    generator_divides S i k w (multiple_of_left (generator S (k + i)) _ w (subst (λ (t : ℕ). Multiple (generator S t) w) (Nat.suc-add k i) h))

module _ (S : Shape) (ok : Sound S) where
  abbrev n : ℕ
  n = S.bits

  abbrev m : ℕ
  m = S.symbol

  abbrev top : ℕ → ℕ
  top k = levels S - suc k

  -- ---- the degrees, counted from the highest level

  room_for : (k : ℕ) → k ≤ levels S → m * k ≤ n
  room_for k h = Nat.le_trans (mul-le-mul_left m h) ok.room

  top_degree : (k : ℕ) → k < levels S → degree S (top k) ≡ n - m * suc k
  unfolding degree
  top_degree k h = ap (λ (t : ℕ). n - m * t) back
    where
      back : levels S - (levels S - suc k) ≡ suc k
      back = omega arith

  degree_above : (k : ℕ) → k < levels S → degree S (top k) + m ≡ n - m * k
  degree_above k h =
      let e : degree S (top k) ≡ n - m * suc k = top_degree k h in
      let r : m * suc k ≤ n = room_for (suc k) h in
      omega (arith, mul-suc m k)

  top_lt : (k : ℕ) → k < levels S → top k < levels S
  top_lt k h = omega arith

  -- ---- one level word

  module _ (i s : ℕ) (hi : i < levels S) where
    abbrev d : ℕ
    d = degree S i

    abbrev rest : ℕ
    rest = remainder d (generator S i) (s * 2 ^ d)

    rest_lt : rest < 2 ^ d
    rest_lt = remainder_lt d (generator S i) (ok.degrees i hi) (s * 2 ^ d)

    word_sum : level_word S i s ≡ add (s * 2 ^ d) rest
    unfolding level_word
    word_sum = sym (add_high s d rest rest_lt)

    -- 01: the symbol stands before the remainder bits
    pub level_word_symbol : level_word S i s / 2 ^ d ≡ s
    unfolding level_word
    level_word_symbol = lib.Pow.high s d rest_lt

    pub level_word_remainder : level_word S i s % 2 ^ d ≡ rest
    unfolding level_word
    level_word_remainder = lib.Pow.low s d rest_lt

    -- 01: above the symbol are zeros
    pub level_word_zeros : s < 2 ^ m → level_word S i s < 2 ^ (d + m)
    unfolding level_word
    level_word_zeros h =
        subst (λ (t : ℕ). s * 2 ^ d + rest < t) (Nat.mul_comm (2 ^ m) (2 ^ d) ∙ sym (pow-add 2 d m)) (lib.Arith.digits_lt h rest_lt)

    -- the level word is a word of its level
    pub level_word_multiple : Multiple (generator S i) (level_word S i s)
    level_word_multiple =
        no_remainder_is_multiple d (generator S i) (ok.degrees i hi) (level_word S i s)
        (ap (remainder d (generator S i)) word_sum ∙ remainder_add d (generator S i) (s * 2 ^ d) rest
        ∙ ap (add rest) (remainder_small d (generator S i) rest rest_lt) ∙ add_self rest)

  -- a number below 2 ^ (d + m), and the level word of its m highest bits, agree in these
  shorter : (i v : ℕ) → i < levels S → v < 2 ^ (degree S i + m) → add v (level_word S i (v / 2 ^ degree S i)) < 2 ^ degree S i
  shorter i v hi hv =
      let e : ℕ = degree S i in
      let x : ℕ = v / 2 ^ e in
      let r : ℕ = remainder e (generator S i) (x * 2 ^ e) in
      let whole : v ≡ add (x * 2 ^ e) (v % 2 ^ e) = sym (add_high x e (v % 2 ^ e) (mod-lt v (pow_pos e)) ∙ split v e) in
      subst (λ (t : ℕ). t < 2 ^ e)
      (sym (ap₂ add whole (word_sum i x hi) ∙ add_swap (x * 2 ^ e) (v % 2 ^ e) (x * 2 ^ e) r ∙ ap (λ (t : ℕ). add t (add (v % 2 ^ e) r)) (add_self (x * 2 ^ e)) ∙ add_zero_l (add (v % 2 ^ e) r)))
      (add_lt e (v % 2 ^ e) r (mod-lt v (pow_pos e)) (rest_lt i x hi))

  -- ---- taking off the highest levels

  pub taken_off_lt : (k w : ℕ) → k ≤ levels S → w < 2 ^ n → taken_off S k w < 2 ^ (n - m * k)
  unfolding taken_off
  taken_off_lt zero w h hw = let e : n ≡ n - m * 0 = omega (arith, Nat.mul-zero m) in subst (λ (t : ℕ). w < 2 ^ t) e hw
  taken_off_lt (suc k) w h hw =
      subst (λ (t : ℕ). taken_off S (suc k) w < 2 ^ t) (top_degree k h)
      (shorter (top k) (taken_off S k w) (top_lt k h) (subst (λ (t : ℕ). taken_off S k w < 2 ^ t) (sym (degree_above k h)) (taken_off_lt k w (Nat.le_of_lt h) hw)))

  -- re-imaging at the level with k levels above it
  at_top : (k w : ℕ) → k < levels S → reimaged S (top k) w ≡ taken_off S k w / 2 ^ degree S (top k)
  unfolding reimaged
  at_top k w h = ap (λ (t : ℕ). taken_off S t w / 2 ^ degree S (top k)) back
    where
      back : levels S - suc (levels S - suc k) ≡ k
      back = omega arith

  -- what was taken off and what is left make the word
  pub taken_off_sum : (k w : ℕ) → k ≤ levels S → add (highest S (λ i. reimaged S i w) k) (taken_off S k w) ≡ w
  unfolding taken_off highest
  taken_off_sum zero w h = add_zero_l w
  taken_off_sum (suc k) w h =
      let a : ℕ = highest S (λ i. reimaged S i w) k in
      let v : ℕ = taken_off S k w in
      let l : ℕ = level_word S (top k) (v / 2 ^ degree S (top k)) in
      ap (λ (t : ℕ). add (add a (level_word S (top k) t)) (add v l)) (at_top k w h)
      ∙ add_swap a l v l ∙ ap (add (add a v)) (add_self l) ∙ add_zero_r (add a v) ∙ taken_off_sum k w (Nat.le_of_lt h)

  -- ---- sums of level words

  abbrev Symbols : (ℕ → ℕ) → Type 0
  Symbols s = (i : ℕ) → i < levels S → s i < 2 ^ m

  word_below : (s : ℕ → ℕ) (k : ℕ) → Symbols s → k < levels S → level_word S (top k) (s (top k)) < 2 ^ (n - m * k)
  word_below s k hs h =
      subst (λ (t : ℕ). level_word S (top k) (s (top k)) < 2 ^ t) (degree_above k h) (level_word_zeros (top k) (s (top k)) (top_lt k h) (hs (top k) (top_lt k h)))

  pub highest_lt : (s : ℕ → ℕ) (k : ℕ) → Symbols s → k ≤ levels S → highest S s k < 2 ^ n
  unfolding highest
  highest_lt s zero hs h = pow_pos n
  highest_lt s (suc k) hs h =
      add_lt n (highest S s k) (level_word S (top k) (s (top k))) (highest_lt s k hs (Nat.le_of_lt h))
      (Nat.lt_of_lt_of_le (word_below s k hs h) (pow_mono (Nat.sub-le n (m * k))))

  highest_multiple : (s : ℕ → ℕ) (i k : ℕ) → k + i ≤ levels S → Multiple (generator S i) (highest S s k)
  unfolding highest
  highest_multiple s i zero h = (0, Rattle.poly.proofs.Product.product_zero_l (generator S i))
  highest_multiple s i (suc k) h =
      multiple_sum (generator S i) (highest S s k) (level_word S (top k) (s (top k))) (highest_multiple s i k (omega arith))
      (generator_divides S i (top k - i) (level_word S (top k) (s (top k)))
      (subst (λ (t : ℕ). Multiple (generator S t) (level_word S (top k) (s (top k)))) above (level_word_multiple (top k) (s (top k)) (omega arith))))
    where
      above : levels S - suc k ≡ levels S - suc k - i + i
      above = omega arith

  -- the sum of the words of level i and all above is a word of level i
  pub sum_is_word : (s : ℕ → ℕ) (i : ℕ) → Symbols s → i < levels S → Word n (level_code S i) (highest S s (levels S - i))
  sum_is_word s i hs h = (highest_lt s (levels S - i) hs (Nat.sub-le (levels S) i), highest_multiple s i (levels S - i) (omega arith))

  -- every word of level i is the sum of the level words of the symbols that re-imaging gives
  pub word_is_sum : (i w : ℕ) → i < levels S → Word n (level_code S i) w → highest S (λ j. reimaged S j w) (levels S - i) ≡ w
  unfolding degree
  word_is_sum i w h hw =
      let k : ℕ = levels S - i in
      let a : ℕ = highest S (λ j. reimaged S j w) k in
      let v : ℕ = taken_off S k w in
      let fits : k ≤ levels S = Nat.sub-le (levels S) i in
      let sum : add a v ≡ w = taken_off_sum k w fits in
      let rest : v ≡ add a w = sym (ap (add a) (sym sum) ∙ add_again a v) in
      let multiple : Multiple (generator S i) v =
      subst (λ (t : ℕ). Multiple (generator S i) t) (sym rest) (multiple_sum (generator S i) a w (highest_multiple (λ j. reimaged S j w) i k (omega arith)) hw.1) in
      let none : v ≡ 0 =
      sym (remainder_small (degree S i) (generator S i) v (small v (taken_off_lt k w fits hw.0))) ∙ multiple_has_no_remainder (degree S i) (generator S i) (ok.degrees i h) v multiple in
      sym (add_zero_r a) ∙ ap (add a) (sym none) ∙ sum
    where
      small : (v : ℕ) → v < 2 ^ (n - m * (levels S - i)) → v < 2 ^ degree S i
      small v l = l

  -- ---- re-imaging a sum gives its symbols

  -- the words of the levels below the k highest, of those that the sum has
  lower_lt : (s : ℕ → ℕ) (k e : ℕ) → Symbols s → e + k ≤ levels S → add (highest S s k) (highest S s (e + k)) < 2 ^ (n - m * k)
  unfolding highest
  lower_lt s k zero hs h = subst (λ (t : ℕ). t < 2 ^ (n - m * k)) (sym (ap (λ (t : ℕ). add (highest S s k) (highest S s t)) (Nat.zero-add k) ∙ add_self (highest S s k))) (pow_pos (n - m * k))
  lower_lt s k (suc e) hs h =
      let j : ℕ = e + k in
      let l : ℕ = level_word S (top j) (s (top j)) in
      let more : suc e + k ≡ suc (e + k) = Nat.suc-add e k in
      let less : m * k ≤ m * (e + k) = mul-le-mul_left m (Nat.le-add_left k e) in
      let narrow : n - m * (e + k) ≤ n - m * k = omega arith in
      subst (λ (t : ℕ). t < 2 ^ (n - m * k))
      (sym (ap (λ (t : ℕ). add (highest S s k) (highest S s t)) more ∙ sym (add_assoc (highest S s k) (highest S s j) l)))
      (add_lt (n - m * k) (add (highest S s k) (highest S s j)) l (lower_lt s k e hs (omega arith))
      (Nat.lt_of_lt_of_le (word_below s j hs (omega arith)) (pow_mono narrow)))

  -- the highest level that is left shows its symbol
  next_symbol : (s : ℕ → ℕ) (k e v : ℕ) → Symbols s → suc e + k ≤ levels S → v ≡ add (highest S s k) (highest S s (suc e + k))
      → v / 2 ^ degree S (top k) ≡ s (top k)
  unfolding highest
  next_symbol s k e v hs h hv =
      let x : ℕ = s (top k) in
      let l : ℕ = level_word S (top k) x in
      let d : ℕ = degree S (top k) in
      let lower : ℕ = add (highest S s (suc k)) (highest S s (e + suc k)) in
      let all : suc e + k ≡ e + suc k = omega arith in
      let apart : v ≡ add l lower =
      hv ∙ ap (λ (t : ℕ). add (highest S s k) (highest S s t)) all ∙ sym (add_again l (add (highest S s k) (highest S s (e + suc k))))
      ∙ ap (add l) (sym (add_assoc l (highest S s k) (highest S s (e + suc k))) ∙ ap (λ (t : ℕ). add t (highest S s (e + suc k))) (add_comm l (highest S s k))) in
      let fits : lower < 2 ^ d =
      subst (λ (t : ℕ). lower < 2 ^ t) (sym (top_degree k (omega arith))) (lower_lt s (suc k) e hs (omega arith)) in
      ap (λ (t : ℕ). t / 2 ^ d) apart ∙ add_shr l lower d ∙ ap₂ add (level_word_symbol (top k) x (top_lt k (omega arith))) (div-eq_of_lt fits) ∙ add_zero_r x

  taken_off_is : (s : ℕ → ℕ) (k e : ℕ) → Symbols s → e + k ≤ levels S → taken_off S k (highest S s (e + k)) ≡ add (highest S s k) (highest S s (e + k))
  unfolding taken_off highest
  taken_off_is s zero e hs h = sym (add_zero_l (highest S s (e + 0)))
  taken_off_is s (suc k) e hs h =
      let w : ℕ = highest S s (e + suc k) in
      let v : ℕ = taken_off S k w in
      let l : ℕ = level_word S (top k) (s (top k)) in
      let all : e + suc k ≡ suc e + k = omega arith in
      let before : v ≡ add (highest S s k) w =
      ap (λ (t : ℕ). taken_off S k (highest S s t)) all ∙ taken_off_is s k (suc e) hs (omega arith) ∙ ap (λ (t : ℕ). add (highest S s k) (highest S s t)) (sym all) in
      let symbol : v / 2 ^ degree S (top k) ≡ s (top k) = next_symbol s k e v hs (omega arith) (before ∙ ap (λ (t : ℕ). add (highest S s k) (highest S s t)) all) in
      ap (λ (t : ℕ). add v (level_word S (top k) t)) symbol ∙ ap (λ (t : ℕ). add t l) before ∙ add_assoc (highest S s k) w l
      ∙ ap (add (highest S s k)) (add_comm w l) ∙ sym (add_assoc (highest S s k) l w)

  -- re-imaging undoes coding: of the sum of the words of level i and all above it gives each symbol
  pub reimage_of_sum : (s : ℕ → ℕ) (i j : ℕ) → Symbols s → i ≤ j → j < levels S → reimaged S j (highest S s (levels S - i)) ≡ s j
  reimage_of_sum s i j hs hi hj =
      let k : ℕ = levels S - suc j in
      let e : ℕ = j - i in
      let all : levels S - i ≡ suc e + k = omega arith in
      let here : levels S - suc (levels S - suc j) ≡ j = omega arith in
      let w : ℕ = highest S s (levels S - i) in
      let v : taken_off S k w ≡ add (highest S s k) (highest S s (suc e + k)) =
      ap (λ (t : ℕ). taken_off S k (highest S s t)) all ∙ taken_off_is s k (suc e) hs (omega arith) in
      ap (λ (t : ℕ). reimaged S t w) (sym here) ∙ at_top k w (omega arith) ∙ next_symbol s k e (taken_off S k w) hs (omega arith) v ∙ ap s here

  -- a word of level i is a sum in one way
  pub sum_one_way : (s t : ℕ → ℕ) (i : ℕ) → Symbols s → Symbols t → highest S s (levels S - i) ≡ highest S t (levels S - i) → (j : ℕ) → i ≤ j → j < levels S → s j ≡ t j
  sum_one_way s t i hs ht e j hi hj = sym (reimage_of_sum s i j hs hi hj) ∙ ap (reimaged S j) e ∙ reimage_of_sum t i j ht hi hj

  -- a re-imaged symbol is in range
  pub reimaged_lt : (j w : ℕ) → j < levels S → w < 2 ^ n → reimaged S j w < 2 ^ m
  unfolding reimaged
  reimaged_lt j w h hw =
      let k : ℕ = levels S - suc j in
      let here : levels S - suc (levels S - suc j) ≡ j = omega arith in
      lib.Pow.shr_lt m (degree S j)
      (subst (λ (t : ℕ). taken_off S k w < 2 ^ t) (sym (degree_above k (omega arith)) ∙ ap (λ (t : ℕ). degree S t + m) here ∙ Nat.add_comm (degree S j) m)
      (taken_off_lt k w (omega arith) hw))

  -- the test of a word is 01's "multiples of g"
  pub word_exactly : (i w : ℕ) → i < levels S → w < 2 ^ n → (is_word S i w ≡ true) ↔ Word n (level_code S i) w
  unfolding is_word
  word_exactly i w h hw = (
    λ e. (hw, no_remainder_is_multiple (degree S i) (generator S i) (ok.degrees i h) w (eqb→eq _ 0 (subst T (sym e) tt))),
    λ x. T→true _ (subst (λ (t : ℕ). T (eqb t 0)) (sym (multiple_has_no_remainder (degree S i) (generator S i) (ok.degrees i h) w x.1)) tt),
  )

  pub level_word_is_word : (i s : ℕ) → i < levels S → s < 2 ^ m → Word n (level_code S i) (level_word S i s)
  unfolding degree
  level_word_is_word i s h hs =
      let one : 1 ≤ levels S - i = omega arith in
      let wide : m ≤ m * (levels S - i) = subst (λ (t : ℕ). t ≤ m * (levels S - i)) (Nat.mul-one m) (mul-le-mul_left m one) in
      let room : m * (levels S - i) ≤ n = room_for (levels S - i) (Nat.sub-le (levels S) i) in
      let fits : degree S i + m ≤ n = omega arith in
      (Nat.lt_of_lt_of_le (level_word_zeros i s h hs) (pow_mono fits), level_word_multiple i s h)

  -- no word is the only one of its level: the level words of 0 and 1 are two
  pub another_word : (i w : ℕ) → i < levels S → 0 < m → (x : ℕ) × Word n (level_code S i) x × (x ≡ w → ⊥)
  another_word i w h some = go (ℕ_discrete w (level_word S i 0))
    where
      two : 2 ≤ 2 ^ m
      two = pow_mono {i = 1} {j = m} some

      go : Dec (w ≡ level_word S i 0) → (x : ℕ) × Word n (level_code S i) x × (x ≡ w → ⊥)
      go (yes e) = (
        level_word S i 1,
        level_word_is_word i 1 h (omega (arith, two)),
        λ k.
            let same : ◌≡◌ {A = ℕ} 1 0 = sym (level_word_symbol i 1 h) ∙ ap (λ (t : ℕ). t / 2 ^ degree S i) (k ∙ e) ∙ level_word_symbol i 0 h in
            absurd (omega arith),
      )
      go (no ne) = (level_word S i 0, level_word_is_word i 0 h (omega (arith, two)), λ k. ne (sym k))
