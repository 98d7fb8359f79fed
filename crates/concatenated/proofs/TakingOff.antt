-- A word taken off a soft column: the values stay soft, taking off twice undoes it, and the hard reading has the word added. Assumes nothing.
use mathlib.Core.Path.{◌≡◌, refl, sym, ap, ap₂, ◌∙◌, subst, subst⁻¹}
use mathlib.Core.Bool.{Bool, cond}
use mathlib.Core.List.{List, [], ◌∷◌, map}
use Prim.Native.Nat.{ℕ, zero, suc, ◌+◌, ◌-◌, ◌*◌, ◌/◌, ◌%◌, ◌^◌, ◌≤◌, ◌<◌}
use native.Mathlib.Nat
use native.Mathlib.Nat.{mod-lt, mod-eq_of_lt, pow-succ'}
use native.Mathlib.Decide.{dec_le}
use native.Mathlib.Omega.{arith}
use lib.Arith.{mod-mul}
use lib.Pow.{pow_pos}
use lib.Dec.{lit<}
use lib.ListN.{length, length-map}
use borrow.Author.Tests.{lt-ltb, le-ltb}
use Rattle.poly.specs.Polynomial.{add}
use Rattle.poly.proofs.Sum.{add_self, add_zero_l, add_zero_r, add_swap, add_lt, add_high, add_shl, add_shr, add_odd}
use Rattle.trellis.specs.Values.{reading}
use Rattle.packing.specs.Packing.{joined, digit}
use Rattle.concatenated.specs.Soft.{taken_off_by}
use Rattle.concatenated.specs.SoftPage.{Soft, hard_reading, column_off}
use Rattle.concatenated.proofs.Digits.{Below, joined_cons, joined_lt}

-- ---- one value

pub value_stays_soft : (b q : ℕ) → q ≤ 7 → taken_off_by b q ≤ 7
unfolding taken_off_by
value_stays_soft zero q h = h
value_stays_soft (suc b) q h = omega arith

pub value_comes_back : (b q : ℕ) → q ≤ 7 → taken_off_by b (taken_off_by b q) ≡ q
unfolding taken_off_by
value_comes_back zero q h = refl
value_comes_back (suc b) q h = omega arith

reads_zero : (q : ℕ) → q < 4 → reading q ≡ 0
unfolding reading
reads_zero q h = ap (λ (t : Bool). cond t 0 1) (lt-ltb q 4 h)

reads_one : (q : ℕ) → 4 ≤ q → reading q ≡ 1
unfolding reading
reads_one q h = ap (λ (t : Bool). cond t 0 1) (le-ltb q 4 h)

pub reading_lt : (q : ℕ) → reading q < 2
reading_lt q = go (dec_le (suc q) 4)
  where
    go : Dec (suc q ≤ 4) → reading q < 2
    go (yes l) = subst⁻¹ (λ (t : ℕ). t < 2) (reads_zero q l) (omega arith)
    go (no l) = subst⁻¹ (λ (t : ℕ). t < 2) (reads_one q (omega arith)) (omega arith)

-- the value's reading has the bit added
pub value_reading : (b q : ℕ) → b < 2 → q ≤ 7 → reading (taken_off_by b q) ≡ add b (reading q)
unfolding taken_off_by
value_reading zero q hb hq = sym (add_zero_l (reading q))
value_reading (suc (suc b)) q hb hq = absurd (omega arith)
value_reading (suc zero) q hb hq = go (dec_le (suc q) 4)
  where
    go : Dec (suc q ≤ 4) → reading (7 - q) ≡ add 1 (reading q)
    go (yes l) = reads_one (7 - q) (omega arith) ∙ sym (ap (add 1) (reads_zero q l) ∙ add_zero_r 1)
    go (no l) = reads_zero (7 - q) (omega arith) ∙ sym (ap (add 1) (reads_one q (omega arith)) ∙ add_self 1)

-- ---- a column

pub off_length : (w : ℕ) (c : List ℕ) → length (column_off w c) ≡ length c
unfolding column_off
off_length w [] = refl
off_length w (q ∷ c) = ap suc (off_length w c)

pub column_stays_soft : (w : ℕ) (c : List ℕ) → Soft c → Soft (column_off w c)
unfolding column_off
column_stays_soft w [] h = tt
column_stays_soft w (q ∷ c) h = (value_stays_soft (digit 2 (length c) w) q h.0, column_stays_soft w c h.1)

pub taking_off_twice_gives_the_column_back : (w : ℕ) (c : List ℕ) → Soft c → column_off w (column_off w c) ≡ c
unfolding column_off
taking_off_twice_gives_the_column_back w [] h = refl
taking_off_twice_gives_the_column_back w (q ∷ c) h =
    ap₂ (λ (x : ℕ) (xs : List ℕ). x ∷ xs)
    (ap (λ (k : ℕ). taken_off_by (digit 2 k w) (taken_off_by (digit 2 (length c) w) q)) (off_length w c) ∙ value_comes_back (digit 2 (length c) w) q h.0)
    (taking_off_twice_gives_the_column_back w c h.1)

readings_below : (c : List ℕ) → Below 2 (map reading c)
readings_below [] = tt
readings_below (q ∷ c) = (reading_lt q, readings_below c)

pub hard_reading_lt : (c : List ℕ) → hard_reading c < 2 ^ length c
unfolding hard_reading
hard_reading_lt c = subst (λ (k : ℕ). joined 2 0 (map reading c) < 2 ^ k) (length-map c reading) (joined_lt 2 (map reading c) (readings_below c))

-- the first value reads as the top bit
pub hard_reading_cons : (q : ℕ) (c : List ℕ) → hard_reading (q ∷ c) ≡ reading q * 2 ^ length c + hard_reading c
unfolding hard_reading
hard_reading_cons q c = joined_cons 2 (reading q) (map reading c) ∙ ap (λ (k : ℕ). reading q * 2 ^ k + joined 2 0 (map reading c)) (length-map c reading)

-- of a word of any length the lowest bits count
off_adds_low_bits : (w : ℕ) (c : List ℕ) → Soft c → hard_reading (column_off w c) ≡ add (w % 2 ^ length c) (hard_reading c)
unfolding column_off
off_adds_low_bits w [] h = sym (ap (λ (t : ℕ). add t (hard_reading [])) (Nat.mod-one w) ∙ add_zero_l (hard_reading []))
off_adds_low_bits w (q ∷ c) h =
    let k : ℕ = length c in
    let b : ℕ = digit 2 k w in
    let r : ℕ = reading q in
    let low : ℕ = w % 2 ^ k in
    let rest : ℕ = hard_reading c in
    let low_lt : low < 2 ^ k = mod-lt w (pow_pos k) in
    let rest_lt : rest < 2 ^ k = hard_reading_lt c in
    let whole : w % 2 ^ suc k ≡ add (b * 2 ^ k) low =
    ap (λ (t : ℕ). w % t) (pow-succ' 2 k) ∙ mod-mul w (lit< tt) (pow_pos k) ∙ sym (add_high b k low low_lt) in
    hard_reading_cons (taken_off_by b q) (column_off w c)
    ∙ ap (λ (t : ℕ). reading (taken_off_by b q) * 2 ^ t + hard_reading (column_off w c)) (off_length w c)
    ∙ ap₂ (λ (x y : ℕ). x * 2 ^ k + y) (value_reading b q (mod-lt (w / 2 ^ k) (lit< tt)) h.0) (off_adds_low_bits w c h.1)
    ∙ sym (add_high (add b r) k (add low rest) (add_lt k low rest low_lt rest_lt))
    ∙ ap (λ (t : ℕ). add t (add low rest)) (add_shl b r k) ∙ add_swap (b * 2 ^ k) (r * 2 ^ k) low rest
    ∙ ap₂ add (sym whole) (add_high r k rest rest_lt ∙ sym (hard_reading_cons q c))

-- the reading of a column with a word taken off is the sum of the word and the reading
pub taking_off_adds_to_the_reading : (w : ℕ) (c : List ℕ) → Soft c → w < 2 ^ length c → hard_reading (column_off w c) ≡ add w (hard_reading c)
taking_off_adds_to_the_reading w c h l = off_adds_low_bits w c h ∙ ap (λ (t : ℕ). add t (hard_reading c)) (mod-eq_of_lt l)

-- ---- several words

sum_of_digits : (u v k : ℕ) → digit 2 k (add u v) ≡ add (digit 2 k u) (digit 2 k v)
sum_of_digits u v k = ap (λ (t : ℕ). t % 2) (add_shr u v k) ∙ add_odd (u / 2 ^ k) (v / 2 ^ k)

value_twice : (a b q : ℕ) → a < 2 → b < 2 → q ≤ 7 → taken_off_by a (taken_off_by b q) ≡ taken_off_by (add a b) q
unfolding taken_off_by
value_twice zero b q ha hb hq = ap (λ (t : ℕ). taken_off_by t q) (sym (add_zero_l b))
value_twice (suc zero) zero q ha hb hq = ap (λ (t : ℕ). taken_off_by t q) (sym (add_zero_r 1))
value_twice (suc zero) (suc zero) q ha hb hq = value_comes_back 1 q hq ∙ ap (λ (t : ℕ). taken_off_by t q) (sym (add_self 1))
value_twice (suc zero) (suc (suc b)) q ha hb hq = absurd (omega arith)
value_twice (suc (suc a)) b q ha hb hq = absurd (omega arith)

-- one word after another is their sum
pub taking_off_both_is_taking_off_the_sum : (u v : ℕ) (c : List ℕ) → Soft c → column_off u (column_off v c) ≡ column_off (add u v) c
unfolding column_off
taking_off_both_is_taking_off_the_sum u v [] h = refl
taking_off_both_is_taking_off_the_sum u v (q ∷ c) h =
    let k : ℕ = length c in
    ap₂ (λ (x : ℕ) (xs : List ℕ). x ∷ xs)
    (ap (λ (t : ℕ). taken_off_by (digit 2 t u) (taken_off_by (digit 2 k v) q)) (off_length v c)
    ∙ value_twice (digit 2 k u) (digit 2 k v) q (mod-lt (u / 2 ^ k) (lit< tt)) (mod-lt (v / 2 ^ k) (lit< tt)) h.0
    ∙ ap (λ (t : ℕ). taken_off_by t q) (sym (sum_of_digits u v k)))
    (taking_off_both_is_taking_off_the_sum u v c h.1)
