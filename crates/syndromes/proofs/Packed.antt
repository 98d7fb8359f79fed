-- Symbols in one number and in three words: sums and shifts take them one by one. Assumes nothing.
use mathlib.Core.Path.{◌≡◌, sym, ap, ap₂, ◌∙◌}
use Prim.Native.Nat.{ℕ, suc, ◌+◌, ◌*◌, ◌/◌, ◌%◌, ◌^◌, ◌≤◌, ◌<◌}
use native.Mathlib.Nat.{div-one, div-eq_of_lt, lt_of_lt_of_le}
use native.Mathlib.Omega.{arith}
use lib.Arith.{digits_lt}
use lib.Bits.{bit_xor, xor_block}
use lib.Pow.{pow_mono, shr-shr}
use Rattle.poly.specs.Polynomial.{add}
use Rattle.poly.proofs.Sum.{Linear, add_shr, add_mod}
use Rattle.syndromes.specs.Packed.{symbol_in, joined}

pub symbol_of_sum : (i : ℕ) → Linear (λ n. symbol_in n i)
unfolding symbol_in
symbol_of_sum i a b = ap (λ (t : ℕ). t % 2 ^ 6) (add_shr a b (6 * i)) ∙ add_mod (a / 2 ^ (6 * i)) (b / 2 ^ (6 * i)) 6

pub first_symbol : (n : ℕ) → symbol_in n 0 ≡ n % 2 ^ 6
unfolding symbol_in
first_symbol n = ap (λ (t : ℕ). t % 2 ^ 6) (div-one n)

pub symbol_behind : (n i : ℕ) → symbol_in (n / 2 ^ 6) i ≡ symbol_in n (suc i)
unfolding symbol_in
symbol_behind n i = let e : 6 + 6 * i ≡ 6 * suc i = omega arith in ap (λ (t : ℕ). t % 2 ^ 6) (shr-shr n 6 (6 * i) ∙ ap (λ (t : ℕ). n / 2 ^ t) e)

-- the number of three words has thirty symbols
pub no_symbol_more : (a b c i : ℕ) → a < 2 ^ 60 → b < 2 ^ 60 → c < 2 ^ 60 → 30 ≤ i → symbol_in (joined a b c) i ≡ 0
unfolding symbol_in joined
no_symbol_more a b c i ha hb hc l =
    let high : c * 2 ^ 60 + b < 2 ^ 120 = digits_lt hc hb in
    let small : (c * 2 ^ 60 + b) * 2 ^ 60 + a < 2 ^ 180 = digits_lt high ha in
    let wide : 180 ≤ 6 * i = omega arith in
    ap (λ (t : ℕ). t % 2 ^ 6) (div-eq_of_lt (lt_of_lt_of_le small (pow_mono wide)))

pub joined_sum : (a b c a' b' c' : ℕ) → a < 2 ^ 60 → a' < 2 ^ 60 → b < 2 ^ 60 → b' < 2 ^ 60
    → joined (add a a') (add b b') (add c c') ≡ add (joined a b c) (joined a' b' c')
unfolding joined add
joined_sum a b c a' b' c' ha ha' hb hb' =
    sym (xor_block 60 (c * 2 ^ 60 + b) (c' * 2 ^ 60 + b') a a' ha ha' ∙ ap (λ (t : ℕ). t * 2 ^ 60 + bit_xor a a') (xor_block 60 c c' b b' hb hb'))

-- a word shifted by a symbol, with the next word's first symbol on top
abbrev pub carried : ℕ → ℕ → ℕ
carried a b = a / 2 ^ 6 + b % 2 ^ 6 * 2 ^ 54 % 2 ^ 64

pub carried_lt : (a b : ℕ) → a < 2 ^ 60 → carried a b < 2 ^ 60
carried_lt a b h = omega arith

pub joined_shift : (a b c : ℕ) → joined (carried a b) (carried b c) (c / 2 ^ 6) ≡ joined a b c / 2 ^ 6
unfolding joined
joined_shift a b c = ap₂ (λ (x y : ℕ). joined x y (c / 2 ^ 6)) (exact a b) (exact b c) ∙ omega arith
  where
    exact : (a b : ℕ) → carried a b ≡ a / 2 ^ 6 + b % 2 ^ 6 * 2 ^ 54
    exact a b = omega arith

pub joined_first : (a b c : ℕ) → joined a b c % 2 ^ 6 ≡ a % 2 ^ 6
unfolding joined
joined_first a b c = omega arith

-- the first symbol of what is left behind i symbols
pub symbol_at : (n i a b c : ℕ) → joined a b c ≡ n / 2 ^ (6 * i) → a % 2 ^ 6 ≡ symbol_in n i
unfolding symbol_in
symbol_at n i a b c e = sym (joined_first a b c) ∙ ap (λ (t : ℕ). t % 2 ^ 6) e

-- one symbol less is left
pub one_symbol_less : (n i x y : ℕ) → x ≡ n / 2 ^ (6 * i) → y ≡ x / 2 ^ 6 → y ≡ n / 2 ^ (6 * (i + 1))
one_symbol_less n i x y ex ey =
    let e : 6 * i + 6 ≡ 6 * (i + 1) = omega arith in
    ey ∙ ap (λ (t : ℕ). t / 2 ^ 6) ex ∙ shr-shr n (6 * i) 6 ∙ ap (λ (t : ℕ). n / 2 ^ t) e
