-- The thirty symbols of three words are those of each word. Assumes nothing.
use mathlib.Core.Path.{◌≡◌, sym, ap, ◌∙◌}
use mathlib.Core.Logic.{⊎_elim}
use Prim.Native.Nat.{ℕ, zero, suc, ◌+◌, ◌-◌, ◌*◌, ◌/◌, ◌%◌, ◌^◌, ◌≤◌, ◌<◌}
use native.Mathlib.Nat.{mul_assoc}
use native.Mathlib.Omega.{arith}
use lib.Pow.{high, pow-add, shr-shr}
use Rattle.poly.proofs.Sum.{lt_or_le}
use Rattle.syndromes.specs.Packed.{symbol_in, joined}
use Rattle.syndromes.proofs.Packed.{first_symbol, symbol_behind}

one_symbol_out : (n h a : ℕ) → h * 2 ^ (6 * suc n) + a ≡ h * 2 ^ (6 * n) * 2 ^ 6 + a
one_symbol_out n h a =
    let e : 6 * suc n ≡ 6 * n + 6 = omega arith in
    ap (λ (y : ℕ). y + a) (ap (λ (k : ℕ). h * 2 ^ k) e ∙ ap (λ (y : ℕ). h * y) (pow-add 2 (6 * n) 6) ∙ sym (mul_assoc h (2 ^ (6 * n)) (2 ^ 6)))

-- the first n symbols of a number that has h behind them
symbol_low : (n h a i : ℕ) → i < n → symbol_in (h * 2 ^ (6 * n) + a) i ≡ symbol_in a i
symbol_low zero h a i l = absurd (omega arith)
symbol_low (suc n) h a zero l = first_symbol _ ∙ ap (λ (y : ℕ). y % 2 ^ 6) (one_symbol_out n h a) ∙ omega arith ∙ sym (first_symbol a)
symbol_low (suc n) h a (suc i) l =
    let x : ℕ = h * 2 ^ (6 * n) in
    let half : (x * 2 ^ 6 + a) / 2 ^ 6 ≡ x + a / 2 ^ 6 = omega arith in
    sym (symbol_behind _ i) ∙ ap (λ (y : ℕ). symbol_in y i) (ap (λ (y : ℕ). y / 2 ^ 6) (one_symbol_out n h a) ∙ half)
    ∙ symbol_low n h (a / 2 ^ 6) i (omega arith) ∙ symbol_behind a i

-- and those behind them
symbol_high : (n h a i : ℕ) → a < 2 ^ (6 * n) → symbol_in (h * 2 ^ (6 * n) + a) (n + i) ≡ symbol_in h i
unfolding symbol_in
symbol_high n h a i l =
    let e : 6 * (n + i) ≡ 6 * n + 6 * i = omega arith in
    ap (λ (k : ℕ). (h * 2 ^ (6 * n) + a) / 2 ^ k % 2 ^ 6) e
    ∙ ap (λ (y : ℕ). y % 2 ^ 6) (sym (shr-shr (h * 2 ^ (6 * n) + a) (6 * n) (6 * i)) ∙ ap (λ (y : ℕ). y / 2 ^ (6 * i)) (high h (6 * n) l))

-- y has the n symbols of x, each changed by F
abbrev pub Each : (ℕ → ℕ) → ℕ → ℕ → ℕ → Type 0
Each F n x y = (i : ℕ) → i < n → symbol_in y i ≡ F (symbol_in x i)

-- what holds of the symbols of ten, and of n behind them, holds of all
two_parts : (F : ℕ → ℕ) (n h h' a a' : ℕ) → a < 2 ^ 60 → a' < 2 ^ 60 → Each F 10 a a' → Each F n h h' → Each F (10 + n) (h * 2 ^ 60 + a) (h' * 2 ^ 60 + a')
two_parts F n h h' a a' ha ha' low high i l = ⊎_elim front behind (lt_or_le i 10)
  where
    front : i < 10 → symbol_in (h' * 2 ^ 60 + a') i ≡ F (symbol_in (h * 2 ^ 60 + a) i)
    front u = symbol_low 10 h' a' i u ∙ low i u ∙ ap F (sym (symbol_low 10 h a i u))

    behind : 10 ≤ i → symbol_in (h' * 2 ^ 60 + a') i ≡ F (symbol_in (h * 2 ^ 60 + a) i)
    behind u =
        let k : ℕ = i - 10 in
        let e : i ≡ 10 + k = omega arith in
        ap (symbol_in (h' * 2 ^ 60 + a')) e ∙ symbol_high 10 h' a' k ha' ∙ high k (omega arith)
        ∙ ap F (sym (ap (symbol_in (h * 2 ^ 60 + a)) e ∙ symbol_high 10 h a k ha))

pub three_words : (F : ℕ → ℕ) (a b c a' b' c' : ℕ) → a < 2 ^ 60 → b < 2 ^ 60 → a' < 2 ^ 60 → b' < 2 ^ 60 → Each F 10 a a' → Each F 10 b b' → Each F 10 c c'
    → Each F 30 (joined a b c) (joined a' b' c')
unfolding joined
three_words F a b c a' b' c' ha hb ha' hb' ea eb ec = two_parts F 20 _ _ a a' ha ha' ea (two_parts F 10 c c' b b' hb hb' eb ec)
