-- One step multiplies each of n symbols by α, as the field does one. Assumes nothing.
use mathlib.Core.Path.{◌≡◌, refl, sym, ap, ap₂, ◌∙◌}
use Prim.Native.Nat.{ℕ, zero, suc, ◌+◌, ◌*◌, ◌/◌, ◌%◌, ◌^◌, ◌<◌}
use native.Mathlib.Nat.{mod-lt, not-suc-le-zero}
use native.Mathlib.Omega.{arith}
use lib.Bits.{bit_and, bit_xor, and_block, and_mask, xor_block, xor_lt}
use lib.Dec.{lit<}
use lib.Pow.{split, high, low, pow_pos}
use Rattle.poly.specs.Polynomial.{scale}
use Rattle.field.specs.Element.{mul, α}
use Rattle.field.proofs.Digits.{times_α}
use Rattle.syndromes.specs.Packed.{symbol_in}
use Rattle.syndromes.proofs.Packed.{first_symbol, symbol_behind}

-- n symbols that are all x
unfoldable pub repeated : ℕ → ℕ → ℕ
repeated x zero = 0
repeated x (suc n) = repeated x n * 2 ^ 6 + x

-- n symbols, shifted without their top bits, and α + 1 added where a top bit was
unfoldable pub stepped : ℕ → ℕ → ℕ
stepped n w = bit_xor (bit_and w (repeated 31 n) * 2) (bit_and (w / 2 ^ 5) (repeated 1 n) * 3)

-- the symbols without their top bits, one symbol more
rests : (n w : ℕ) → bit_and w (repeated 31 (suc n)) ≡ bit_and (w / 2 ^ 6) (repeated 31 n) * 2 ^ 6 + w % 2 ^ 5
unfolding repeated
rests n w =
    let e : w % 2 ^ 6 % 2 ^ 5 ≡ w % 2 ^ 5 = omega arith in
    ap (λ (t : ℕ). bit_and t (repeated 31 n * 2 ^ 6 + 31)) (sym (split w 6))
    ∙ and_block 6 (w / 2 ^ 6) (repeated 31 n) (w % 2 ^ 6) 31 (mod-lt w (pow_pos 6)) (lit< tt)
    ∙ ap (λ (t : ℕ). bit_and (w / 2 ^ 6) (repeated 31 n) * 2 ^ 6 + t) (and_mask (w % 2 ^ 6) 5 ∙ e)

-- the top bits, one symbol more
tops : (n w : ℕ) → bit_and (w / 2 ^ 5) (repeated 1 (suc n)) ≡ bit_and (w / 2 ^ 6 / 2 ^ 5) (repeated 1 n) * 2 ^ 6 + w % 2 ^ 6 / 2 ^ 5
unfolding repeated
tops n w =
    let v : ℕ = w / 2 ^ 5 in
    let e : v % 2 ^ 6 % 2 ^ 1 ≡ w % 2 ^ 6 / 2 ^ 5 = omega arith in
    let d : v / 2 ^ 6 ≡ w / 2 ^ 6 / 2 ^ 5 = omega arith in
    ap (λ (t : ℕ). bit_and t (repeated 1 n * 2 ^ 6 + 1)) (sym (split v 6))
    ∙ and_block 6 (v / 2 ^ 6) (repeated 1 n) (v % 2 ^ 6) 1 (mod-lt v (pow_pos 6)) (lit< tt)
    ∙ ap₂ (λ (s t : ℕ). bit_and s (repeated 1 n) * 2 ^ 6 + t) d (and_mask (v % 2 ^ 6) 1 ∙ e)

-- a digit times 3
digit_times : (c : ℕ) → c < 2 → c * 3 ≡ scale (c % 2) 3
unfolding scale
digit_times zero h = refl
digit_times (suc zero) h = refl
digit_times (suc (suc c)) h = absurd (omega arith)

-- one symbol
one_symbol : (w : ℕ) → bit_xor (w % 2 ^ 5 * 2) (w % 2 ^ 6 / 2 ^ 5 * 3) ≡ mul 6 67 α (w % 2 ^ 6)
one_symbol w =
    let a : ℕ = w % 2 ^ 6 in
    times_α 6 67 refl (lit< tt) 3 a (w % 2 ^ 5 * 2) (a / 2 ^ 5) (a / 2 ^ 5 * 3) refl (lit< tt) (omega arith) (omega arith) (digit_times (a / 2 ^ 5) (omega arith))

-- one symbol more
stepped_more : (n w : ℕ) → stepped (suc n) w ≡ stepped n (w / 2 ^ 6) * 2 ^ 6 + bit_xor (w % 2 ^ 5 * 2) (w % 2 ^ 6 / 2 ^ 5 * 3)
unfolding stepped
stepped_more n w =
    let x : ℕ = bit_and (w / 2 ^ 6) (repeated 31 n) in
    let y : ℕ = bit_and (w / 2 ^ 6 / 2 ^ 5) (repeated 1 n) in
    let r : ℕ = w % 2 ^ 5 in
    let c : ℕ = w % 2 ^ 6 / 2 ^ 5 in
    let ex : (x * 2 ^ 6 + r) * 2 ≡ x * 2 * 2 ^ 6 + r * 2 = omega arith in
    let ey : (y * 2 ^ 6 + c) * 3 ≡ y * 3 * 2 ^ 6 + c * 3 = omega arith in
    ap₂ (λ (s t : ℕ). bit_xor (s * 2) (t * 3)) (rests n w) (tops n w)
    ∙ ap₂ bit_xor ex ey
    ∙ xor_block 6 (x * 2) (y * 3) (r * 2) (c * 3) (omega arith) (omega arith)

small : (w : ℕ) → bit_xor (w % 2 ^ 5 * 2) (w % 2 ^ 6 / 2 ^ 5 * 3) < 2 ^ 6
small w = xor_lt 6 (w % 2 ^ 5 * 2) (w % 2 ^ 6 / 2 ^ 5 * 3) (omega arith) (omega arith)

pub each_times_α : (n w i : ℕ) → i < n → symbol_in (stepped n w) i ≡ mul 6 67 α (symbol_in w i)
each_times_α zero w i l = absurd (not-suc-le-zero l)
each_times_α (suc n) w zero l =
    first_symbol (stepped (suc n) w)
    ∙ ap (λ (t : ℕ). t % 2 ^ 6) (stepped_more n w)
    ∙ low (stepped n (w / 2 ^ 6)) 6 (small w)
    ∙ one_symbol w
    ∙ ap (mul 6 67 α) (sym (first_symbol w))
each_times_α (suc n) w (suc i) l =
    sym (symbol_behind (stepped (suc n) w) i)
    ∙ ap (λ (t : ℕ). symbol_in (t / 2 ^ 6) i) (stepped_more n w)
    ∙ ap (λ (t : ℕ). symbol_in t i) (high (stepped n (w / 2 ^ 6)) 6 (small w))
    ∙ each_times_α n (w / 2 ^ 6) i (omega arith)
    ∙ ap (mul 6 67 α) (symbol_behind w i)
