-- The short page's family: its numbers are sound, and its supercodes split its codes. Assumes nothing.
use mathlib.Core.Path.{◌≡◌, refl, sym, ap₂, ◌∙◌, subst}
use mathlib.Core.List.{[], ◌∷◌}
use Prim.Native.Nat.{ℕ, zero, suc, ◌+◌, ◌*◌, ◌^◌, ◌≤◌, ◌<◌}
use native.Mathlib.Omega.{arith}
use lib.Dec.{lit≤}
use lib.Bits.{bit_xor}
use lib.ListN.{get_or}
use Rattle.poly.specs.Polynomial.{add, scale, product_in, product, remainder, Degree}
use Rattle.column.specs.Shape.{generator, degree, short, Sound}
use Rattle.column.specs.Level.{level_word, highest, column_of, taken_off}
use Rattle.column.specs.Trellis.{Dead}
use Rattle.column.proofs.Supercodes.{Split, no_dead}

pub generator_at : (i : ℕ) → i < 4 → get_or (67 ∷ 5433 ∷ 492239 ∷ 31139703 ∷ []) i 0 ≡ generator short i
unfolding generator product product_in add scale
generator_at zero h = refl
generator_at (suc zero) h = refl
generator_at (suc (suc zero)) h = refl
generator_at (suc (suc (suc zero))) h = refl
generator_at (suc (suc (suc (suc i)))) h = absurd (omega arith)

degree_at : (i : ℕ) → i < 4 → Degree (degree short i) (generator short i)
unfolding degree generator product product_in add scale
degree_at zero h = refl
degree_at (suc zero) h = refl
degree_at (suc (suc zero)) h = refl
degree_at (suc (suc (suc zero))) h = refl
degree_at (suc (suc (suc (suc i)))) h = absurd (omega arith)

pub sound : Sound short
sound = record { room = lit≤ tt; degrees = degree_at }

pub split : (i : ℕ) → i < 4 → Split short i
unfolding generator product product_in scale add
split zero h = record { left_degree = refl; right_degree = refl; whole = refl; u = 0; v = 1; bezout = refl }
split (suc zero) h = record { left_degree = refl; right_degree = refl; whole = refl; u = 29; v = 26; bezout = refl }
split (suc (suc zero)) h = record { left_degree = refl; right_degree = refl; whole = refl; u = 33; v = 3176; bezout = refl }
split (suc (suc (suc zero))) h = record { left_degree = refl; right_degree = refl; whole = refl; u = 2737; v = 3608; bezout = refl }
split (suc (suc (suc (suc i)))) h = absurd (omega arith)

-- 01: "level 0 has only its code"
pub no_dead_at_zero : (t p : ℕ) → Dead short 0 t p → ⊥
unfolding generator
no_dead_at_zero = no_dead short 0 refl

-- the numbers that the code works with at a level
pub level_degree : (i d g : ℕ) → i < 4 → d ≡ degree short i → g ≡ generator short i → Degree d g
level_degree i d g h ed eg = subst (λ (t : ℕ). Degree t g) (sym ed) (subst (λ (t : ℕ). Degree (degree short i) t) (sym eg) (degree_at i h))

pub level_room : (i d : ℕ) → i < 4 → d ≡ degree short i → d + 6 ≤ 30
unfolding degree
level_room i d h e = omega arith

pub level_word_is : (i d g s r : ℕ) → d ≡ degree short i → g ≡ generator short i → r ≡ s * 2 ^ d + remainder d g (s * 2 ^ d) → r ≡ level_word short i s
unfolding level_word
level_word_is i d g s r ed eg e = e ∙ ap₂ (λ (x y : ℕ). s * 2 ^ x + remainder x y (s * 2 ^ x)) ed eg

pub column_is : (s0 s1 s2 s3 w0 w1 w2 w3 : ℕ) → w0 ≡ level_word short 0 s0 → w1 ≡ level_word short 1 s1 → w2 ≡ level_word short 2 s2 → w3 ≡ level_word short 3 s3
    → bit_xor (bit_xor (bit_xor w3 w2) w1) w0 ≡ column_of short (s0 ∷ s1 ∷ s2 ∷ s3 ∷ [])
unfolding column_of highest add
column_is s0 s1 s2 s3 w0 w1 w2 w3 e0 e1 e2 e3 = ap₂ bit_xor (ap₂ bit_xor (ap₂ bit_xor e3 e2) e1) e0

pub nothing_taken_off : (w : ℕ) → w ≡ taken_off short 0 w
unfolding taken_off
nothing_taken_off w = refl
