-- The paths that begin a codeword are those that the test by the remainder takes. Assumes nothing.
use mathlib.Core.Path.{◌≡◌, sym, ap, ◌∙◌, subst}
use mathlib.Core.Logic.{◌↔◌, ⊎_elim}
use Prim.Native.Nat.{ℕ, suc, ◌+◌, ◌-◌, ◌*◌, ◌/◌, ◌%◌, ◌^◌, ◌≤◌, ◌<◌}
use native.Mathlib.Nat
use native.Mathlib.Nat.{mod-lt, lt_of_lt_of_le}
use native.Mathlib.Omega.{arith}
use lib.Arith.{digits_lt}
use lib.Dec.{T, ltb→lt, lt→ltb}
use lib.Pow.{pow_pos, pow_mono, pow-add, shr_lt, shr-shr, split, high}
use Rattle.poly.specs.Polynomial.{add, remainder, Degree}
use Rattle.poly.proofs.Sum.{add_self, add_cancel, add_high, lt_or_le}
use Rattle.poly.proofs.Product.{product_zero_l}
use Rattle.poly.proofs.Remainder.{remainder_add, remainder_small, remainder_lt, multiple_has_no_remainder, no_remainder_is_multiple}
use Rattle.column.specs.Shape.{Code, Word}
use Rattle.column.specs.Trellis.{Exists}
use Rattle.column.specs.Mask.{begins}

-- the remainder of a path with s bits to come, whatever those are
pub remainder_split : (d g p s l : ℕ) → l < 2 ^ s → remainder d g (p * 2 ^ s + l) ≡ add (remainder d g (p * 2 ^ s)) (remainder d g l)
remainder_split d g p s l h = ap (remainder d g) (sym (add_high p s l h)) ∙ remainder_add d g (p * 2 ^ s) l

-- a remainder has no more digits than the number
pub remainder_keeps : (d g : ℕ) → Degree d g → (k l : ℕ) → l < 2 ^ k → remainder d g l < 2 ^ k
remainder_keeps d g deg k l h =
    ⊎_elim
    (λ less. subst (λ (t : ℕ). t < 2 ^ k) (sym (remainder_small d g l (lt_of_lt_of_le h (pow_mono (Nat.le_of_lt less))))) h)
    (λ more. lt_of_lt_of_le (remainder_lt d g deg l) (pow_mono more))
    (lt_or_le k d)

module _ (n : ℕ) (C : Code) where
  -- ---- what the paths of one code keep to

  pub exists_below : (t p : ℕ) → Exists n C t p → p < 2 ^ t
  exists_below t p e =
      let wide : n ≤ t + (n - t) = omega arith in
      subst (λ (x : ℕ). x < 2 ^ t) e.2 (shr_lt t (n - t) (lt_of_lt_of_le e.1.0 (pow_mono wide)))

  pub full_path_is_word : (p : ℕ) → Exists n C n p ↔ Word n C p
  full_path_is_word p = (λ e. subst (Word n C) (sym (whole e.0) ∙ e.2) e.1, λ w. (p, w, whole p))
    where
      whole : (w : ℕ) → w / 2 ^ (n - n) ≡ w
      whole w = ap (λ (s : ℕ). w / 2 ^ s) (Nat.sub_self n) ∙ Nat.div-one w

  -- a word's path of t bits is that of suc t bits without the newest
  half : (t w : ℕ) → t < n → w / 2 ^ (n - suc t) / 2 ≡ w / 2 ^ (n - t)
  half t w h =
      let one_less : n - suc t + 1 ≡ n - t = omega arith in
      shr-shr w (n - suc t) 1 ∙ ap (λ (s : ℕ). w / 2 ^ s) one_less

  pub prefix_exists : (t q : ℕ) → t < n → Exists n C (suc t) q → Exists n C t (q / 2)
  prefix_exists t q h e = (e.0, e.1, sym (half t e.0 h) ∙ ap (λ (x : ℕ). x / 2) e.2)

  -- a path that begins a word has an extension that does, as long as the word has bits to come
  pub some_extension_exists : (t p : ℕ) → t < n → Exists n C t p → (b : ℕ) × (b < 2) × Exists n C (suc t) (p * 2 + b)
  some_extension_exists t p h e =
      let newest : e.0 / 2 ^ (n - suc t) ≡ p * 2 + e.0 / 2 ^ (n - suc t) % 2 = longer (e.0 / 2 ^ (n - suc t)) p (half t e.0 h ∙ e.2) in
      (e.0 / 2 ^ (n - suc t) % 2, omega arith, (e.0, e.1, newest))
    where
      longer : (q p : ℕ) → q / 2 ≡ p → q ≡ p * 2 + q % 2
      longer q p k = omega arith

  pub zero_exists : (t : ℕ) → Exists n C t 0
  zero_exists t = (0, (pow_pos n, (0, product_zero_l C.generator)), Nat.zero-div (2 ^ (n - t)))

  -- ---- the test

  module _ (deg : Degree C.degree C.generator) where
    -- the remainder of the path and zeros, put into the bits to come, makes a word
    pub begins_exists : (t p : ℕ) → t ≤ n → T (begins n C t p) → p < 2 ^ t → Exists n C t p
    unfolding begins
    begins_exists t p h b l =
        let s : ℕ = n - t in
        let r : ℕ = remainder C.degree C.generator (p * 2 ^ s) in
        let low : r < 2 ^ s = ltb→lt r (2 ^ s) b in
        let none : remainder C.degree C.generator (p * 2 ^ s + r) ≡ 0 = remainder_split C.degree C.generator p s r low
        ∙ ap (add r) (remainder_small C.degree C.generator r (remainder_lt C.degree C.generator deg (p * 2 ^ s))) ∙ add_self r in
        let below : p * 2 ^ s + r < 2 ^ n = subst (λ (x : ℕ). p * 2 ^ s + r < x) (sym (pow-add 2 t s) ∙ ap (λ (x : ℕ). 2 ^ x) (Nat.add-sub_of_le h)) (digits_lt l low) in
        (p * 2 ^ s + r, (below, no_remainder_is_multiple C.degree C.generator deg (p * 2 ^ s + r) none), high p s low)

    -- the remainder of the path and zeros is that of the bits to come
    pub exists_begins : (t p : ℕ) → Exists n C t p → T (begins n C t p)
    unfolding begins
    exists_begins t p e =
        let s : ℕ = n - t in
        let w : ℕ = e.0 in
        let l : ℕ = w % 2 ^ s in
        let low : l < 2 ^ s = mod-lt w (pow_pos s) in
        let r : ℕ = remainder C.degree C.generator (p * 2 ^ s) in
        let parts : p * 2 ^ s + l ≡ w = ap (λ (x : ℕ). x * 2 ^ s + l) (sym e.2) ∙ split w s in
        let same : r ≡ remainder C.degree C.generator l = add_cancel r (remainder C.degree C.generator l)
        (sym (remainder_split C.degree C.generator p s l low) ∙ ap (remainder C.degree C.generator) parts
        ∙ multiple_has_no_remainder C.degree C.generator deg w e.1.1) in
        lt→ltb r (2 ^ s) (subst (λ (x : ℕ). x < 2 ^ s) (sym same) (remainder_keeps C.degree C.generator deg s l low))
