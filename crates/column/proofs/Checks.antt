-- A path goes on by a bit just where the parity under that bit's mask is even. Assumes nothing.
use mathlib.Core.Path.{◌≡◌, refl, sym, ap, ap₂, ◌∙◌, subst}
use mathlib.Core.Logic.{◌↔◌, ◌⊎◌, inl, inr, ⊎_elim}
use Prim.Native.Nat.{ℕ, zero, suc, ◌+◌, ◌-◌, ◌*◌, ◌/◌, ◌%◌, ◌^◌, ◌≤◌, ◌<◌}
use native.Mathlib.Nat
use native.Mathlib.Nat.{mod-lt, mod-eq_of_lt, zero-lt-suc, not-suc-le-zero, lt_of_lt_of_le, div-eq_of_lt, pow-suc}
use native.Mathlib.Omega.{arith}
use lib.Arith.{digits_lt}
use lib.Bits.{shifted_even}
use lib.Dec.{ltb→lt, lt→ltb}
use lib.Pow.{pow_mono, pow-lt, pow-add, shr_lt, shl-shr, high}
use Rattle.poly.specs.Polynomial.{add, remainder, Degree}
use Rattle.poly.proofs.Sum.{Linear, linear_ext, add_zero_l, add_shl, add_shr, add_odd, add_high, add_lt, lt_or_le}
use Rattle.poly.proofs.Remainder.{small_of_div, remainder_add, remainder_small, remainder_lt}
use Rattle.column.specs.Shape.{Code}
use Rattle.column.specs.Trellis.{Exists}
use Rattle.column.specs.Mask.{begins, parity, check, mask_in, mask_of}
use Rattle.column.proofs.Begins.{remainder_split, remainder_keeps, exists_below, prefix_exists, begins_exists, exists_begins}
use Rattle.column.proofs.Parity.{parity_linear, parity_at}

two_pos : 0 < 2
two_pos = zero-lt-suc 1

-- a number whose k low digits are 0
digit_below : (c k j : ℕ) → j < k → c * 2 ^ k / 2 ^ j % 2 ≡ 0
digit_below c k j h =
    let i : ℕ = k - suc j in
    let e : k ≡ suc i + j = omega arith in
    ap (λ (x : ℕ). x / 2 ^ j % 2) (ap (λ (x : ℕ). c * 2 ^ x) e ∙ ap (λ (x : ℕ). c * x) (pow-add 2 (suc i) j) ∙ sym (Nat.mul_assoc c (2 ^ suc i) (2 ^ j)))
    ∙ ap (λ (x : ℕ). x % 2) (shl-shr (c * 2 ^ suc i) j) ∙ shifted_even c i

module _ (n : ℕ) (C : Code) where
  -- ---- the check is the parity under the mask

  pub check_linear : (t : ℕ) → Linear (check n C t)
  unfolding check
  check_linear t a b =
      let s : ℕ = n - t in
      let left : ℕ = remainder C.degree C.generator (a * 2 ^ s) in
      let right : ℕ = remainder C.degree C.generator (b * 2 ^ s) in
      ap (λ (x : ℕ). remainder C.degree C.generator x / 2 ^ s % 2) (add_shl a b s)
      ∙ ap (λ (x : ℕ). x / 2 ^ s % 2) (remainder_add C.degree C.generator (a * 2 ^ s) (b * 2 ^ s))
      ∙ ap (λ (x : ℕ). x % 2) (add_shr left right s) ∙ add_odd (left / 2 ^ s) (right / 2 ^ s)

  check_lt : (t p : ℕ) → check n C t p < 2
  unfolding check
  check_lt t p = mod-lt _ two_pos

  mask_lt : (t k : ℕ) → mask_in n C t k < 2 ^ k
  unfolding mask_in
  mask_lt t zero = zero-lt-suc 0
  mask_lt t (suc k) =
      subst (λ (x : ℕ). check n C t (2 ^ k) * 2 ^ k + mask_in n C t k < x) (Nat.mul_comm 2 (2 ^ k) ∙ sym (pow-suc 2 k)) (digits_lt (check_lt t (2 ^ k)) (mask_lt t k))

  -- the mask's digit j is the check of the bit j alone
  mask_digit : (t k j : ℕ) → j < k → mask_in n C t k / 2 ^ j % 2 ≡ check n C t (2 ^ j)
  unfolding mask_in
  mask_digit t zero j h = absurd (not-suc-le-zero h)
  mask_digit t (suc k) j h = ⊎_elim (λ l. lower l (mask_digit t k j l)) highest (lt_or_le j k)
    where
      c : ℕ
      c = check n C t (2 ^ k)

      rest : ℕ
      rest = mask_in n C t k

      lower : j < k → rest / 2 ^ j % 2 ≡ check n C t (2 ^ j) → (c * 2 ^ k + rest) / 2 ^ j % 2 ≡ check n C t (2 ^ j)
      lower l e =
          ap (λ (x : ℕ). x / 2 ^ j % 2) (sym (add_high c k rest (mask_lt t k))) ∙ ap (λ (x : ℕ). x % 2) (add_shr (c * 2 ^ k) rest j)
          ∙ add_odd (c * 2 ^ k / 2 ^ j) (rest / 2 ^ j) ∙ ap₂ add (digit_below c k j l) e ∙ add_zero_l (check n C t (2 ^ j))

      highest : k ≤ j → (c * 2 ^ k + rest) / 2 ^ j % 2 ≡ check n C t (2 ^ j)
      highest l =
          let e : j ≡ k = omega arith in
          ap (λ (x : ℕ). (c * 2 ^ k + rest) / 2 ^ x % 2) e ∙ ap (λ (x : ℕ). x % 2) (high c k (mask_lt t k)) ∙ mod-eq_of_lt (check_lt t (2 ^ k))
          ∙ ap (λ (x : ℕ). check n C t (2 ^ x)) (sym e)

  pub mask_is_check : (t p : ℕ) → p < 2 ^ t → check n C t p ≡ parity (mask_of n C t) p
  unfolding mask_of
  mask_is_check t =
      linear_ext (check n C t) (parity (mask_of n C t)) (check_linear t) (parity_linear (mask_of n C t)) t
      (λ k h. sym (parity_at (mask_of n C t) k ∙ mask_digit t t k h))

  -- after that the newest bit itself is taken
  pub mask_odd : (t : ℕ) → n - suc t < C.degree → mask_of n C (suc t) % 2 ≡ 1
  unfolding mask_of check
  mask_odd t h =
      let s : ℕ = n - suc t in
      let small : 1 * 2 ^ s < 2 ^ C.degree = subst (λ (x : ℕ). x < 2 ^ C.degree) (sym (Nat.one-mul (2 ^ s))) (pow-lt h) in
      ap (λ (x : ℕ). x % 2) (sym (Nat.div-one (mask_of n C (suc t)))) ∙ mask_digit (suc t) (suc t) 0 (zero-lt-suc t)
      ∙ ap (λ (x : ℕ). x / 2 ^ s % 2) (remainder_small C.degree C.generator (1 * 2 ^ s) small) ∙ ap (λ (x : ℕ). x % 2) (shl-shr 1 s)

  -- ---- the next bit

  module _ (deg : Degree C.degree C.generator) where
    -- a path that exists, with one bit more: at most one digit of its remainder stands above the bits to come
    newest_digit : (t p b : ℕ) → t < n → b < 2 → Exists n C t p → remainder C.degree C.generator ((p * 2 + b) * 2 ^ (n - suc t)) < 2 ^ suc (n - suc t)
    unfolding begins
    newest_digit t p b h hb e =
        let s : ℕ = n - suc t in
        let old : remainder C.degree C.generator (p * 2 ^ suc s) < 2 ^ suc s =
        subst (λ (x : ℕ). remainder C.degree C.generator (p * 2 ^ x) < 2 ^ x) more (ltb→lt _ _ (exists_begins n C deg t p e)) in
        let new : b * 2 ^ s < 2 ^ suc s = subst (λ (x : ℕ). b * 2 ^ s < 2 ^ x) (native.Mathlib.Numerals.one-add s) (lib.Pow.shl_lt 1 s hb) in
        subst (λ (x : ℕ). x < 2 ^ suc s)
        (sym (ap (remainder C.degree C.generator) (spread s) ∙ remainder_split C.degree C.generator p (suc s) (b * 2 ^ s) new))
        (add_lt (suc s) (remainder C.degree C.generator (p * 2 ^ suc s)) (remainder C.degree C.generator (b * 2 ^ s)) old
        (remainder_keeps C.degree C.generator deg (suc s) (b * 2 ^ s) new))
      where
        more : n - t ≡ suc (n - suc t)
        more = omega arith

        spread : (s : ℕ) → (p * 2 + b) * 2 ^ s ≡ p * 2 ^ suc s + b * 2 ^ s
        spread s =
            Nat.add-mul (p * 2) b (2 ^ s)
            ∙ ap (λ (x : ℕ). x + b * 2 ^ s) (Nat.mul_assoc p 2 (2 ^ s) ∙ ap (λ (x : ℕ). p * x) (Nat.mul_comm 2 (2 ^ s) ∙ sym (pow-suc 2 s)))

    pub extension_exists : (t p b : ℕ) → t < n → b < 2 → Exists n C (suc t) (p * 2 + b) ↔ (Exists n C t p × (parity (mask_of n C (suc t)) (p * 2 + b) ≡ 0))
    unfolding begins check
    extension_exists t p b h hb = (λ e. (shorter e, passes e), λ e. longer e.0 e.1)
      where
        q : ℕ
        q = p * 2 + b

        s : ℕ
        s = n - suc t

        r : ℕ
        r = remainder C.degree C.generator (q * 2 ^ s)

        half : q / 2 ≡ p
        half = omega arith

        shorter : Exists n C (suc t) q → Exists n C t p
        shorter e = subst (Exists n C t) half (prefix_exists n C t q h e)

        passes : Exists n C (suc t) q → parity (mask_of n C (suc t)) q ≡ 0
        passes e =
            sym (mask_is_check (suc t) q (exists_below n C (suc t) q e))
            ∙ ap (λ (x : ℕ). x % 2) (div-eq_of_lt (ltb→lt r (2 ^ s) (exists_begins n C deg (suc t) q e)))

        longer : Exists n C t p → parity (mask_of n C (suc t)) q ≡ 0 → Exists n C (suc t) q
        longer e z =
            let old : p < 2 ^ t = exists_below n C t p e in
            let below : q < 2 ^ suc t = omega (arith, pow-suc 2 t) in
            let digit : r / 2 ^ s % 2 ≡ 0 = mask_is_check (suc t) q below ∙ z in
            let one : r / 2 ^ s < 2 = shr_lt 1 s (subst (λ (x : ℕ). r < 2 ^ x) (sym (native.Mathlib.Numerals.one-add s)) (newest_digit t p b h hb e)) in
            let none : r / 2 ^ s ≡ 0 = omega arith in
            begins_exists n C deg (suc t) q h (lt→ltb r (2 ^ s) (small_of_div s r none)) below

    -- ---- which bits are free

    -- where the bits to come are as many as the degree, no check binds
    pub mask_zero : (t : ℕ) → C.degree ≤ n - t → mask_of n C t ≡ 0
    unfolding mask_of mask_in check
    mask_zero t h = none t
      where
        passes : (p : ℕ) → check n C t p ≡ 0
        passes p = ap (λ (x : ℕ). x % 2) (div-eq_of_lt (lt_of_lt_of_le (remainder_lt C.degree C.generator deg (p * 2 ^ (n - t))) (pow_mono h)))

        none : (k : ℕ) → mask_in n C t k ≡ 0
        none zero = refl
        none (suc k) = ap₂ (λ (x y : ℕ). x * 2 ^ k + y) (passes (2 ^ k)) (none k) ∙ ap (λ (x : ℕ). x + 0) (Nat.zero-mul (2 ^ k))

    pub mask_odd_or_zero : (t : ℕ) → (mask_of n C (suc t) ≡ 0) ⊎ (mask_of n C (suc t) % 2 ≡ 1)
    mask_odd_or_zero t = ⊎_elim (λ l. inr (mask_odd t l)) (λ m. inl (mask_zero (suc t) m)) (lt_or_le (n - suc t) C.degree)
