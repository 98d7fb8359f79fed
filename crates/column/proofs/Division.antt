-- The remainder as the code works it out: from the highest digit down, g shifted under each digit that is set. Assumes nothing.
use mathlib.Core.Path.{◌≡◌, sym, ap, ap₂, ◌∙◌, subst}
use Prim.Native.Nat.{ℕ, zero, suc, ◌+◌, ◌-◌, ◌*◌, ◌/◌, ◌%◌, ◌^◌, ◌≤◌, ◌<◌}
use native.Mathlib.Nat
use native.Mathlib.Nat.{not-suc-le-zero, mod-eq_of_lt, mod-lt}
use native.Mathlib.Omega.{arith}
use lib.Bits.{bit_xor}
use lib.Pow.{pow_pos, pow_mono, shl-shr, shr-shr, split}
use Rattle.poly.specs.Polynomial.{add, scale, reduced, remainder, Degree}
use Rattle.poly.proofs.Sum.{add_zero_r}
use Rattle.poly.proofs.Product.{product_comm, product_pow}
use Rattle.poly.proofs.Remainder.{remainder_add, remainder_small, reduced_lt, multiple_has_no_remainder}

module _ (d g : ℕ) (deg : Degree d g) where
  -- g has no digit above d
  generator_lt : g < 2 ^ suc d
  generator_lt =
      let low : g % 2 ^ d < 2 ^ d = mod-lt g (pow_pos d) in
      let whole : g / 2 ^ d * 2 ^ d + g % 2 ^ d ≡ g = split g d in
      let one : g / 2 ^ d * 2 ^ d ≡ 2 ^ d = ap (λ (t : ℕ). t * 2 ^ d) deg ∙ Nat.one-mul (2 ^ d) in
      omega (arith, Nat.pow-suc 2 d)

  shifted_degree : (i : ℕ) → Degree (d + i) (g * 2 ^ i)
  shifted_degree i =
      ap (λ (t : ℕ). g * 2 ^ i / 2 ^ t) (Nat.add_comm d i) ∙ sym (shr-shr (g * 2 ^ i) i d) ∙ ap (λ (t : ℕ). t / 2 ^ d) (shl-shr g i) ∙ deg

  shifted_fits : (i : ℕ) → d + suc i ≤ 63 → g * 2 ^ i < 2 ^ 64
  shifted_fits i h =
      let wider : suc d + i ≤ 64 = omega arith in
      Nat.lt_of_lt_of_le (lib.Pow.shl_lt (suc d) i generator_lt) (pow_mono wider)

  -- a digit's multiple of g leaves the remainder as it is
  same_remainder : (r i c : ℕ) → remainder d g (add r (scale c (g * 2 ^ i))) ≡ remainder d g r
  unfolding scale
  same_remainder r i zero = ap (remainder d g) (add_zero_r r)
  same_remainder r i (suc c) =
      remainder_add d g r (g * 2 ^ i)
      ∙ ap (add (remainder d g r)) (multiple_has_no_remainder d g deg (g * 2 ^ i) (2 ^ i, product_comm (2 ^ i) g ∙ product_pow g i)) ∙ add_zero_r (remainder d g r)

  -- one turn: the digit at d + i - 1 is cleared
  pub divide_turn : (w r x i : ℕ) → 0 < i → d + i ≤ 63 → r < 2 ^ (d + i) → remainder d g r ≡ remainder d g w
      → x ≡ scale (r / 2 ^ (d + (i - 1)) % 2) (g * 2 ^ (i - 1) % 2 ^ 64)
      → (bit_xor r x < 2 ^ (d + (i - 1))) × (remainder d g (bit_xor r x) ≡ remainder d g w)
  unfolding add reduced
  divide_turn w r x zero h fits low same e = absurd (not-suc-le-zero h)
  divide_turn w r x (suc j) h fits low same e = turn (suc j - 1) (minus j)
    where
      minus : (j : ℕ) → suc j - 1 ≡ j
      minus j = omega arith

      taken : x ≡ scale (r / 2 ^ (d + j) % 2) (g * 2 ^ j)
      taken =
          subst (λ (t : ℕ). x ≡ scale (r / 2 ^ (d + t) % 2) (g * 2 ^ t % 2 ^ 64)) (minus j) e
          ∙ ap (scale (r / 2 ^ (d + j) % 2)) (mod-eq_of_lt (shifted_fits j fits))

      turn : (i : ℕ) → i ≡ j → (bit_xor r x < 2 ^ (d + i)) × (remainder d g (bit_xor r x) ≡ remainder d g w)
      turn i ei =
          let reduction : bit_xor r x ≡ reduced (d + j) (g * 2 ^ j) r = ap (add r) taken in (
            subst (λ (t : ℕ). bit_xor r x < 2 ^ (d + t)) (sym ei)
                (subst (λ (t : ℕ). t < 2 ^ (d + j)) (sym reduction) (reduced_lt (d + j) (g * 2 ^ j) (shifted_degree j) r (subst (λ (t : ℕ). r < 2 ^ t) (Nat.add-suc d j) low))),
            ap (remainder d g) reduction ∙ same_remainder r j (r / 2 ^ (d + j) % 2) ∙ same,
          )

  -- what is left has no digit at d or above
  pub divide_end : (w r i : ℕ) → i ≡ 0 → r < 2 ^ (d + i) → remainder d g r ≡ remainder d g w → r ≡ remainder d g w
  divide_end w r i e low same =
      sym (remainder_small d g r (subst (λ (t : ℕ). r < 2 ^ t) (ap (λ (t : ℕ). d + t) e ∙ Nat.add-zero d) low)) ∙ same

-- a product with a digit
pub digit_product : (p q : ℕ) → q < 2 → p * q ≡ scale (q % 2) p
unfolding scale
digit_product p zero h = Nat.mul-zero p
digit_product p (suc zero) h = Nat.mul-one p
digit_product p (suc (suc q)) h = absurd (omega arith)

-- the digit that a turn clears is the highest
pub highest_digit : (r d i : ℕ) → 0 < i → r < 2 ^ (d + i) → r / 2 ^ (d + (i - 1)) < 2
highest_digit r d i h low =
    let next : d + i ≡ 1 + (d + (i - 1)) = omega arith in
    lib.Pow.shr_lt 1 (d + (i - 1)) (subst (λ (t : ℕ). r < 2 ^ t) next low)

-- ---- a symbol shifted before its remainder bits

pub shifted_lt : (k d s : ℕ) → s < 2 ^ k → s * 2 ^ d < 2 ^ (d + k)
shifted_lt k d s h = subst (λ (t : ℕ). s * 2 ^ d < 2 ^ t) (Nat.add_comm k d) (lib.Pow.shl_lt k d h)

pub shifted_exact : (k d s : ℕ) → d + k ≤ 63 → s < 2 ^ k → s * 2 ^ d % 2 ^ 64 ≡ s * 2 ^ d
shifted_exact k d s fits h = let wide : d + k ≤ 64 = omega arith in mod-eq_of_lt (Nat.lt_of_lt_of_le (shifted_lt k d s h) (pow_mono wide))

pub systematic_fits : (k d s r : ℕ) → d + k ≤ 63 → s < 2 ^ k → r < 2 ^ d → s * 2 ^ d % 2 ^ 64 + r < 2 ^ 64
systematic_fits k d s r fits h hr =
    let one : s * 2 ^ d < 2 ^ 63 = Nat.lt_of_lt_of_le (shifted_lt k d s h) (pow_mono fits) in
    let two : r < 2 ^ 63 = Nat.lt_of_lt_of_le hr (pow_mono (Nat.le_trans (Nat.le-add_right d k) fits)) in
    let e : s * 2 ^ d % 2 ^ 64 ≡ s * 2 ^ d = shifted_exact k d s fits h in
    omega arith

pub systematic_is : (k d g s r : ℕ) → d + k ≤ 63 → s < 2 ^ k → r ≡ remainder d g (s * 2 ^ d % 2 ^ 64) → s * 2 ^ d % 2 ^ 64 + r ≡ s * 2 ^ d + remainder d g (s * 2 ^ d)
systematic_is k d g s r fits h e =
    ap₂ (λ (x y : ℕ). x + y) (shifted_exact k d s fits h) (e ∙ ap (remainder d g) (shifted_exact k d s fits h))
