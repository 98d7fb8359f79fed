-- The remainder by g keeps sums, has fewer digits than g, and is 0 exactly at the multiples of g. Assumes nothing.
use mathlib.Core.Path.{◌≡◌, refl, sym, ap, ap₂, ◌∙◌, subst}
use Prim.Native.Nat.{ℕ, zero, suc, ◌+◌, ◌*◌, ◌/◌, ◌%◌, ◌^◌, ◌≤◌, ◌<◌}
use native.Mathlib.Nat
use native.Mathlib.Nat.{le_refl, not-suc-le-zero, mod-lt, zero-lt-suc, pow-suc, div-eq_of_lt}
use native.Mathlib.Decide.{le_ind}
use native.Mathlib.Omega.{arith}
use lib.Arith.{bin_ind, half_le}
use lib.Pow.{pow_pos, split}
use Rattle.poly.specs.Polynomial.{add, scale, product, reduced, remainder_in, remainder, Multiple, Degree}
use Rattle.poly.proofs.Sum.{Linear, linear_zero, add_assoc, add_self, add_zero_l, add_zero_r, add_swap, add_half, add_odd, add_shr, add_double, add_digit, add_high, scale_odd}
use Rattle.poly.proofs.Product.{half, even, product_step, product_comm, product_zero_r, product_add_l, product_double_l, product_digit_r, product_right_comm}

-- a number without a digit at d or above
pub small_of_div : (d w : ℕ) → w / 2 ^ d ≡ 0 → w < 2 ^ d
small_of_div d w h =
    let e : w % 2 ^ d ≡ w = sym (Nat.zero-add (w % 2 ^ d)) ∙ ap (λ (t : ℕ). t + w % 2 ^ d) (sym (ap (λ (t : ℕ). t * 2 ^ d) h ∙ Nat.zero-mul (2 ^ d))) ∙ split w d in
    subst (λ (t : ℕ). t < 2 ^ d) e (mod-lt w (pow_pos d))

-- a number of d digits, and one digit more
longer : (d r b : ℕ) → r < 2 ^ d → b < 2 → add (r * 2) b < 2 ^ suc d
longer d r b hr hb = subst (λ (t : ℕ). t < 2 ^ suc d) (sym (add_high r 1 b hb)) (omega (arith, pow-suc 2 d))

module _ (d g : ℕ) where
  -- ---- one step of the division

  pub reduced_add : Linear (reduced d g)
  unfolding reduced
  reduced_add a b =
      ap (add (add a b)) (ap (λ (t : ℕ). scale (t % 2) g) (add_shr a b d) ∙ scale_odd (a / 2 ^ d) (b / 2 ^ d) g)
      ∙ add_swap a b (scale (a / 2 ^ d % 2) g) (scale (b / 2 ^ d % 2) g)

  pub reduced_zero : reduced d g 0 ≡ 0
  reduced_zero = linear_zero (reduced d g) reduced_add

  pub reduced_small : (w : ℕ) → w < 2 ^ d → reduced d g w ≡ w
  unfolding reduced scale
  reduced_small w h = ap (λ (t : ℕ). add w (scale (t % 2) g)) (div-eq_of_lt h) ∙ add_zero_r w

  reduced_large : (w : ℕ) → w / 2 ^ d ≡ 1 → reduced d g w ≡ add w g
  unfolding reduced scale
  reduced_large w h = ap (λ (t : ℕ). add w (scale (t % 2) g)) h

  -- ---- the remainder by its digits

  remainder_more : (n w : ℕ) → w ≤ n → remainder_in (suc n) d g w ≡ remainder_in n d g w
  unfolding remainder_in
  remainder_more zero zero h = refl
  remainder_more zero (suc w) h = absurd (not-suc-le-zero h)
  remainder_more (suc n) zero h = refl
  remainder_more (suc n) (suc w) h = ap (λ (t : ℕ). reduced d g (add (t * 2) (suc w % 2))) (remainder_more n (suc w / 2) (half_le h))

  remainder_enough : (n w : ℕ) → w ≤ n → remainder_in n d g w ≡ remainder_in w d g w
  remainder_enough n w h = le_ind (λ (m : ℕ). remainder_in m d g w ≡ remainder_in w d g w) refl (λ m k e. remainder_more m w k ∙ e) n h

  pub remainder_zero : remainder d g 0 ≡ 0
  unfolding remainder remainder_in
  remainder_zero = refl

  -- one digit of w more, the lowest
  pub remainder_step : (w : ℕ) → remainder d g w ≡ reduced d g (add (remainder d g (w / 2) * 2) (w % 2))
  unfolding remainder remainder_in
  remainder_step zero = sym (ap (reduced d g) (add_zero_r 0) ∙ reduced_zero)
  remainder_step (suc w) = ap (λ (t : ℕ). reduced d g (add (t * 2) (suc w % 2))) (remainder_enough w (suc w / 2) (half_le (le_refl (suc w))))

  pub remainder_add : Linear (remainder d g)
  remainder_add =
      bin_ind (λ (a : ℕ). (b : ℕ) → remainder d g (add a b) ≡ add (remainder d g a) (remainder d g b))
      (λ b. ap (remainder d g) (add_zero_l b) ∙ sym (ap (λ (t : ℕ). add t (remainder d g b)) remainder_zero ∙ add_zero_l (remainder d g b)))
      (λ a ih b.
      remainder_step (add a b)
      ∙ ap (reduced d g)
      (ap₂ add (ap (λ (t : ℕ). remainder d g t * 2) (add_half a b) ∙ ap (λ (t : ℕ). t * 2) (ih (b / 2)) ∙ add_double (remainder d g (a / 2)) (remainder d g (b / 2))) (add_odd a b)
      ∙ add_swap (remainder d g (a / 2) * 2) (remainder d g (b / 2) * 2) (a % 2) (b % 2))
      ∙ reduced_add (add (remainder d g (a / 2) * 2) (a % 2)) (add (remainder d g (b / 2) * 2) (b % 2))
      ∙ ap₂ add (sym (remainder_step a)) (sym (remainder_step b)))

  -- the remainder of x times w
  pub remainder_double : (w : ℕ) → remainder d g (w * 2) ≡ reduced d g (remainder d g w * 2)
  remainder_double w =
      remainder_step (w * 2) ∙ ap₂ (λ (s t : ℕ). reduced d g (add (remainder d g s * 2) t)) (half w) (even w) ∙ ap (reduced d g) (add_zero_r (remainder d g w * 2))

  -- a number with fewer digits than g is its own remainder
  pub remainder_small : (w : ℕ) → w < 2 ^ d → remainder d g w ≡ w
  remainder_small =
      bin_ind (λ (w : ℕ). w < 2 ^ d → remainder d g w ≡ w) (λ h. remainder_zero)
      (λ w ih h.
      let less : w / 2 < 2 ^ d = omega arith in
      remainder_step w ∙ ap (λ (t : ℕ). reduced d g (add (t * 2) (w % 2))) (ih less) ∙ ap (reduced d g) (add_digit w) ∙ reduced_small w h)

  -- division: some multiple of g and the remainder make w
  pub division : (w : ℕ) → (q : ℕ) × (add (product q g) (remainder d g w) ≡ w)
  unfolding reduced
  division =
      bin_ind (λ (w : ℕ). (q : ℕ) × (add (product q g) (remainder d g w) ≡ w))
      (0, ap₂ add (product_comm 0 g ∙ product_zero_r g) remainder_zero ∙ add_zero_r 0)
      (λ w ih. more w ih.0 ih.1)
    where
      more : (w q : ℕ) → add (product q g) (remainder d g (w / 2)) ≡ w / 2 → (q : ℕ) × (add (product q g) (remainder d g w) ≡ w)
      more w q e =
          let r : ℕ = remainder d g (w / 2) in
          let s : ℕ = add (r * 2) (w % 2) in
          let c : ℕ = s / 2 ^ d % 2 in
          let t : ℕ = scale c g in
          let grown : product (add (q * 2) c) g ≡ add (product q g * 2) t =
          product_add_l g (q * 2) c ∙ ap₂ add (product_double_l q g) (product_comm c g ∙ product_digit_r g c (mod-lt (s / 2 ^ d) (zero-lt-suc 1))) in (
            add (q * 2) c,
            ap₂ add grown (remainder_step w) ∙ add_swap (product q g * 2) t s t
                ∙ ap (add (add (product q g * 2) s)) (add_self t) ∙ add_zero_r (add (product q g * 2) s)
                ∙ sym (add_assoc (product q g * 2) (r * 2) (w % 2))
                ∙ ap (λ (x : ℕ). add x (w % 2)) (sym (add_double (product q g) r) ∙ ap (λ (x : ℕ). x * 2) e)
                ∙ add_digit w,
          )

  module _ (deg : Degree d g) where
    pub reduced_lt : (w : ℕ) → w < 2 ^ suc d → reduced d g w < 2 ^ d
    reduced_lt w h = by_digit (w / 2 ^ d) refl (lib.Pow.shr_lt 1 d (subst (λ (t : ℕ). w < 2 ^ t) (sym (native.Mathlib.Numerals.one-add d)) h))
      where
        by_digit : (c : ℕ) → w / 2 ^ d ≡ c → c < 2 → reduced d g w < 2 ^ d
        by_digit zero e l = subst (λ (t : ℕ). t < 2 ^ d) (sym (reduced_small w (small_of_div d w e))) (small_of_div d w e)
        by_digit (suc zero) e l =
            small_of_div d (reduced d g w)
            (ap (λ (t : ℕ). t / 2 ^ d) (reduced_large w e) ∙ add_shr w g d ∙ ap₂ add e deg ∙ add_self 1)
        by_digit (suc (suc c)) e l = absurd (omega arith)

    pub remainder_lt : (w : ℕ) → remainder d g w < 2 ^ d
    remainder_lt =
        bin_ind (λ (w : ℕ). remainder d g w < 2 ^ d) (subst (λ (t : ℕ). t < 2 ^ d) (sym remainder_zero) (pow_pos d))
        (λ w ih.
        subst (λ (t : ℕ). t < 2 ^ d) (sym (remainder_step w)) (reduced_lt (add (remainder d g (w / 2) * 2) (w % 2)) (longer d (remainder d g (w / 2)) (w % 2) ih (mod-lt w (zero-lt-suc 1)))))

    remainder_self : remainder d g g ≡ 0
    remainder_self =
        remainder_step g ∙ ap (λ (t : ℕ). reduced d g (add (t * 2) (g % 2))) (remainder_small (g / 2) less) ∙ ap (reduced d g) (add_digit g)
        ∙ reduced_large g deg ∙ add_self g
      where
        less : g / 2 < 2 ^ d
        less =
            let low : g % 2 ^ d < 2 ^ d = mod-lt g (pow_pos d) in
            let e : 2 ^ d + g % 2 ^ d ≡ g = ap (λ (t : ℕ). t + g % 2 ^ d) (sym (ap (λ (t : ℕ). t * 2 ^ d) deg ∙ Nat.one-mul (2 ^ d))) ∙ split g d in
            omega arith

    remainder_product_self : (q : ℕ) → remainder d g (product g q) ≡ 0
    unfolding scale
    remainder_product_self =
        bin_ind (λ (q : ℕ). remainder d g (product g q) ≡ 0) (ap (remainder d g) (product_zero_r g) ∙ remainder_zero)
        (λ q ih.
        ap (remainder d g) (product_step g q) ∙ remainder_add (product g (q / 2) * 2) (scale (q % 2) g)
        ∙ ap₂ add (remainder_double (product g (q / 2)) ∙ ap (λ (t : ℕ). reduced d g (t * 2)) ih ∙ reduced_zero) (digit (q % 2))
        ∙ add_self 0)
      where
        digit : (c : ℕ) → remainder d g (scale c g) ≡ 0
        digit zero = remainder_zero
        digit (suc c) = remainder_self

    -- ---- the multiples of g

    pub multiple_has_no_remainder : (w : ℕ) → Multiple g w → remainder d g w ≡ 0
    multiple_has_no_remainder w h = ap (remainder d g) (sym h.1 ∙ product_comm h.0 g) ∙ remainder_product_self h.0

    pub no_remainder_is_multiple : (w : ℕ) → remainder d g w ≡ 0 → Multiple g w
    no_remainder_is_multiple w h = ((division w).0, sym (add_zero_r (product (division w).0 g)) ∙ ap (add (product (division w).0 g)) (sym h) ∙ (division w).1)

    -- the remainder is the one number of d digits that differs from w by a multiple of g
    pub remainder_unique : (w q r : ℕ) → r < 2 ^ d → add (product q g) r ≡ w → remainder d g w ≡ r
    remainder_unique w q r h e =
        ap (remainder d g) (sym e) ∙ remainder_add (product q g) r
        ∙ ap₂ add (multiple_has_no_remainder (product q g) (q, refl)) (remainder_small r h) ∙ add_zero_l r

    -- a factor may be replaced by its remainder
    pub remainder_factor : (a b : ℕ) → remainder d g (product (remainder d g a) b) ≡ remainder d g (product a b)
    remainder_factor a b =
        let q : ℕ = (division a).0 in
        sym
        (ap (λ (t : ℕ). remainder d g (product t b)) (sym (division a).1) ∙ ap (remainder d g) (product_add_l b (product q g) (remainder d g a))
        ∙ remainder_add (product (product q g) b) (product (remainder d g a) b)
        ∙ ap (λ (t : ℕ). add t (remainder d g (product (remainder d g a) b))) (multiple_has_no_remainder (product (product q g) b) (product q b, product_right_comm q b g))
        ∙ add_zero_l (remainder d g (product (remainder d g a) b)))
