-- The checks of the next bit: which of the two bits passes. Assumes nothing.
use Prim.Native.Nat.{ℕ, zero, suc, ◌+◌, ◌-◌, ◌*◌, ◌%◌, ◌/◌, ◌<◌, min}
use native.Mathlib.Omega.{arith}
use mathlib.Core.Bool.{Bool, true, false, cond, ◌&&◌, not, true≢false, false≢true}
use mathlib.Core.Logic.{inl, inr}
use mathlib.Core.Path.{◌≡◌, refl, sym, ap, ap₂, ◌∙◌, subst⁻¹}
use lib.Dec.{eqb}
use lib.Bits.{bit_and, and_step}
use lib.Count.{ones, ones_step}
use borrow.Author.Tests.{eqb-true, eq-eqb, ne_eqb, eqb-false}
use Rattle.column.specs.Mask.{parity}
use Rattle.column.proofs.Parity.{parity_no_mask}
use Rattle.extension.specs.Steps.{ZeroOrOdd}

-- one digit more
ones_digit : (x r : ℕ) → r < 2 → ones (x * 2 + r) ≡ r + ones x
ones_digit x r h =
    let a : (x * 2 + r) % 2 ≡ r = omega arith in
    let b : (x * 2 + r) / 2 ≡ x = omega arith in
    ones_step (x * 2 + r) ∙ ap₂ (λ (u v : ℕ). u + ones v) a b

-- the newest bit under an odd mask
odd_digit : (m b t : ℕ) → t < 2 → m % 2 ≡ 1 → ones (bit_and (b * 2 + t) m) ≡ t + ones (bit_and b (m / 2))
odd_digit m b t h e =
    let low : min ((b * 2 + t) % 2) (m % 2) ≡ t = omega arith in
    let high : (b * 2 + t) / 2 ≡ b = omega arith in
    ap ones (and_step (b * 2 + t) m ∙ ap₂ (λ (u v : ℕ). bit_and u (m / 2) * 2 + v) high low) ∙ ones_digit (bit_and b (m / 2)) t h

same_eq : (a b c d : ℕ) → (a ≡ b → c ≡ d) → (c ≡ d → a ≡ b) → eqb a b ≡ eqb c d
same_eq a b c d f g = go (eqb a b) refl
  where
    go : (t : Bool) → eqb a b ≡ t → t ≡ eqb c d
    go true e = sym (eq-eqb c d (f (eqb-true a b e)))
    go false e = sym (ne_eqb c d (λ k. eqb-false a b e (g k)))

check_odd : (m b : ℕ) → m % 2 ≡ 1 → (t : ℕ) → t < 2 → eqb (parity m (b * 2 + t)) 0 ≡ eqb (parity m (b * 2)) t
unfolding parity
check_odd m b e t h =
    let z : b * 2 ≡ b * 2 + 0 = omega arith in
    let p = odd_digit m b t h e in
    let q = ap (λ (x : ℕ). ones (bit_and x m)) z ∙ odd_digit m b 0 (omega arith) e in
    same_eq (ones (bit_and (b * 2 + t) m) % 2) 0 (ones (bit_and (b * 2) m) % 2) t (λ k. omega (arith, p, q)) (λ k. omega (arith, p, q))

-- where a mask is 0 either bit passes; where it is odd, the bit that it asks for
pub check : (m b u : ℕ) → ZeroOrOdd m → u ≡ parity m (b * 2) → (t : ℕ) → t < 2 → eqb (parity m (b * 2 + t)) 0 ≡ cond (eqb m 0) true (eqb u t)
check m b u (inl z) e t h = rw (eq-eqb m 0 z, z) (eq-eqb (parity 0 (b * 2 + t)) 0 (parity_no_mask (b * 2 + t)))
check m b u (inr z) e t h = rw (ne_eqb m 0 (omega arith), e) (check_odd m b z t h)

pub no_mask : (m b u : ℕ) → u ≡ parity m (b * 2) → eqb m 0 ≡ true → u ≡ 0
no_mask m b u e z = e ∙ ap (λ (k : ℕ). parity k (b * 2)) (eqb-true m 0 z) ∙ parity_no_mask (b * 2)

-- what two checks let through: X, Y where there is no mask, u, v the bits that the masks ask for
abbrev pub let_in : Bool → Bool → ℕ → ℕ → ℕ → Bool
let_in X Y u v t = cond X true (eqb u t) && cond Y true (eqb v t)

pub dead_in : (X Y : Bool) (u v : ℕ) → u < 2 → v < 2 → (not X && (not Y && not (eqb u v))) ≡ true → (let_in X Y u v 0 ≡ false) × (let_in X Y u v 1 ≡ false)
dead_in true Y u v a b h = absurd (false≢true h)
dead_in false true u v a b h = absurd (false≢true h)
dead_in false false zero zero a b h = absurd (false≢true h)
dead_in false false zero (suc zero) a b h = (refl, refl)
dead_in false false (suc zero) zero a b h = (refl, refl)
dead_in false false (suc zero) (suc zero) a b h = absurd (false≢true h)
dead_in false false (suc (suc u)) v a b h = absurd (omega arith)
dead_in false false zero (suc (suc v)) a b h = absurd (omega arith)
dead_in false false (suc zero) (suc (suc v)) a b h = absurd (omega arith)

pub one_in : (X Y : Bool) (u v : ℕ) → u < 2 → v < 2 → (X ≡ true → u ≡ 0) → (Y ≡ true → v ≡ 0) → (X && Y) ≡ false → (not X && (not Y && not (eqb u v))) ≡ false
    → (let_in X Y u v (cond (eqb u 0) v 1) ≡ true) × (let_in X Y u v (1 - cond (eqb u 0) v 1) ≡ false)
one_in true true u v a b f g h k = absurd (true≢false h)
one_in true false zero zero a b f g h k = (refl, refl)
one_in true false zero (suc zero) a b f g h k = (refl, refl)
one_in true false zero (suc (suc v)) a b f g h k = absurd (omega arith)
one_in true false (suc u) v a b f g h k = absurd (omega (arith, f refl))
one_in false true zero zero a b f g h k = (refl, refl)
one_in false true zero (suc v) a b f g h k = absurd (omega (arith, g refl))
one_in false true (suc zero) zero a b f g h k = (refl, refl)
one_in false true (suc zero) (suc v) a b f g h k = absurd (omega (arith, g refl))
one_in false true (suc (suc u)) v a b f g h k = absurd (omega arith)
one_in false false zero zero a b f g h k = (refl, refl)
one_in false false zero (suc zero) a b f g h k = absurd (true≢false k)
one_in false false zero (suc (suc v)) a b f g h k = absurd (omega arith)
one_in false false (suc zero) zero a b f g h k = absurd (true≢false k)
one_in false false (suc zero) (suc zero) a b f g h k = (refl, refl)
one_in false false (suc zero) (suc (suc v)) a b f g h k = absurd (omega arith)
one_in false false (suc (suc u)) v a b f g h k = absurd (omega arith)

pub bit_less : (u v : ℕ) → v < 2 → cond (eqb u 0) v 1 < 2
bit_less u v h = go (eqb u 0)
  where
    go : (t : Bool) → cond t v 1 < 2
    go true = h
    go false = omega arith

-- the bit t that the checks ask for is let in alone
pub asked_in : (x y b u v t : ℕ) → u ≡ parity x (b * 2) → v ≡ parity y (b * 2) → u < 2 → v < 2 → (eqb x 0 && eqb y 0) ≡ false → (not (eqb x 0) && (not (eqb y 0) && not (eqb u v))) ≡ false → t ≡ cond (eqb u 0) v 1
    → (t < 2) × (let_in (eqb x 0) (eqb y 0) u v t ≡ true) × (let_in (eqb x 0) (eqb y 0) u v (1 - t) ≡ false)
asked_in x y b u v t eu ev hu hv some apart et =
    subst⁻¹ (λ (i : ℕ). (i < 2) × (let_in (eqb x 0) (eqb y 0) u v i ≡ true) × (let_in (eqb x 0) (eqb y 0) u v (1 - i) ≡ false)) et
    (let one = one_in (eqb x 0) (eqb y 0) u v hu hv (no_mask x b u eu) (no_mask y b v ev) some apart in (bit_less u v hv, one.0, one.1))
