-- The table of a code's masks, as it is computed. Assumes nothing.
use mathlib.Core.Path.{◌≡◌, refl, sym, ap, ap₂, ◌∙◌, subst⁻¹}
use mathlib.Core.List.{List, [], ◌∷◌}
use Prim.Native.Nat.{ℕ, zero, suc, ◌+◌, ◌-◌, ◌*◌, ◌/◌, ◌%◌, ◌^◌, ◌≤◌, ◌<◌}
use native.Mathlib.Nat
use native.Mathlib.Nat.{le_of_suc-le-suc, not-suc-le-zero, pow-suc}
use native.Mathlib.Omega.{arith}
use lib.ListN.{get_or}
use lib.Pow.{pow-add}
use Rattle.poly.specs.Polynomial.{remainder, reduced}
use Rattle.poly.proofs.Remainder.{remainder_double}
use Rattle.column.specs.Shape.{Code}
use Rattle.column.specs.Tabulated.{tabulated}
use Rattle.column.proofs.Tabulated.{tabulated_at}
use Rattle.column.specs.Mask.{check, mask_in, mask_of, MasksOf}

-- r and what follows it, k numbers: each the remainder of x times the one before
unfoldable pub residues : ℕ → ℕ → ℕ → ℕ → List ℕ
residues d g zero r = []
residues d g (suc k) r = r ∷ residues d g k (reduced d g (r * 2))

-- the k lowest digits of the mask with s bits to come, by the remainders of the powers of x
unfoldable pub mask_by : List ℕ → ℕ → ℕ → ℕ
mask_by rs s zero = 0
mask_by rs s (suc k) = get_or rs (k + s) 0 / 2 ^ s % 2 * 2 ^ k + mask_by rs s k

-- the table of a code's masks, where words have n bits
unfoldable pub mask_table : ℕ → Code → List ℕ
mask_table n C = let powers = residues C.degree C.generator n (remainder C.degree C.generator 1) in tabulated (λ t. mask_by powers (n - suc t) (suc t)) 0 n

residue_at : (d g k j i : ℕ) → j < k → get_or (residues d g k (remainder d g (2 ^ i))) j 0 ≡ remainder d g (2 ^ (j + i))
unfolding residues
residue_at d g zero j i h = absurd (not-suc-le-zero h)
residue_at d g (suc k) zero i h = ap (λ (x : ℕ). remainder d g (2 ^ x)) (sym (Nat.zero-add i))
residue_at d g (suc k) (suc j) i h =
    let moved : j + suc i ≡ suc j + i = omega arith in
    ap (λ (x : ℕ). get_or (residues d g k x) j 0) (sym (remainder_double d g (2 ^ i)) ∙ ap (remainder d g) (sym (pow-suc 2 i)))
    ∙ residue_at d g k j (suc i) (le_of_suc-le-suc h) ∙ ap (λ (x : ℕ). remainder d g (2 ^ x)) moved

pub masks_of : (n : ℕ) (C : Code) → MasksOf n C (mask_table n C)
unfolding mask_table mask_by mask_of mask_in check
masks_of n C t l = tabulated_at (λ t. mask_by powers (n - suc t) (suc t)) n t 0 l ∙ same (suc t) (Nat.le_refl (suc t))
  where
    powers : List ℕ
    powers = residues C.degree C.generator n (remainder C.degree C.generator 1)

    s : ℕ
    s = n - suc t

    -- x ^ k with the bits to come behind it
    power : (k : ℕ) → k < suc t → get_or powers (k + s) 0 ≡ remainder C.degree C.generator (2 ^ k * 2 ^ s)
    power k m =
        let within : k + s < n = omega arith in
        residue_at C.degree C.generator n (k + s) 0 within
        ∙ ap (remainder C.degree C.generator) (ap (λ (x : ℕ). 2 ^ x) (Nat.add-zero (k + s)) ∙ pow-add 2 k s)

    same : (k : ℕ) → k ≤ suc t → mask_by powers s k ≡ mask_in n C (suc t) k
    same zero m = refl
    same (suc k) m = ap₂ (λ (x y : ℕ). x / 2 ^ s % 2 * 2 ^ k + y) (power k m) (same k (Nat.le_of_lt m))

-- a table that the code returns: which code's it is, is known by an equation, and the table computes to that code's masks
pub masks_known : (n : ℕ) (C D : Code) → C ≡ D → (table : List ℕ) → table ≡ mask_table n D → MasksOf n C table
masks_known n C D e table known = subst⁻¹ (λ (c : Code). MasksOf n c table) e (subst⁻¹ (MasksOf n D) known (masks_of n D))

-- the same where it is the level that is known
pub masks_known_at : (n : ℕ) (C : ℕ → Code) (i j : ℕ) → i ≡ j → (table : List ℕ) → table ≡ mask_table n (C j) → MasksOf n (C i) table
masks_known_at n C i j e = masks_known n (C i) (C j) (ap C e)
