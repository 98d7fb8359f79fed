-- What the tests of a held search find out, both ways. Assumes nothing.
use Prim.Native.Nat.{ℕ, zero, suc, ◌+◌, ◌*◌, ◌/◌, ◌^◌, ◌≤◌, ◌<◌}
use native.Mathlib.Nat.{eq-or-lt_of_le}
use native.Mathlib.Omega.{arith}
use mathlib.Core.Bool.{Bool, true, false, not, true≢false}
use mathlib.Core.Logic.{◌⊎◌, inl, inr, ◌↔◌}
use mathlib.Core.Path.{◌≡◌, refl, sym, ap, ap₂, ◌∙◌, subst⁻¹}
use lib.IntN.{ℤ, pos, negsuc, neg_ℤ, nat_abs, +ℤ_idl, ◌-ℤ◌, ◌*ℤ◌}
use lib.ListN.{length}
use lib.Signed.{lt_z, le_z}
use mir.Syntax.{w16}
use mir.Val.{SFits, to_z, of_z}
use mir.Facts.{to_z-of_z}
use borrow.Author.Tests.{ltb-false, le-ltb, leb-true, le-leb, not-true}
use Rattle.poly.proofs.Remainder.{small_of_div}
use Rattle.questions.specs.Questions.{first_above}
use Rattle.questions.proofs.FirstAbove.{below_first}
use Rattle.questions.proofs.AllInRange.{no_value_above}
use Rattle.trellis.specs.Keys.{key}
use Rattle.stack.proofs.Sums.{near_fits, lt_flag}
use Rattle.extension.specs.Steps.{Good}
use Rattle.held.specs.Entry.{last_of, paths_of}
use Rattle.held.specs.State.{Placed, Ready}
use Rattle.held.specs.declared.Held.{Held}

-- ---- a test's outcome

-- a test that came out false, of what is not so
pub refuted : {P : Type 0} → (P → ⊥) → (false ≡ true) ↔ P
refuted n = (λ e. absurd (true≢false (sym e)), λ p. absurd (n p))

-- a test that came out true, of what is so
pub shown : {P : Type 0} → P → (true ≡ true) ↔ P
shown p = (λ e. p, λ q. refl)

-- what a test denies is not so
pub fails : {P : Type 0} {t : Bool} → (t ≡ true) ↔ P → not t ≡ true → P → ⊥
fails so n p = true≢false (sym (so.1 p) ∙ not-true _ n)

-- ---- a good key

-- more than 30 bits are too many
pub too_long_is_not_good : (s : ℤ) (l b : ℕ) → 30 < l → (false ≡ true) ↔ Good 30 (key s l b)
too_long_is_not_good s l b long = refuted (λ g. omega (arith, g.short))

-- within m of zero is not below -m
near_is_not_below : (z : ℤ) (m : ℕ) → nat_abs z ≤ m → lt_z z (neg_ℤ (pos m)) ≡ false
near_is_not_below (pos n) zero h = le-ltb n 0 (omega arith)
near_is_not_below (pos n) (suc m) h = refl
near_is_not_below (negsuc n) zero h = absurd (omega arith)
near_is_not_below (negsuc n) (suc m) h = le-ltb m n (omega arith)

-- and what is not below -m is within m of zero if it is at most m
near_exactly : (z : ℤ) (m : ℕ) → lt_z z (neg_ℤ (pos m)) ≡ false → (le_z z (pos m) ≡ true) ↔ (nat_abs z ≤ m)
near_exactly (pos n) m low = (leb-true n m, le-leb n m)
near_exactly (negsuc n) zero low = absurd (true≢false low)
near_exactly (negsuc n) (suc m) low = (λ e. omega (arith, ltb-false m n low), λ h. refl)

-- the size of -n
size_of_negative : (n : ℕ) → nat_abs (neg_ℤ (pos n)) ≡ n
size_of_negative zero = refl
size_of_negative (suc n) = refl

-- 60 for each of l bits, and its negative, as the code reckons them
module _ (l : ℕ) (short : l ≤ 30) where
  abbrev most : ℤ
  most = to_z w16 l *ℤ pos 60

  abbrev least : ℤ
  least = pos 0 -ℤ to_z w16 (of_z w16 most)

  most_is : most ≡ pos (l * 60)
  most_is = ap (λ (z : ℤ). z *ℤ pos 60) (to_z-of_z (near_fits (pos l) (omega arith)))

  pub most_fits : SFits w16 most
  most_fits = subst⁻¹ (SFits w16) most_is (near_fits (pos (l * 60)) (omega arith))

  most_back : to_z w16 (of_z w16 most) ≡ pos (l * 60)
  most_back = to_z-of_z most_fits ∙ most_is

  least_is : least ≡ neg_ℤ (pos (l * 60))
  least_is = ap (λ (z : ℤ). pos 0 -ℤ z) most_back ∙ +ℤ_idl (neg_ℤ (pos (l * 60)))

  pub least_fits : SFits w16 least
  least_fits = subst⁻¹ (SFits w16) least_is (near_fits (neg_ℤ (pos (l * 60))) (omega (arith, size_of_negative (l * 60))))

  -- the code's two tests of a sum
  module _ (s : ℤ) (b : ℕ) (fits : SFits w16 s) where
    low_flag : {t : Bool} → lt_z (to_z w16 (of_z w16 s)) (to_z w16 (of_z w16 least)) ≡ t → lt_z s (neg_ℤ (pos (l * 60))) ≡ t
    low_flag e = ap (lt_z s) (sym least_is) ∙ lt_flag s least fits least_fits e

    pub below_least_is_not_good : lt_z (to_z w16 (of_z w16 s)) (to_z w16 (of_z w16 least)) ≡ true → Good 30 (key s l b) → ⊥
    below_least_is_not_good e g = true≢false (sym (low_flag e) ∙ near_is_not_below s (l * 60) (omega (arith, g.near)))

    pub good_exactly : lt_z (to_z w16 (of_z w16 s)) (to_z w16 (of_z w16 least)) ≡ false → b / 2 ^ l ≡ 0 → (le_z (to_z w16 (of_z w16 s)) (to_z w16 (of_z w16 most)) ≡ true) ↔ Good 30 (key s l b)
    good_exactly low none =
        let near = near_exactly s (l * 60) (low_flag low) in
        let same : le_z (to_z w16 (of_z w16 s)) (to_z w16 (of_z w16 most)) ≡ le_z s (pos (l * 60)) = ap₂ le_z (to_z-of_z fits) most_back in (
          λ e. record { short = short; small = small_of_div l b none; near = omega (arith, near.0 (sym same ∙ e)) },
          λ g. same ∙ near.1 (omega (arith, g.near)),
        )

-- ---- places one after the other

-- one place more
pub one_more : (P : ℕ → Type 0) (j : ℕ) → ((k : ℕ) → k < j → P k) → P j → (k : ℕ) → k < j + 1 → P k
one_more P j all here k h = go (eq-or-lt_of_le {n = k} {m = j} (omega arith))
  where
    go : (k ≡ j) ⊎ (k < j) → P k
    go (inl e) = subst⁻¹ P e here
    go (inr l) = all k l

-- ---- a search that can go on

module _ (h : Held) (full : length h.column ≡ 30) where
  -- no value of its column is above 7
  pub ready_range : Ready h → 30 ≤ first_above h.column 7
  ready_range r = leb-true 30 (first_above h.column 7) (no_value_above h.column 30 7 full r.range)

  -- by the tests of its parts
  pub ready_exactly : (t : Bool) → h.level < 4 → 30 ≤ first_above h.column 7 → h.paths ≤ h.limit → Good 30 (last_of h)
      → (t ≡ true) ↔ ((j : ℕ) → j < h.paths → Placed (paths_of h) j) → (t ≡ true) ↔ Ready h
  ready_exactly t level range few good all = (
    λ e. record {
      level = level;
      full = full;
      range = λ k l. below_first h.column 7 k (omega arith);
      standing = record { few = few; heap = record { order = λ j k l. (all.0 e j l).order k }; held = λ j l. (all.0 e j l).held; good = good };
    },
    λ r. all.1 (λ j l. record { held = r.standing.held j l; order = λ k. r.standing.heap.order j k l }),
  )
