-- 02, point 1: the thresholds that a call may be given: −2,000 to 2,000. Assumes nothing.
use mathlib.Core.Bool.{true, false, not, and-true, true≢false}
use mathlib.Core.Logic.{◌↔◌}
use mathlib.Core.Path.{◌≡◌, sym, ap, ◌∙◌}
use Prim.Native.Nat.{◌≤◌, ◌<◌}
use native.Mathlib.Decide.{dec_le}
use native.Mathlib.Omega.{arith}
use lib.Dec.{ltb}
use lib.IntN.{ℤ, pos, negsuc, nat_abs}
use borrow.Author.Tests.{le-ltb, ltb-false, not-true}
use Rattle.paths.proofs.Booleans.{is_false}
use Rattle.trellis.specs.TwoWords.{on, threshold_allowed}

-- 02: "threshold outside −2,000..2,000" is turned away, and no other
pub threshold_is_allowed_exactly : (t : ℤ) → (threshold_allowed (on t) ≡ true) ↔ (nat_abs t ≤ 2000)
threshold_is_allowed_exactly (pos n) = (λ e. ltb-false 2000 n (not-true (ltb 2000 n) e), λ h. ap not (le-ltb 2000 n h))
threshold_is_allowed_exactly (negsuc n) = (
  λ e. let few : n ≤ 1999 = ltb-false 1999 n (not-true (ltb 1999 n) (sym (and-true (not (ltb 1999 n))) ∙ e)) in omega (arith, few),
  λ h. let few : n ≤ 1999 = omega (arith, h) in and-true (not (ltb 1999 n)) ∙ ap not (le-ltb 1999 n few),
)

pub threshold_is_refused_exactly : (t : ℤ) → (threshold_allowed (on t) ≡ false) ↔ (2000 < nat_abs t)
threshold_is_refused_exactly t = (λ e. go e (dec_le (nat_abs t) 2000), λ l. is_false (threshold_allowed (on t)) (λ e. absurd (omega (arith, l, (threshold_is_allowed_exactly t).0 e))))
  where
    go : threshold_allowed (on t) ≡ false → Dec (nat_abs t ≤ 2000) → 2000 < nat_abs t
    go e (yes l) = absurd (true≢false (sym ((threshold_is_allowed_exactly t).1 l) ∙ e))
    go e (no l) = omega arith
