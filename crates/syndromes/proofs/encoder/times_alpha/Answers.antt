-- `syndromes::encoder::times_alpha` meets its contract: the law of one step, at ten symbols; the code's numbers are computed to be the law's. Assumes nothing.
use mathlib.Core.Path.{◌≡◌, refl, ap, ◌∙◌, subst⁻¹}
use Prim.Native.Nat.{ℕ, ◌*◌, ◌/◌, ◌%◌, ◌^◌, ◌≤◌}
use native.Mathlib.Omega.{arith}
use lib.Bits.{bit_and, bit_xor, and_le_r, xor_lt}
use Rattle.syndromes.specs.Packed.{TimesAlpha}
use Rattle.syndromes.proofs.TimesAlpha.{repeated, stepped, each_times_α}
use Rattle.syndromes.proofs.encoder.times_alpha.Goals as goal

-- by a mask of all bits but the top ones, a mask of the lowest ones, and α + 1
by_law : (w rests lowest low : ℕ) → rests ≡ repeated 31 10 → lowest ≡ repeated 1 10 → low ≡ 3 → TimesAlpha w (bit_xor (bit_and w rests * 2 ^ 1 % 2 ^ 64) (bit_and (w / 2 ^ 5) lowest * low))
unfolding stepped
by_law w rests lowest low er el e =
    subst⁻¹ (TimesAlpha w) ((λ i. bit_xor (bit_and w (er i) * 2 ^ 1 % 2 ^ 64) (bit_and (w / 2 ^ 5) (el i) * e i)) ∙ ap (λ (t : ℕ). bit_xor t (top * 3)) fits)
    (record { small = xor_lt 60 (rest * 2) (top * 3) (omega (arith, rest_le)) (omega (arith, top_le)); each = λ i l. each_times_α 10 w i l })
  where
    rest : ℕ
    rest = bit_and w (repeated 31 10)

    top : ℕ
    top = bit_and (w / 2 ^ 5) (repeated 1 10)

    rest_le : rest ≤ 567310581631940575
    rest_le = unfold repeated in and_le_r w (repeated 31 10)

    top_le : top ≤ 18300341342965825
    top_le = unfold repeated in and_le_r (w / 2 ^ 5) (repeated 1 10)

    fits : rest * 2 ^ 1 % 2 ^ 64 ≡ rest * 2
    fits = omega (arith, rest_le)

pub returns : goal.returns
unfolding repeated
returns c = by_law c.args.w _ _ _ refl refl refl
