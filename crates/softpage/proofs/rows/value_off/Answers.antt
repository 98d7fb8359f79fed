-- `softpage::rows::value_off` meets its contract: the digit is 0 or 1, and 7 - q is q with its three bits exchanged. Assumes nothing.
use mathlib.Core.Path.{◌≡◌, ap, ◌∙◌}
use Prim.Native.Nat.{ℕ, zero, suc, ◌+◌, ◌-◌, ◌*◌, ◌/◌, ◌%◌, ◌^◌, ◌≤◌, ◌<◌}
use native.Mathlib.Nat
use native.Mathlib.Omega.{arith}
use lib.Bits.{bit_xor, xor_zero_r, xor_add_and, and_mask}
use lib.Pow.{field, mod-mod-pow}
use Rattle.packing.specs.Packing.{digit}
use Rattle.concatenated.specs.Soft.{taken_off_by}
use Rattle.softpage.proofs.rows.value_off.Goals as goal

taken_off_lem : (b q : ℕ) → b < 2 → q ≤ 7 → bit_xor q (b * 7) ≡ taken_off_by b q
unfolding taken_off_by
taken_off_lem zero q hb hq = xor_zero_r q
taken_off_lem (suc zero) q hb hq = omega (arith, xor_add_and q 7, and_mask q 3)
taken_off_lem (suc (suc b)) q hb hq = absurd (omega arith)

-- a digit below the thirty-second is there after the cut
cut_digit : (w k : ℕ) → k < 32 → w % 4294967296 / 2 ^ k % 2 ≡ digit 2 k w
cut_digit w k h =
    let whole : 32 ≡ (1 + (31 - k)) + k = omega arith in
    ap (λ (n : ℕ). w % 2 ^ n / 2 ^ k % 2) whole
    ∙ ap (λ (x : ℕ). x % 2) (field w (1 + (31 - k)) k ∙ ap (λ (n : ℕ). w / 2 ^ k % 2 ^ n) (Nat.add_comm 1 (31 - k))) ∙ mod-mod-pow (w / 2 ^ k) (31 - k) 1

pub returns : goal.returns
returns c =
    let a = c.args in
    taken_off_lem _ _ (omega arith) c.requires.1 ∙ ap (λ (d : ℕ). taken_off_by d a.q) (cut_digit a.w (29 - a.p) (omega arith))
