-- `packing::column_bytes` meets its contract: each byte as a digit of the column and its two zeros. Assumes nothing.
use mathlib.Core.Path.{◌≡◌, sym, ap, ◌∙◌}
use mathlib.Core.List.{[], ◌∷◌}
use Prim.Native.Nat.{ℕ, ◌/◌, ◌*◌, ◌%◌, ◌^◌, ◌<◌}
use native.Mathlib.Nat.{div-one}
use native.Mathlib.Omega.{arith}
use lib.Bits.{bit_and, and_mask}
use Rattle.packing.specs.Packing.{column_bytes}
use Rattle.packing.proofs.Masked.{lowest_byte}
use Rattle.packing.proofs.column_bytes.Goals as goal

by_digits : (x : ℕ) → x < 2 ^ 30 → x / 4194304 ∷ bit_and (x / 16384) 255 ∷ bit_and (x / 64) 255 ∷ bit_and x 63 * 4 % 2 ^ 64 ∷ [] ≡ column_bytes x
by_digits x h =
    let e0 : x / 4194304 ≡ x * 4 / 256 ^ 3 % 256 = omega arith in
    let e1 : _ ≡ x * 4 / 256 ^ 2 % 256 = and_mask (x / 16384) 8 ∙ omega arith in
    let e2 : _ ≡ x * 4 / 256 ^ 1 % 256 = and_mask (x / 64) 8 ∙ omega arith in
    let e3 : _ ≡ x * 4 / 256 ^ 0 % 256 = lowest_byte x ∙ ap (λ (y : ℕ). y % 256) (sym (div-one (x * 4))) in
    λ i. e0 i ∷ e1 i ∷ e2 i ∷ e3 i ∷ []

pub returns : goal.returns
returns c = by_digits c.args.column c.requires
