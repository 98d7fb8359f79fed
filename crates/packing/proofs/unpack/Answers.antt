-- `packing::unpack` meets its contract: each symbol as a sum of shifted digits. Assumes nothing.
use mathlib.Core.Path.{◌≡◌, sym, ap, ◌∙◌}
use mathlib.Core.List.{[], ◌∷◌}
use Prim.Native.Nat.{ℕ, ◌/◌, ◌<◌, ◌%◌, ◌*◌, ◌^◌}
use native.Mathlib.Omega.{arith}
use lib.Bits.{and_mask, bit_and, bit_or}
use Rattle.packing.specs.Packing.{joined, symbols_of}
use Rattle.packing.proofs.Groups.{list_of_three}
use Rattle.packing.proofs.Masked.{masked_shifted_or}
use borrow.Author.Rules.{rules}
use Rattle.packing.proofs.unpack.Goals as goal

by_digits : (b0 b1 b2 : ℕ) → b0 < 256 → b1 < 256 → b2 < 256
    → b0 / 4 ∷ bit_or (bit_and b0 3 * 16 % 256) (b1 / 16) ∷ bit_or (bit_and b1 15 * 4 % 256) (b2 / 64) ∷ bit_and b2 63 ∷ [] ≡ symbols_of (b0 ∷ b1 ∷ b2 ∷ [])
unfolding joined
by_digits b0 b1 b2 h0 h1 h2 =
    let x : ℕ = joined 256 0 (b0 ∷ b1 ∷ b2 ∷ []) in
    let e0 : b0 / 4 ≡ x / 64 ^ 3 % 64 = omega arith in
    let e1 : _ ≡ x / 64 ^ 2 % 64 = masked_shifted_or 8 4 2 b0 (b1 / 16) (omega arith) (omega arith) ∙ omega arith in
    let e2 : _ ≡ x / 64 ^ 1 % 64 = masked_shifted_or 8 2 4 b1 (b2 / 64) (omega arith) (omega arith) ∙ omega arith in
    let e3 : _ ≡ x / 64 ^ 0 % 64 = and_mask b2 6 ∙ omega arith in
    λ i. e0 i ∷ e1 i ∷ e2 i ∷ e3 i ∷ []

pub returns : goal.returns
returns c =
    let bytes = c.args.bytes in
    by_digits _ _ _ c.element_fits.fits c.element_fits2.fits c.element_fits3.fits ∙ ap symbols_of (sym (list_of_three bytes (search rules)))
