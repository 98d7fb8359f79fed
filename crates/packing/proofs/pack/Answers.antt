-- `packing::pack` meets its contract: each byte as a sum of shifted digits. Assumes nothing.
use mathlib.Core.Path.{◌≡◌, sym, ap, ◌∙◌}
use mathlib.Core.List.{[], ◌∷◌}
use Prim.Native.Nat.{ℕ, ◌/◌, ◌<◌, ◌%◌, ◌*◌, ◌^◌}
use native.Mathlib.Omega.{arith}
use lib.Bits.{bit_and, bit_or}
use lib.ListN.{length}
use Rattle.packing.specs.Packing.{joined, bytes_of}
use Rattle.packing.proofs.Groups.{list_of_four}
use Rattle.packing.proofs.Masked.{shifted_or, masked_shifted_or}
use borrow.Author.Rules.{rules}
use Rattle.packing.proofs.pack.Goals as goal

by_digits : (s0 s1 s2 s3 : ℕ) → s0 < 64 → s1 < 64 → s2 < 64 → s3 < 64
    → bit_or (s0 * 4 % 256) (s1 / 16) ∷ bit_or (bit_and s1 15 * 16 % 256) (s2 / 4) ∷ bit_or (bit_and s2 3 * 64 % 256) s3 ∷ [] ≡ bytes_of (s0 ∷ s1 ∷ s2 ∷ s3 ∷ [])
unfolding joined
by_digits s0 s1 s2 s3 h0 h1 h2 h3 =
    let x : ℕ = joined 64 0 (s0 ∷ s1 ∷ s2 ∷ s3 ∷ []) in
    let e0 : _ ≡ x / 256 ^ 2 % 256 = shifted_or 8 2 s0 (s1 / 16) (omega arith) (omega arith) ∙ omega arith in
    let e1 : _ ≡ x / 256 ^ 1 % 256 = masked_shifted_or 8 4 4 s1 (s2 / 4) (omega arith) (omega arith) ∙ omega arith in
    let e2 : _ ≡ x / 256 ^ 0 % 256 = masked_shifted_or 8 6 2 s2 s3 (omega arith) (omega arith) ∙ omega arith in
    λ i. e0 i ∷ e1 i ∷ e2 i ∷ []

pub returns : goal.returns
returns c =
    let symbols = c.args.symbols in
    let long : length symbols ≡ 4 = search rules in
    let small = c.requires in
    by_digits _ _ _ _ (small 0 (omega arith)) (small 1 (omega arith)) (small 2 (omega arith)) (small 3 (omega arith)) ∙ ap bytes_of (sym (list_of_four symbols long))
