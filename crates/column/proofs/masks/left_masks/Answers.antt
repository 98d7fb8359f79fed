-- `column::masks::left_masks` meets its contract: each table computes to the masks; two levels share one. Assumes nothing.
use mathlib.Core.Path.{◌≡◌, refl}
use Prim.Native.Nat.{ℕ, zero, suc, ◌<◌, ◌≤◌}
use native.Mathlib.Omega.{arith}
use Rattle.poly.specs.Polynomial.{add, scale, product_in, product, reduced, remainder_in, remainder}
use Rattle.column.specs.Shape.{short}
use Rattle.column.specs.Tabulated.{tabulated}
use Rattle.column.proofs.MaskTable.{residues, mask_by, mask_table, masks_known}
use Rattle.column.proofs.masks.left_masks.Goals as goal

low : (i : ℕ) → i < 2 → (short.supercodes i).left ≡ (short.supercodes 0).left
low zero h = refl
low (suc zero) h = refl
low (suc (suc i)) h = absurd (omega arith)

high : (i : ℕ) → 2 ≤ i → (short.supercodes i).left ≡ (short.supercodes 2).left
high zero h = absurd (omega arith)
high (suc zero) h = absurd (omega arith)
high (suc (suc zero)) h = refl
high (suc (suc (suc i))) h = refl

pub returns-then-level-lt2 : goal.returns-then-level-lt2
unfolding mask_table tabulated mask_by residues product product_in remainder remainder_in reduced scale add
returns-then-level-lt2 c = masks_known 30 _ _ (low c.args.level (omega arith)) _ refl

pub returns-else-level-lt2 : goal.returns-else-level-lt2
unfolding mask_table tabulated mask_by residues product product_in remainder remainder_in reduced scale add
returns-else-level-lt2 c = masks_known 30 _ _ (high c.args.level (omega arith)) _ refl
