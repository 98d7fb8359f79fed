-- `column::masks::right_masks` meets its contract: each table computes to the masks. Assumes nothing.
use mathlib.Core.Path.{refl}
use native.Mathlib.Omega.{arith}
use Rattle.poly.specs.Polynomial.{add, scale, product_in, product, reduced, remainder_in, remainder}
use Rattle.column.specs.Shape.{short}
use Rattle.column.specs.Tabulated.{tabulated}
use Rattle.column.proofs.MaskTable.{residues, mask_by, mask_table, masks_known_at}
use Rattle.column.proofs.masks.right_masks.Goals as goal

pub returns-in-0 : goal.returns-in-0
unfolding mask_table tabulated mask_by residues product product_in remainder remainder_in reduced scale add
returns-in-0 c = masks_known_at 30 (λ i. (short.supercodes i).right) c.args.level 0 (omega arith) _ refl

pub returns-in-1 : goal.returns-in-1
unfolding mask_table tabulated mask_by residues product product_in remainder remainder_in reduced scale add
returns-in-1 c = masks_known_at 30 (λ i. (short.supercodes i).right) c.args.level 1 (omega arith) _ refl

pub returns-in-2 : goal.returns-in-2
unfolding mask_table tabulated mask_by residues product product_in remainder remainder_in reduced scale add
returns-in-2 c = masks_known_at 30 (λ i. (short.supercodes i).right) c.args.level 2 (omega arith) _ refl

pub returns-in_default : goal.returns-in_default
unfolding mask_table tabulated mask_by residues product product_in remainder remainder_in reduced scale add
returns-in_default c = masks_known_at 30 (λ i. (short.supercodes i).right) c.args.level 3 (omega arith) _ refl
