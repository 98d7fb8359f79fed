-- `blocks::fixed_right` meets its contract: what its two calls gave is the whole test. Assumes nothing.
use Rattle.std.proofs.Common.{◌≡◌, true, false, sym, ◌∙◌}
use Rattle.dump.specs.Parts.{fixed_from}
use Rattle.dump.proofs.FixedParts.{fixed_in_parts}
use Rattle.blocks.proofs.fixed_right.Goals as goal

pub returns-then-fixed_from : goal.returns-then-fixed_from
returns-then-fixed_from c =
    let block = c.args.block.now in
    let b = c.args.b in
    let front : fixed_from block b 0 16 ≡ true = sym c.fixed_from.ensures ∙ c.if-fixed_from.true in
    simp (fixed_in_parts block b c.requires.1, front, c.fixed_from-then-fixed_from.ensures, c.values_of-values.ensures)

pub returns-else-fixed_from : goal.returns-else-fixed_from
returns-else-fixed_from c =
    let block = c.args.block.now in
    let b = c.args.b in
    let front : fixed_from block b 0 16 ≡ false = sym c.fixed_from.ensures ∙ c.if-fixed_from.false in
    simp (fixed_in_parts block b c.requires.1, front) c.if-fixed_from.false
