-- `chip::ChipStack::crowds` meets its contract. Assumes nothing.
use mathlib.Core.Bool.{Bool, ◌&&◌}
use mathlib.Core.Path.{sym, ap, ◌∙◌}
use lib.Dec.{eqb}
use lib.ListN.{get_or}
use borrow.Author.Tests.{eq-eqb, ne_eqb}
use Rattle.chip.proofs.Placed.{many}
use Rattle.chip.proofs.ChipStack.crowds.Goals as goal

pub returns-then-self-eq63 : goal.returns-then-self-eq63
returns-then-self-eq63 c =
    c.unchecked.ensures
    ∙ sym (ap (λ (b : Bool). b && (eqb (get_or c.args.trellis.now.left.now c.args.path.len 0) 0 && eqb (get_or c.args.trellis.now.right.now c.args.path.len 0) 0)) (eq-eqb _ 63 (many _ _ _ _ c.self.view_is ∙ c.if-self-eq63.true)))

pub returns-else-self-eq63 : goal.returns-else-self-eq63
returns-else-self-eq63 c =
    ne_eqb _ 63 c.if-self-eq63.false
    ∙ sym (ap (λ (b : Bool). b && (eqb (get_or c.args.trellis.now.left.now c.args.path.len 0) 0 && eqb (get_or c.args.trellis.now.right.now c.args.path.len 0) 0)) (ne_eqb _ 63 (λ e. c.if-self-eq63.false (sym (many _ _ _ _ c.self.view_is) ∙ e))))
