-- `chip::ChipStack::take_next` meets its contract. Assumes nothing.
use mathlib.Core.Path.{refl, ap}
use native.Mathlib.Omega.{arith}
use Rattle.stack.specs.Places.{row_keys}
use Rattle.chip.specs.Places.{listed}
use Rattle.chip.proofs.Placed.{standing_of, first_out, rest_ordered}
use Rattle.chip.proofs.ChipStack.take_next.Goals as goal

pub returns-then-self-eq0 : goal.returns-then-self-eq0
unfolding listed
returns-then-self-eq0 c =
    let none = ap (listed (row_keys c.self.inside.row)) c.if-self-eq0.true in
    rw (← c.self.view_is) (record { standing = standing_of _ _ c.self.inside.pushed _ refl c.self.invariant.0 c.self.invariant.1; first = (none, none); pushed = refl })

pub invariant_of-self : goal.invariant_of-self
invariant_of-self c = (omega (arith, c.self.invariant.0), rest_ordered _ _ (omega (arith, c.if-self-eq0.false)) c.self.invariant.1)

pub returns : goal.returns
returns c =
    rw (← c.self.view_is)
    (record { standing = standing_of _ _ c.self.inside.pushed _ refl c.self.invariant.0 c.self.invariant.1; first = first_out _ _ _ (omega (arith, c.if-self-eq0.false)) c.get.ensures; pushed = refl })
