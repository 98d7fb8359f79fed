-- `chip::ChipStack::settle` meets its contract: by those of `enter` and `displace`. Assumes nothing.
use mathlib.Core.Path.{◌∙◌}
use native.Mathlib.Omega.{arith}
use Rattle.stack.specs.Places.{path_key}
use Rattle.chip.proofs.Placed.{many, settled_full, settled_in}
use Rattle.chip.proofs.ChipStack.settle.Goals as goal

pub displace-requires : goal.displace-requires
displace-requires c = many _ _ _ _ c.self.view_is ∙ c.if-self-eq63.true

pub enter-requires : goal.enter-requires
enter-requires c = omega (arith, many _ _ _ _ c.self.view_is, c.self.invariant.0, c.if-self-eq63.false)

pub returns-then-self-eq63 : goal.returns-then-self-eq63
returns-then-self-eq63 c = c.displace.ensures ∙ settled_full c.args.self.now.any_pushed_out (path_key c.args.path) c.args.self.now.stack (many _ _ _ _ c.self.view_is ∙ c.if-self-eq63.true)

pub returns-else-self-eq63 : goal.returns-else-self-eq63
returns-else-self-eq63 c =
    c.enter.ensures ∙ settled_in c.args.self.now.any_pushed_out (path_key c.args.path) c.args.self.now.stack (omega (arith, many _ _ _ _ c.self.view_is, c.self.invariant.0, c.if-self-eq63.false))
