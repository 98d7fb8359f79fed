-- `blocks::holds_value` meets its contract: each return rewrites with the tests that led there. Assumes nothing.
use Rattle.std.proofs.Common.{◌≤◌, ◌∙◌, arith, le-ltb, lt-ltb, le-leb}
use mathlib.Core.Logic.{⊎_elim}
use borrow.Author.Tests.{lt-leb}
use Rattle.dump.specs.Block.{holds_value}
use Rattle.blocks.proofs.holds_value.Goals as goal
use Rattle.blocks.proofs.holds_value.Goals.{then-k-ge16, else-k-ge16}

pub returns-then-k-lt496 : goal.returns-then-k-lt496
unfolding holds_value
returns-then-k-lt496 c = simp (le-ltb _ _ c.if-k-lt496.true.0, lt-leb _ _ c.if-k-lt496.true.1)

pub returns-else-k-lt496 : goal.returns-else-k-lt496
unfolding holds_value
returns-else-k-lt496 c = elim c.if-k-ge16.branch [
  | then-k-ge16 w ↦
      let above : 496 ≤ c.args.k = ⊎_elim (λ p. p.1) (λ l. absurd (omega (arith, l, w.if-k-ge16.true))) c.if-k-lt496.either in
      w.t-4-is ∙ simp (le-ltb _ _ above, le-ltb _ _ w.if-k-ge16.true, le-leb _ _ above)
  | else-k-ge16 w ↦ w.t-4-is ∙ simp (lt-leb _ _ w.if-k-ge16.false, lt-ltb _ _ w.if-k-ge16.false)
]
