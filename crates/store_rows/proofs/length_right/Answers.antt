-- `store_rows::length_right` meets its contract. Assumes nothing.
use borrow.Author.Tests.{le-leb, lt-leb}
use Rattle.store_rows.specs.Rows.{length_right}
use Rattle.store_rows.proofs.length_right.Goals as goal

pub returns-then-level-ge4 : goal.returns-then-level-ge4
unfolding length_right
returns-then-level-ge4 c = simp (le-leb _ _ c.if-level-ge4.true)

pub returns-else-level-ge4 : goal.returns-else-level-ge4
unfolding length_right
returns-else-level-ge4 c = simp (lt-leb _ _ c.if-level-ge4.false, c.roots.ensures.0)
