-- `blocks::body_byte` meets its contract: each return rewrites with what `holds_value` and `fixed_byte` gave. Assumes nothing.
use Rattle.std.proofs.Common.{sym, ◌∙◌, arith}
use Rattle.dump.specs.Block.{body_byte}
use Rattle.dump.proofs.Places.{value_there}
use Rattle.blocks.proofs.body_byte.Goals as goal

pub overflow_sub-result : goal.overflow_sub-result
overflow_sub-result c =
    let there = value_there _ _ (sym c.holds_value.ensures ∙ c.if-holds_value.true) in
    omega arith

pub overflow_add-result : goal.overflow_add-result
overflow_add-result c =
    let there = value_there _ _ (sym c.holds_value.ensures ∙ c.if-holds_value.true) in
    omega arith

pub bounds-soft-b : goal.bounds-soft-b
bounds-soft-b c =
    let told = c in
    let there = value_there _ _ (sym told.holds_value.ensures ∙ told.if-holds_value.true) in
    omega arith

pub returns-then-holds_value : goal.returns-then-holds_value
unfolding body_byte
returns-then-holds_value c =
    let told = c in
    simp (sym told.holds_value.ensures ∙ told.if-holds_value.true)

pub returns-else-holds_value : goal.returns-else-holds_value
unfolding body_byte
returns-else-holds_value c =
    let told = c in
    simp (sym told.holds_value.ensures ∙ told.if-holds_value.false, c.fixed_byte.ensures)
