-- `stack::Path::stands_before` meets its contract. By the first of sum and length in which the two differ. Assumes nothing.
use mathlib.Core.Path.{ap, ◌∙◌, sym}
use mir.Syntax.{w16}
use mir.Val.{of_z}
use borrow.Author.Rules.{rules}
use Rattle.stack.specs.Places.{path_key}
use Rattle.stack.proofs.KeyOrder.{by_sum, by_len, by_bits}
use Rattle.stack.proofs.Sums.{one_sum, lt_back}
use Rattle.stack.proofs.Path.stands_before.Goals as goal

pub returns-then-self-other : goal.returns-then-self-other
returns-then-self-other c =
    lt_back c.args.other.sum c.args.self.sum (record { sfits = search rules }) (record { sfits = search rules })
    ∙ sym (by_sum (path_key c.args.self) (path_key c.args.other) (λ e. c.if-self-other.true (ap (of_z w16) e)))

pub returns-then-self-other-2 : goal.returns-then-self-other-2
returns-then-self-other-2 c =
    sym (by_len (path_key c.args.self) (path_key c.args.other) (one_sum (record { sfits = search rules }) (record { sfits = search rules }) c.if-self-other.false) c.if-self-other-2.true)

pub returns : goal.returns
returns c =
    sym (by_bits (path_key c.args.self) (path_key c.args.other) (one_sum (record { sfits = search rules }) (record { sfits = search rules }) c.if-self-other.false) c.if-self-other-2.false)
