use mathlib.Core.Path.{◌∙◌}
use native.Mathlib.Omega.{arith}
use Rattle.census.proofs.Behind.{at_most_2^30, none_left, no_room}
use Rattle.census.proofs.+count_from.Goals as goal

pub returns-then-ones-eq0 : goal.returns-then-ones-eq0
returns-then-ones-eq0 t c = c.search_one.ensures ∙ none_left c.args.level c.args.column c.args.from c.requires.1 c.args.ones c.if-ones-eq0.true

pub add-requires : goal.add-requires
add-requires t c =
    let first = at_most_2^30 _ _ _ _ (omega arith) c.count_from-with.ensures in
    let second = at_most_2^30 _ _ _ _ (omega arith) c.count_from-without.ensures in
    (omega (arith, first.0, second.0), omega (arith, first.1, second.1), omega (arith, first.2, second.2))

pub returns : goal.returns
returns t c = let none = c.default.ensures in rw (none.0, none.1.0, none.1.1) (no_room c.args.level c.args.column c.args.from c.requires.1 c.args.ones c.if-ones-eq0.false (omega arith))
