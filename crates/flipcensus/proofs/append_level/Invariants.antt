-- `flipcensus::append_level` meets its contract. The loop's invariant: the lines of the numbers of ones passed stand one behind the other. Assumes nothing.
use Rattle.std.proofs.Common.{◌≡◌, ◌++◌}
use Rattle.flipcensus.specs.Text.{level_text}
use Rattle.flipcensus.proofs.append_level.Given as goal

abbrev pub invariant-loop-ones : goal.invariant-loop-ones
invariant-loop-ones l = l.text ≡ l.initial.text ++ level_text l.level l.ones
