-- `flipcensus::census_text` meets its contract. The loop's invariant: the lines of the levels passed stand one behind the other. Assumes nothing.
use Rattle.std.proofs.Common.{◌≡◌}
use Rattle.flipcensus.specs.Text.{text_below}
use Rattle.flipcensus.proofs.census_text.Given as goal

abbrev pub invariant-loop-level : goal.invariant-loop-level
invariant-loop-level l = l.text ≡ text_below l.level
