-- `listing::Text::append_levels` meets its contract. The loop's invariant: the lines of the levels passed stand behind what was there. Assumes nothing.
use Rattle.std.proofs.Common.{◌≡◌, ◌++◌}
use Rattle.listing.specs.Lines.{level_lines}
use Rattle.listing.proofs.Text.append_levels.Given as goal

abbrev pub invariant-loop-level : goal.invariant-loop-level
invariant-loop-level g l = l.self ≡ l.initial.self ++ level_lines l.level l.changed l.changed_marks l.erased l.erased_marks
