-- `softpage::sets::mark_of` meets its contract: the mark is that of the first j columns. Assumes nothing.
use mathlib.Core.Path.{◌≡◌}
use mathlib.Core.List.{map}
use lib.ListN.{take}
use Rattle.concatenated.specs.Flags.{is_one}
use Rattle.concatenated.specs.Marks.{mark_of}
use Rattle.softpage.proofs.sets.mark_of.Given as goal

abbrev pub invariant-loop-j : goal.invariant-loop-j
invariant-loop-j l = l.mark ≡ mark_of (take l.j (map is_one l.flags))
