-- `softpage::sets::changed_mark` meets its contract: the mark is that of the changed ones among the first j columns. Assumes nothing.
use mathlib.Core.Path.{◌≡◌}
use mathlib.Core.List.{map}
use lib.ListN.{take}
use Rattle.concatenated.specs.Decode.{changed}
use Rattle.concatenated.specs.Flags.{is_one}
use Rattle.concatenated.specs.Marks.{mark_of}
use Rattle.softpage.proofs.sets.changed_mark.Given as goal

abbrev pub invariant-loop-j : goal.invariant-loop-j
invariant-loop-j l = l.mark ≡ mark_of (take l.j (changed l.symbols (map is_one l.erased) l.row))
