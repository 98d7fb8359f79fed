-- `station::write_marks` meets its contract: the marks of the levels passed stand behind the first 12 bytes. Assumes nothing.
use Rattle.station.proofs.Marking.{Marking}
use Rattle.station.proofs.write_marks.Given as goal

abbrev pub invariant-loop-level : goal.invariant-loop-level
invariant-loop-level l = Marking l.initial.out l.changed l.erased l.out l.level
