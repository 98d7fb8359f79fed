-- `measured::chip_searches::search_all` meets its contract. The loop's invariant: the first j columns are searched. Assumes nothing.
use Rattle.std.proofs.Common.{◌≡◌}
use Rattle.measured.specs.Folds.{folded_columns, chip_number}
use Rattle.measured.proofs.chip_searches.search_all.Given as goal

abbrev pub invariant-loop-j : goal.invariant-loop-j
invariant-loop-j l = l.fold ≡ folded_columns (chip_number l.level l.limit) l.soft l.j
