-- `measured::search_all` meets its contract. The loop's invariant: the first j columns are searched. Assumes nothing.
use Rattle.std.proofs.Common.{◌≡◌, ℕ, ◌<◌, is_some}
use Rattle.trellis.specs.Demand.{Search}
use Rattle.search.specs.Outcomes.{TablesFor}
use Rattle.list_of_two.specs.Hard.{HardFor}
use Rattle.list_of_two.specs.Ways.{choice_of}
use Rattle.measured.specs.Folds.{folded_columns, searched_number}
use Rattle.measured.proofs.search_all.Given as goal

abbrev pub invariant-loop-j : goal.invariant-loop-j
invariant-loop-j l = (s : Search) (i : ℕ) → i < 4 → TablesFor s i l.tables.left l.tables.right l.tables.values → HardFor (is_some l.way.threshold) i l.tables.values l.hard.checks l.hard.agreeing → l.fold ≡ folded_columns (searched_number (choice_of l.way) s i l.way.limit) l.soft l.j
