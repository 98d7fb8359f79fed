-- `softpage::look::load` meets its contract: the first j columns are those of the page. Assumes nothing.
use Rattle.concatenated.proofs.Filling.{Front}
use Rattle.concatenated.specs.Format.{short_page}
use Rattle.concatenated.specs.SoftPage.{soft_columns}
use Rattle.softpage.proofs.look.load.Given as goal

abbrev pub invariant-loop-j : goal.invariant-loop-j
invariant-loop-j l = Front (soft_columns short_page l.soft) l.work 63 l.j
