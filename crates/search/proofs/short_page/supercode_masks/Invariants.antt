-- `search::short_page::supercode_masks` meets its contract: the masks of the levels below the one in turn are there. Assumes nothing.
use Rattle.search.specs.Outcomes.{SupercodesBelow}
use Rattle.search.proofs.short_page.supercode_masks.Given as goal

abbrev pub invariant-loop-level : goal.invariant-loop-level
invariant-loop-level l = SupercodesBelow l.level l.masks
