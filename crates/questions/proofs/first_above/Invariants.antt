-- `questions::first_above` meets its contract. The loop's invariant: the first bad value is none of those passed. Assumes nothing.
use Rattle.std.proofs.Common.{◌≡◌, ◌+◌, drop}
use Rattle.questions.specs.Questions.{first_above}
use Rattle.questions.proofs.first_above.Given as goal

abbrev pub invariant-loop-i : goal.invariant-loop-i
invariant-loop-i l = first_above l.s l.top ≡ l.i + first_above (drop l.i l.s) l.top
