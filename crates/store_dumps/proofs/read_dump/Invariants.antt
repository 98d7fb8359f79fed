-- `store_dumps::read_dump` meets its contract. The loop's invariant: the blocks passed answer 7 and 8 with yes. Assumes nothing.
use mathlib.Core.Path.{◌≡◌}
use Prim.Native.Nat.{ℕ, ◌<◌}
use Rattle.questions.specs.Answer.{done}
use Rattle.store_dumps.specs.Dumps.{ask_block}
use Rattle.store_dumps.proofs.read_dump.Given as goal

abbrev pub invariant-loop-b : goal.invariant-loop-b
invariant-loop-b l = (a : ℕ) → a < l.b → ask_block l.dump a done ≡ done
