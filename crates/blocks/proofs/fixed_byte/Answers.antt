-- `blocks::fixed_byte` meets its contract: each arm rewrites with the test that led there. Assumes nothing.
use Rattle.std.proofs.Common.{refl, ne_eqb, rules}
use Rattle.dump.specs.Block.{fixed_byte}
use Rattle.blocks.proofs.fixed_byte.Goals as goal

pub returns-in-0 : goal.returns-in-0
unfolding fixed_byte
returns-in-0 c = rw c.in-0.is refl

pub returns-in-1 : goal.returns-in-1
unfolding fixed_byte
returns-in-1 c = rw c.in-1.is refl

pub returns-in-2 : goal.returns-in-2
unfolding fixed_byte
returns-in-2 c = rw c.in-2.is refl

pub returns-in_default : goal.returns-in_default
unfolding fixed_byte
returns-in_default c = simp (ne_eqb c.args.k 0 (search rules), ne_eqb c.args.k 1 (search rules), ne_eqb c.args.k 2 (search rules))
