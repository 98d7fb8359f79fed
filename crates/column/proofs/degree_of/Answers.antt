-- `column::degree_of` meets its contract: what the levels above take of a column. Assumes nothing.
use native.Mathlib.Omega.{arith}
use Rattle.column.specs.Shape.{degree}
use Rattle.column.proofs.degree_of.Goals as goal

pub returns : goal.returns
unfolding degree
returns c = omega arith
