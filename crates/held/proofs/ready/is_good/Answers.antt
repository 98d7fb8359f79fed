-- `held::ready::is_good` meets its contract. Assumes nothing.
use native.Mathlib.Nat.{div-eq_of_lt}
use Rattle.held.proofs.Testing.{refuted, below_least_is_not_good, good_exactly}
use native.Mathlib.Omega.{arith}
use borrow.Author.Rules.{rules}
use Rattle.held.proofs.ready.is_good.Goals as goal

pub returns-then-path-ne0 : goal.returns-then-path-ne0
returns-then-path-ne0 c = refuted (λ g. c.if-path-ne0.true (div-eq_of_lt g.small))

pub returns-then-path-most : goal.returns-then-path-most
returns-then-path-most c = refuted (below_least_is_not_good _ (omega arith) _ _ (record { sfits = search rules }) (rw c.from-most.ensures at c.if-path-most.true))

pub returns : goal.returns
returns c = rw c.from-most.ensures (good_exactly _ (omega arith) _ _ (record { sfits = search rules }) (rw c.from-most.ensures at c.if-path-most.false) c.if-path-ne0.false)
