use mathlib.Core.Path.{refl}
use mathlib.Core.Logic.{inl, inr}
use native.Mathlib.Omega.{arith}
use borrow.Author.Rules.{rules}
use Rattle.stack.specs.Places.{path_key, row_keys, Fit, Stands}
use Rattle.stack.proofs.KeyWays.{sunk_step, sunk_small, sunk_stands, sunk_weight}
use Rattle.stack.proofs.Stack.sink.Goals as goal
use Rattle.stack.proofs.Stack.sink.Goals.{After-rank-rank, After-put-2, else-loop-i-test, then-loop-i-test+then-child-rank}

fits : (c : After-rank-rank) → Fit (path_key c.args.path)
fits c = record { sum = record { sfits = search rules }; small = c.requires.small }

pub loop-i-preserved : goal.loop-i-preserved
loop-i-preserved c =
    let v = c.loop-i.invariant in
    let fx = fits (goal.at.loop-i-preserved c).After-rank-rank in
    let d = c.first_child-child.ensures in
    (v.0, v.1, sunk_small _ _ _ _ _ _ fx c.rank-rank.ensures v.3 _ _ c.put.ensures _ _ d c.get.ensures v.2, sunk_step _ _ _ _ _ _ fx c.rank-rank.ensures v.3 _ _ c.put.ensures _ _ d c.get.ensures c.if-child-rank.false)

stood : (c : After-put-2) → Stands (row_keys c.put-2.new.self) c.self.inside.paths
stood c =
    sunk_stands _ _ _ _ _ _ (fits (goal.at.returns c).After-rank-rank) c.rank-rank.ensures c.loop-i.invariant.3 _ c.put-2.ensures c.self.invariant.few c.self.invariant.small
    (elim c.loop-i-test.branch [ else-loop-i-test w ↦ inl (omega arith) | then-loop-i-test+then-child-rank w ↦ inr ((_, _, w.first_child-child.ensures, w.if-child-rank.true)) ])

pub invariant_of-self : goal.invariant_of-self
invariant_of-self c = rw c.loop-i.invariant.0 (stood c)

pub returns : goal.returns
returns c =
    rw (← c.self.view_is, c.loop-i.invariant.0)
    (record { paths = refl; heap = (stood c).heap; by_index = sunk_weight _ _ _ _ _ _ (fits (goal.at.returns c).After-rank-rank) c.rank-rank.ensures c.loop-i.invariant.3 _ c.put-2.ensures })
