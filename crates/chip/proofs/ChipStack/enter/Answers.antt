use Prim.Native.Nat.{◌+◌}
use mathlib.Core.List.{List}
use Rattle.trellis.specs.Keys.{Key}
use mathlib.Core.Logic.{inl, inr}
use mathlib.Core.Path.{◌≡◌, refl, sym, ap, ◌∙◌, subst⁻¹}
use native.Mathlib.Omega.{arith}
use Rattle.paths.specs.Bounded.{bounded}
use Rattle.heap.specs.Holds.{Ordered}
use Rattle.stack.specs.Places.{path_key, row_keys, Upto}
use Rattle.chip.specs.Places.{listed, placed}
use Rattle.chip.proofs.Placed.{many, ordered_placed}
use Rattle.chip.proofs.Insertion.{moved_start, moved_step, moved_end}
use Rattle.chip.proofs.ChipStack.enter.Goals as goal
use Rattle.chip.proofs.ChipStack.enter.Goals.{After-put-2, else-loop-i-test, then-loop-i-test+then-not-stands_before}

pub loop-i-init : goal.loop-i-init
loop-i-init c = (refl, moved_start _ _ _)

pub loop-i-preserved : goal.loop-i-preserved
loop-i-preserved c =
    let v = c.loop-i.invariant in
    (v.0, moved_step _ _ _ _ _ v.1 _ _ c.loop-i-test.true c.get-below.ensures (sym c.stands_before.ensures ∙ c.if-not-stands_before.false) c.put.ensures)

came : (c : After-put-2) → listed (row_keys c.put-2.new.self) (c.self.inside.paths + 1) ≡ placed (path_key c.args.path) (listed (row_keys c.self.inside.row) c.self.inside.paths)
came c =
    moved_end _ _ _ _ _ c.loop-i.invariant.1 _ c.put-2.ensures
    (elim c.loop-i-test.branch [
      | else-loop-i-test w ↦ inl (omega arith)
      | then-loop-i-test+then-not-stands_before w ↦ inr ((_, w.get-below.ensures, sym w.stands_before.ensures ∙ w.if-not-stands_before.true))
    ])

pub invariant_of-self : goal.invariant_of-self
invariant_of-self c =
    let p = (goal.at.invariant_of-self c).After-put-2 in (
      omega (arith, c.requires, many _ _ _ _ c.self.view_is),
      subst⁻¹ (Ordered Upto) (came p) (ordered_placed _ _ c.self.invariant.1),
    )

pub returns : goal.returns
returns c = rw (← c.self.view_is, c.loop-i.invariant.0) (ap (λ (l : List Key). bounded l c.self.inside.pushed) (came (goal.at.returns c).After-put-2))
