use Prim.Native.Nat.{ℕ}
use mathlib.Core.Bool.{true}
use mathlib.Core.List.{List}
use mathlib.Core.Logic.{inl, inr}
use mathlib.Core.Path.{◌≡◌, refl, sym, ap, ap₂, ◌∙◌, subst, subst⁻¹}
use native.Mathlib.Omega.{arith}
use lib.ListN.{take}
use Rattle.paths.specs.Bounded.{bounded}
use Rattle.heap.specs.Holds.{Ordered}
use Rattle.trellis.specs.Keys.{Key, key_before}
use Rattle.stack.specs.Places.{path_key, row_keys, Upto}
use Rattle.chip.specs.Places.{listed, placed}
use Rattle.chip.proofs.Placed.{many, ordered_placed, ordered_take}
use Rattle.chip.proofs.Insertion.{lowered_start, lowered_step, lowered_end, placed_last}
use Rattle.chip.proofs.ChipStack.displace.Goals as goal
use Rattle.chip.proofs.ChipStack.displace.Goals.{After-put-2, else-loop-i-test, then-loop-i-test+then-stands_before-2}

pub loop-i-init : goal.loop-i-init
loop-i-init c =
    (refl, refl, lowered_start _ _ 63 (omega arith) (ap (λ (k : Key). key_before k (path_key c.args.path)) (sym c.get.ensures) ∙ sym c.stands_before.ensures ∙ c.if-stands_before.false))

pub loop-i-preserved : goal.loop-i-preserved
loop-i-preserved c =
    let v = c.loop-i.invariant in
    (v.0, v.1, lowered_step _ _ _ _ _ v.2 _ _ (omega (arith, c.loop-i-test.true)) c.get-above.ensures (sym c.stands_before-in-loop-i.ensures ∙ c.if-stands_before-2.false) c.put.ensures)

pub returns-then-stands_before : goal.returns-then-stands_before
returns-then-stands_before c =
    let full = sym (many _ _ _ _ c.self.view_is) ∙ c.requires in
    rw (← c.self.view_is)
    (ap (λ (l : List Key). bounded l true) (subst⁻¹ (λ (n : ℕ). listed (row_keys c.self.inside.row) n ≡ take 63 (placed (path_key c.args.path) (listed (row_keys c.self.inside.row) n))) full
    (placed_last _ _ 63 (subst (λ (n : ℕ). Ordered Upto (listed (row_keys c.self.inside.row) n)) full c.self.invariant.1) (ap (λ (k : Key). key_before k (path_key c.args.path)) (sym c.get.ensures) ∙ sym c.stands_before.ensures ∙ c.if-stands_before.true))))

lowered : (c : After-put-2) → listed (row_keys c.put-2.new.self) c.loop-i.self-inside.paths ≡ take 63 (placed (path_key c.args.path) (listed (row_keys c.self.inside.row) c.self.inside.paths))
lowered c =
    let full = sym (many _ _ _ _ c.self.view_is) ∙ c.requires in
    rw (c.loop-i.invariant.0)
    (subst⁻¹ (λ (n : ℕ). listed (row_keys c.put-2.new.self) n ≡ take 63 (placed (path_key c.args.path) (listed (row_keys c.self.inside.row) n))) full
    (lowered_end _ _ _ _ _ c.loop-i.invariant.2 _ c.put-2.ensures (subst (λ (n : ℕ). Ordered Upto (listed (row_keys c.self.inside.row) n)) full c.self.invariant.1)
    (elim c.loop-i-test.branch [
      | else-loop-i-test w ↦ inl (omega (arith, w.loop-i-test.false))
      | then-loop-i-test+then-stands_before-2 w ↦ inr ((_, w.get-above.ensures, sym w.stands_before-in-loop-i.ensures ∙ w.if-stands_before-2.true))
    ])))

pub invariant_of-self-2 : goal.invariant_of-self-2
invariant_of-self-2 c = (omega (arith, c.loop-i.invariant.0, c.self.invariant.0), subst⁻¹ (Ordered Upto) (lowered c) (ordered_take 63 _ (ordered_placed _ _ c.self.invariant.1)))

pub returns : goal.returns
returns c = rw (← c.self.view_is) (ap₂ bounded (lowered c) c.loop-i.invariant.1)
