use mathlib.Core.Path.{◌≡◌, ◌∙◌, subst}
use Prim.Native.Nat.{ℕ, ◌<◌}
use native.Mathlib.Omega.{arith}
use lib.IntN.{pos}
use lib.ListN.{get_or}
use mir.Syntax.{w16}
use mir.Val.{to_z}
use mir.Facts.{to_z-of_z}
use Rattle.search.proofs.Lowest.{min_is_lower}
use Rattle.list_of_two.proofs.Reading.{Added, added, ReadTo, read_none, read_next, read_all}
use Rattle.list_of_two.proofs.hard.HardTables.low_of_reading.Goals.{In-loop-k}
use Rattle.list_of_two.proofs.hard.HardTables.low_of_reading.Goals as goal

-- the value that a turn of the loop reads, and the entry that it adds
small : (t : In-loop-k) → get_or t.args.soft.now t.loop-k.k 0 < 8
small t = t.requires.by_index t.loop-k.k t.loop-k-test.true

sum_added : (t : In-loop-k) → (let q = get_or t.args.soft.now t.loop-k.k 0 in Added t.loop-k.k (to_z w16 t.loop-k.sum-bits) (get_or t.args.self.now.agreeing q (pos 0)))
sum_added t = added _ _ _ t.loop-k-test.true t.loop-k.invariant.0 (t.requires.by_index_2 _ (omega (arith, small t)))

pub loop-k-init : goal.loop-k-init
loop-k-init c = (omega arith, λ vs of. read_none vs _)

pub loop-k-preserved : goal.loop-k-preserved
loop-k-preserved c =
    let t = (goal.at.loop-k-preserved c).In-loop-k in
    rw c.from.ensures ((sum_added t).near, λ vs of. read_next _ _ vs of _ _ _ _ _ (small t) (sum_added t).is (to_z-of_z {w = w16} (record { sfits = c.min-low.type_inv }) ∙ (rw c.from.ensures at c.min-low.ensures.value) ∙ min_is_lower _ _) (c.loop-k.invariant.1 vs of))

pub returns : goal.returns
returns c =
    let all : c.loop-k.k ≡ 30 = omega (arith, c.loop-k.auto.k-end, c.loop-k-test.false) in
    λ vs of. read_all _ _ vs of (c.requires.by_index 0 (omega arith)) c.requires.by_index_2 _ _ (subst (λ (k : ℕ). ReadTo vs c.args.soft.now k (to_z w16 c.loop-k.sum-bits) (to_z w16 c.loop-k.low-bits)) all (c.loop-k.invariant.1 vs of))
