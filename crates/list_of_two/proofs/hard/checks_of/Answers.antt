use mathlib.Core.Path.{refl, ap₂, ◌∙◌, subst⁻¹}
use Prim.Native.Nat.{ℕ, ◌+◌, ◌*◌, ◌^◌, ◌≤◌, ◌<◌}
use Rattle.poly.specs.Polynomial.{remainder}
use Rattle.column.proofs.Short.{level_degree, level_room}
use Rattle.list_of_two.proofs.Checked.{made_below, twice_below, none_made, one_more_made, all_made}
use native.Mathlib.Omega.{arith}
use Rattle.list_of_two.proofs.hard.checks_of.Goals.{In-loop-k}
use Rattle.list_of_two.proofs.hard.checks_of.Goals as goal

-- what a turn doubles
small : (t : In-loop-k) → (t.loop-k.rest < 16777216) × (t.loop-k.x ≤ 1073741824)
small t = made_below _ t.requires _ _ _ _ (t.loop-k.invariant _)

pub loop-k-init : goal.loop-k-init
loop-k-init c = λ h. none_made _ h _ refl

pub overflow_mul-checks : goal.overflow_mul-checks
overflow_mul-checks c = record { fits = omega (arith, (small (goal.at.overflow_mul-checks c).In-loop-k).0) }

pub overflow_add-checks : goal.overflow_add-checks
overflow_add-checks c = record { fits = omega (arith, (small (goal.at.overflow_add-checks c).In-loop-k).0, (small (goal.at.overflow_add-checks c).In-loop-k).1) }

pub overflow_mul-x : goal.overflow_mul-x
overflow_mul-x c = record { fits = omega (arith, (small (goal.at.overflow_mul-x c).In-loop-k).1) }

pub overflow_mul-rest : goal.overflow_mul-rest
overflow_mul-rest c = record { fits = omega (arith, (small (goal.at.overflow_mul-rest c).In-loop-k).0) }

pub remainder-rest-requires : goal.remainder-rest-requires
remainder-rest-requires c =
    let level = c.requires in
    let ed = c.degree_of-d.ensures in record {
      k_bound = omega (arith, level_room _ _ level ed);
      w_bound = subst⁻¹ (λ (t : ℕ). c.loop-k.rest * 2 < 2 ^ (t + 1)) ed (twice_below _ level _ _ _ _ (c.loop-k.invariant level));
      degree = level_degree _ _ _ level ed c.generator-g.ensures;
    }

pub loop-k-preserved : goal.loop-k-preserved
loop-k-preserved c = λ h. one_more_made _ h _ _ _ _ _ c.loop-k-test.true c.loop-k.auto.k (c.loop-k.invariant h)
    (c.remainder-rest.ensures ∙ ap₂ (λ (d g : ℕ). remainder d g (c.loop-k.rest * 2)) c.degree_of-d.ensures c.generator-g.ensures)

pub returns : goal.returns
returns c = all_made _ _ _ _ _ _ (omega arith) (c.loop-k.invariant c.requires)
