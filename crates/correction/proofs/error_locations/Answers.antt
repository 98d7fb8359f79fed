-- `correction::error_locations` meets its contract: what its steps ensure, put together. Assumes nothing.
use mathlib.Core.Path.{ap}
use Prim.Native.Nat.{ℕ, ◌-◌, ◌/◌}
use Rattle.field.proofs.Short.{field64}
use Rattle.reedsolomon.proofs.Correcting.{locations_by_locator}
use native.Mathlib.Omega.{arith}
use Rattle.correction.proofs.error_locations.Goals as goal

pub returns : goal.returns
returns c =
    let s = c in
    let a = s.args in
    let m = c.modify_syndromes in
    let f = c.locator_polynomial-degree in
    let values = c.all_values-values in
    locations_by_locator 6 67 field64 63 a.t 33 a.marks.now a.s m.new.s f.result.row values.result c.locations.result
    ((a.t - a.n) / 2) f.result.degree (ap (λ (x : ℕ). (a.t - x) / 2) s.requires.3) (omega (arith, s.requires.1)) m.ensures f.ensures.0 f.ensures.1
    values.ensures c.locations.ensures
