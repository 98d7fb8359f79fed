use mathlib.Core.Path.{◌≡◌, ap, ◌∙◌}
use mathlib.Core.Logic.{inl, inr, ⊎_elim}
use mathlib.Core.List.{List}
use Prim.Native.Nat.{ℕ, suc, ◌+◌, ◌-◌}
use Rattle.poly.proofs.Sum.{lt_or_le}
use Rattle.reedsolomon.specs.Row.{symbol}
use Rattle.reedsolomon.proofs.PowerTable.{locator_in_table}
use native.Mathlib.Omega.{arith}
use Rattle.syndromes.proofs.powers.locators.Goals as goal

pub returns : goal.returns
returns c = λ j l.
    let e : 62 - j + suc j ≡ 63 = omega arith in
    c.loop-i.invariant.1.at j (omega arith) (⊎_elim (λ u. inl (omega arith)) (λ u. inr (omega arith)) (lt_or_le j 32))
    ∙ ap (λ (a : List ℕ). symbol a (62 - j)) c.powers-all.ensures ∙ locator_in_table 6 67 63 (62 - j) j e
