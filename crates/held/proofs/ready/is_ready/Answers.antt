-- `held::ready::is_ready` meets its contract: each test of the chain, by the one behind it. Assumes nothing.
use mathlib.Core.Bool.{true≢false}
use mathlib.Core.Path.{◌≡◌, sym, ◌∙◌, subst, subst⁻¹}
use Prim.Native.Nat.{◌≤◌}
use lib.ListN.{length}
use borrow.Author.Tests.{le-ltb, leb-true, le-leb}
use Rattle.extension.specs.Steps.{Good}
use Rattle.questions.specs.Questions.{first_above}
use Rattle.held.proofs.Testing.{refuted, ready_range, ready_exactly}
use native.Mathlib.Omega.{arith}
use borrow.Author.Rules.{rules}
use Rattle.held.proofs.ready.is_ready.Goals.{then-held-lt4, else-held-lt4, then-first_above-ge30, else-first_above-ge30, then-held, else-held}
use Rattle.held.proofs.ready.is_ready.Goals as goal

pub returns-then-is_good : goal.returns-then-is_good
returns-then-is_good c =
    let h = c.args.held.now in
    let full : length h.column ≡ 30 = search rules in
    elim c.if-held.branch [
      | then-held w ↦
          let good = subst (Good 30) w.last_taken.ensures (w.is_good.ensures.0 (sym w.value-is ∙ c.if-is_good.true)) in
          elim c.if-first_above-ge30.branch [
            | then-first_above-ge30 x ↦
                let few : h.paths ≤ h.limit = leb-true _ _ (sym x.value-is ∙ w.if-held.true) in
                elim c.if-held-lt4.branch [
                  | then-held-lt4 y ↦
                      let range : 30 ≤ first_above h.column 7 = subst (λ (t : _). 30 ≤ t) y.first_above.ensures (leb-true _ _ (sym y.value-is ∙ x.if-first_above-ge30.true)) in
                      ready_exactly h full c.all_placed.result y.if-held-lt4.true range few good c.all_placed.ensures
                  | else-held-lt4 y ↦ absurd (true≢false (sym x.if-first_above-ge30.true ∙ y.value-is ∙ le-ltb _ 4 (omega (arith, y.if-held-lt4.false))))
                ]
            | else-first_above-ge30 x ↦ absurd (true≢false (sym w.if-held.true ∙ x.value-is ∙ x.if-first_above-ge30.false))
          ]
      | else-held w ↦ absurd (true≢false (sym c.if-is_good.true ∙ w.value-is ∙ w.if-held.false))
    ]

pub returns-else-is_good : goal.returns-else-is_good
returns-else-is_good c =
    let h = c.args.held.now in
    let full : length h.column ≡ 30 = search rules in (
      λ e. absurd (true≢false (sym e ∙ c.if-is_good.false)),
      λ r. absurd (elim c.if-held.branch [
        | then-held w ↦ true≢false (sym (w.is_good.ensures.1 (subst⁻¹ (Good 30) w.last_taken.ensures r.standing.good)) ∙ sym w.value-is ∙ c.if-is_good.false)
        | else-held w ↦ elim c.if-first_above-ge30.branch [
          | then-first_above-ge30 x ↦ true≢false (sym (le-leb _ _ r.standing.few) ∙ sym x.value-is ∙ w.if-held.false)
          | else-first_above-ge30 x ↦ elim c.if-held-lt4.branch [
            | then-held-lt4 y ↦
                let range = subst⁻¹ (λ (t : _). 30 ≤ t) y.first_above.ensures (ready_range h full r) in
                true≢false (sym (le-leb _ _ range) ∙ sym y.value-is ∙ x.if-first_above-ge30.false)
            | else-held-lt4 y ↦ omega (arith, y.if-held-lt4.false, r.level)
          ]
        ]
      ]),
    )
