use mathlib.Core.Path.{◌≡◌, refl, sym, ◌∙◌}
use Prim.Native.Nat.{ℕ, ◌≤◌, ◌<◌}
use lib.ListN.{length, length-set, get_or, get_or-eq_default}
use mathlib.Core.List.{List}
use native.Mathlib.Decide.{dec_le}
use native.Mathlib.Nat.{mod-eq_of_lt}
use Rattle.held.proofs.Widths.{one_more_filled}
use native.Mathlib.Omega.{arith}
use borrow.Author.Rules.{rules}
use Rattle.held.proofs.narrowed.Goals as goal

pub loop-k-init : goal.loop-k-init
loop-k-init c = (refl, λ j h. absurd (omega arith))

pub loop-k-preserved : goal.loop-k-preserved
loop-k-preserved c =
    let i = c.loop-k in
    let bits = c.args.bits.now in
    let full : length i.narrow ≡ 2002 = i.invariant.0 in (
      length-set i.narrow _ _ ∙ full,
      one_more_filled (λ j v. get_or bits j 0 < 4294967296 → v ≡ get_or bits j 0) i.narrow i.k _ (omega (arith, full, c.loop-k-test.true)) i.invariant.1 mod-eq_of_lt,
    )

pub returns : goal.returns
returns c = record { same = λ j. go j (dec_le 2002 j) }
  where
    bits : List ℕ
    bits = c.args.bits.now

    narrow : List ℕ
    narrow = c.loop-k.narrow

    from : length bits ≡ 2002
    from = search rules

    go : (j : ℕ) → Dec (2002 ≤ j) → get_or bits j 0 < 4294967296 → get_or narrow j 0 ≡ get_or bits j 0
    go j (yes l) h = get_or-eq_default narrow 0 {n = j} (omega (arith, c.loop-k.invariant.0)) ∙ sym (get_or-eq_default bits 0 {n = j} (omega (arith, from)))
    go j (no l) h = c.loop-k.invariant.1 j (omega (arith, c.loop-k-test.false)) h
