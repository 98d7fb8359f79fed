use Prim.Native.Nat.{ℕ, ◌+◌}
use lib.IntN.{ℤ}
use lib.ListN.{length}
use mathlib.Core.Bool.{true, false}
use mathlib.Core.List.{List}
use mathlib.Core.Path.{◌≡◌, sym, ap, ◌∙◌}
use Rattle.paths.specs.Listings.{Verdict, wrong}
use Rattle.trellis.specs.Values.{Values}
use Rattle.trellis.specs.Keys.{key_nodes}
use Rattle.extension.specs.Steps.{Given, TableOf, table_nodes}
use Rattle.checker.specs.Judging.{code_verdict, judged_keys}
use Rattle.checker.proofs.Loop.{judging_start, follows_the_answer, ended, no_path, wrong_line, right_line, contract}
use native.Mathlib.Omega.{arith}
use borrow.Author.Tests.{eq-eqb, ne_eqb}
use Rattle.checker.proofs.judge.Goals as goal

-- what the contract says of the verdict of the judge on keys
told : (n : ℕ) (table : List ℤ) (soft left right lengths numbers : List ℕ) → Given n soft left right table → (w : Verdict) → judged_keys (table_nodes n table soft left right) lengths numbers ≡ w
    → (vs : Values) → TableOf vs table → code_verdict w ≡ code_verdict (judged_keys (key_nodes n vs soft left right) lengths numbers)
told n table soft left right lengths numbers g w e vs tb = contract n table soft left right lengths numbers vs g tb _ (ap code_verdict (sym e))

pub loop-k-init : goal.loop-k-init
loop-k-init c =
    let t = c.args.trellis.now in
    rw c.clear.ensures (judging_start t.n t.values.now t.col.now t.left.now t.right.now c.args.lengths.now c.args.numbers.now c.requires.given.some _)

pub returns-then-last-trellis : goal.returns-then-last-trellis
unfolding code_verdict
returns-then-last-trellis c =
    let t = c.args.trellis.now in
    told t.n t.values.now t.col.now t.left.now t.right.now _ _ c.requires.given _ (follows_the_answer t.n t.values.now t.col.now t.left.now t.right.now _ _ _ _ _ _ c.loop-k.invariant c.loop-k-test.true c.if-last-trellis.true)

pub advance-requires : goal.advance-requires
advance-requires c =
    let j = c.loop-k.invariant in
    record { room = omega (arith, j.standing.few, c.loop-k-test.true, c.requires.lines.few); given = c.requires.given; good = j.standing.good; every = j.standing.held }

pub returns-in_default : goal.returns-in_default
unfolding code_verdict
returns-in_default c =
    let t = c.args.trellis.now in
    told t.n t.values.now t.col.now t.left.now t.right.now _ _ c.requires.given _ (no_path t.n t.values.now t.col.now t.left.now t.right.now _ _ _ _ _ _ c.loop-k.invariant _ _ c.loop-k-test.true c.if-last-trellis.false c.in_default.ensures)

pub returns-then-not-names : goal.returns-then-not-names
unfolding code_verdict
returns-then-not-names c =
    let t = c.args.trellis.now in
    told t.n t.values.now t.col.now t.left.now t.right.now _ _ c.requires.given _
    (wrong_line t.n t.values.now t.col.now t.left.now t.right.now _ _ _ _ _ _ c.loop-k.invariant _ _ c.loop-k-test.true c.if-last-trellis.false _ c.in-Some.ensures (sym c.names.ensures ∙ c.if-not-names.true))

pub loop-k-preserved : goal.loop-k-preserved
loop-k-preserved c =
    let t = c.args.trellis.now in
    right_line t.n t.values.now t.col.now t.left.now t.right.now _ _ _ _ _ _ c.loop-k.invariant _ _ c.loop-k-test.true c.if-last-trellis.false _ c.in-Some.ensures (sym c.names.ensures ∙ c.if-not-names.false)

pub returns-then-last-trellis-2 : goal.returns-then-last-trellis-2
unfolding code_verdict
returns-then-last-trellis-2 c =
    let t = c.args.trellis.now in
    told t.n t.values.now t.col.now t.left.now t.right.now _ _ c.requires.given _ (ended t.n t.values.now t.col.now t.left.now t.right.now _ _ _ _ _ _ c.loop-k.invariant c.loop-k-test.false true (eq-eqb _ _ c.if-last-trellis-2.true))

pub returns : goal.returns
unfolding code_verdict
returns c =
    let t = c.args.trellis.now in
    let all : c.loop-k.k ≡ length c.args.lengths.now = omega (arith, c.loop-k-test.false, c.loop-k.auto.k-end) in
    told t.n t.values.now t.col.now t.left.now t.right.now _ _ c.requires.given _
    (ended t.n t.values.now t.col.now t.left.now t.right.now _ _ _ _ _ _ c.loop-k.invariant c.loop-k-test.false false (ne_eqb _ _ c.if-last-trellis-2.false) ∙ ap (λ (k : ℕ). wrong (k + 1)) all)
