-- `correction::differs` meets its contract: the column is not erased and the symbols differ. Assumes nothing.
use mathlib.Core.Path.{◌≡◌, sym, ap, ◌∙◌}
use mathlib.Core.Bool.{Bool, not}
use native.Mathlib.Decide.{ℕ_discrete}
use Prim.Native.Nat.{ℕ}
use mir.Val.{bool_byte}
use lib.Dec.{eqb}
use borrow.Author.Tests.{eq-eqb, ne_eqb}
use Rattle.reedsolomon.specs.Words.{wrong, unequal}
use Rattle.correction.proofs.differs.Goals as goal
use Rattle.correction.proofs.differs.Goals.{then-mark-ne1, else-mark-ne1}

byte_of_unequal : (a b : ℕ) (d : Dec (a ≡ b)) → bool_byte (not (eqb a b)) ≡ unequal d
unfolding unequal
byte_of_unequal a b (yes p) = ap (λ (x : Bool). bool_byte (not x)) (eq-eqb a b p)
byte_of_unequal a b (no p) = ap (λ (x : Bool). bool_byte (not x)) (ne_eqb a b p)

pub returns : goal.returns
unfolding wrong
returns c =
    let a = c.args in
    let same = ℕ_discrete a.a a.b in
    c.from.ensures ∙ elim c.if-mark-ne1.branch [
      | then-mark-ne1 w ↦ ap bool_byte w.from-is ∙ byte_of_unequal a.a a.b same ∙ ap (λ (x : Bool). wrong x same) (sym (ne_eqb a.mark 1 w.if-mark-ne1.true))
      | else-mark-ne1 w ↦ let erased = eq-eqb a.mark 1 w.if-mark-ne1.false in ap bool_byte w.from-is ∙ ap (λ (x : Bool). bool_byte (not x)) erased ∙ ap (λ (x : Bool). wrong x same) (sym erased)
    ]
