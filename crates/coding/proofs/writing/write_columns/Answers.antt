use mathlib.Core.Path.{◌∙◌, subst⁻¹}
use mathlib.Core.List.{[], ◌∷◌}
use Rattle.column.specs.Shape.{short}
use Rattle.column.specs.Level.{column_of}
use Prim.Native.Nat.{ℕ, ◌<◌}
use Rattle.concatenated.proofs.Filling.{front_none}
use Rattle.concatenated.specs.Format.{short_page}
use Rattle.concatenated.proofs.Encoding.{page_in_bytes_length}
use Rattle.concatenated.proofs.PageBytes.{column_more, column_in_range}
use native.Mathlib.Omega.{arith}
use Rattle.coding.proofs.writing.write_columns.Goals as goal

pub loop-j-init : goal.loop-j-init
loop-j-init c = front_none _ _ 252 (page_in_bytes_length short_page _) c.requires.1

pub column_bytes-b-requires : goal.column_bytes-b-requires
column_bytes-b-requires c =
    let words = c.requires.0.words in
    let small = λ (i : ℕ) (h : i < 4). (words i h).1 c.loop-j.j c.loop-j-test.true in
    subst⁻¹ (λ (w : ℕ). w < 1073741824) c.encode-w.ensures
    (column_in_range _ _ _ _ (omega (arith, small 0 (omega arith))) (omega (arith, small 1 (omega arith))) (omega (arith, small 2 (omega arith))) (omega (arith, small 3 (omega arith))))

pub loop-j-preserved : goal.loop-j-preserved
loop-j-preserved c =
    let turn = c in
    let start = turn in
    column_more _ _ turn.loop-j.j c.encode-w.result c.column_bytes-b.result start.requires.0.four c.loop-j-test.true turn.loop-j.invariant
    (c.encode-w.ensures ∙ (λ i. column_of short (c.from.ensures i ∷ c.from-in-loop-j.ensures i ∷ c.from-in-loop-j-2.ensures i ∷ c.from-in-loop-j-3.ensures i ∷ []))) c.column_bytes-b.ensures
