-- `outer::decode` meets its contract: what its steps ensure, and the law of the final check. Assumes nothing.
use mathlib.Core.Path.{◌≡◌, sym, ◌∙◌}
use mathlib.Core.List.{List}
use Prim.Native.Nat.{ℕ}
use lib.Dec.{lit<}
use lib.ListN.{length, replicate}
use Rattle.field.proofs.Short.{primitive64}
use Rattle.reedsolomon.specs.Row.{symbol, Symbols, outer_answer}
use Rattle.reedsolomon.specs.Steps.{Padded, WrittenAt}
use Rattle.reedsolomon.proofs.Marks.{wrongs_at_most}
use Rattle.reedsolomon.proofs.Deciding.{decoded_found, decoded_none, padded_row, codeword_by_syndromes, syndromes_by_codeword, too_many_erased, check_is_passed, row_is_the_answer, check_is_failed, answer_for_row}
use native.Mathlib.Omega.{arith}
use Rattle.outer.proofs.decode.Goals as goal

-- the received row in the longer list
row_padded : (symbols row : List ℕ) → length symbols ≡ 63 → Symbols 6 symbols → WrittenAt 0 63 (symbol symbols) (replicate 64 0) row → Padded 6 63 row
row_padded symbols row n inside written = padded_row 6 63 64 symbols row n inside written (lit< tt)

-- the answer is the same for both
answer_as : (t : ℕ) (symbols row marks : List ℕ) → WrittenAt 0 63 (symbol symbols) (replicate 64 0) row → outer_answer 6 67 63 t symbols marks ≡ outer_answer 6 67 63 t row marks
answer_as t symbols row marks written = sym (answer_for_row 6 67 63 t 64 symbols row marks written)

pub returns-then-t-n : goal.returns-then-t-n
returns-then-t-n c =
    let s = c in
    decoded_none _ _ (too_many_erased 6 67 63 s.args.t primitive64 (lit< tt) s.args.symbols.now s.args.marks.now (omega (arith, c.number-n.ensures)))

pub syndromes-s-requires : goal.syndromes-s-requires
syndromes-s-requires c = (omega arith, omega (arith, c.requires.4), row_padded _ _ c.requires.0 c.requires.3 c.put.ensures)

pub returns-then-all_zero : goal.returns-then-all_zero
returns-then-all_zero c =
    let e = c in
    let s = e in
    let a = s.args in
    let f = c.syndromes-s in
    let out = c.put-then-all_zero in
    decoded_found _ _ _
    (answer_as _ _ _ a.marks.now e.put.ensures
    ∙ row_is_the_answer 6 67 63 a.t primitive64 (lit< tt) e.put.new.b a.marks.now a.out.now out.new.b (row_padded _ _ e.requires.0 e.requires.3 e.put.ensures)
    (codeword_by_syndromes 6 67 63 a.t primitive64 (lit< tt) e.put.new.b a.marks.now e.put.new.b f.result f.ensures
    (c.all_zero.ensures.yes c.if-all_zero.true))
    (omega (arith, e.number-n.ensures, e.if-t-n.false)) (out.auto.b ∙ s.requires.2) out.ensures)

pub corrected-requires : goal.corrected-requires
corrected-requires c =
    let e = c in
    let s = e in
    (omega (arith, s.requires.1), s.requires.4, e.if-t-n.false, e.number-n.ensures, row_padded _ _ e.requires.0 e.requires.3 e.put.ensures, c.syndromes-s.ensures)

pub overflow_mul-e : goal.overflow_mul-e
overflow_mul-e c =
    let f = c in
    let e = f in
    let s = e in
    omega (arith, c.wrong-e.ensures, wrongs_at_most s.args.marks.now e.put.new.b f.corrected.result.symbols 63)

pub overflow_add-e : goal.overflow_add-e
overflow_add-e c =
    let f = c in
    let e = f in
    let s = e in
    omega (arith, c.wrong-e.ensures, wrongs_at_most s.args.marks.now e.put.new.b f.corrected.result.symbols 63, e.if-t-n.false, s.requires.4)

pub returns-then-e-n : goal.returns-then-e-n
returns-then-e-n c =
    let f = c in
    let e = f in
    let s = e in
    let a = s.args in
    let v = f.corrected in
    let out = c.put-then-e-n in
    decoded_found _ _ _
    (answer_as _ _ _ a.marks.now e.put.ensures
    ∙ check_is_passed 6 67 63 a.t primitive64 (lit< tt) e.put.new.b a.marks.now v.result.symbols a.out.now out.new.b v.ensures.0.padded
    (codeword_by_syndromes 6 67 63 a.t primitive64 (lit< tt) e.put.new.b a.marks.now v.result.symbols v.result.syndromes v.ensures.1
    (c.all_zero-2.ensures.yes c.if-all_zero-2.true))
    (omega (arith, c.if-e-n.true, c.wrong-e.ensures, e.number-n.ensures)) (out.auto.b ∙ s.requires.2) out.ensures)

pub returns-else-e-n : goal.returns-else-e-n
returns-else-e-n c =
    let f = c in
    let e = f in
    let s = e in
    let a = s.args in
    let v = f.corrected in
    decoded_none _ _
    (answer_as _ _ _ a.marks.now e.put.ensures
    ∙ check_is_failed 6 67 63 a.t primitive64 (lit< tt) e.put.new.b a.marks.now v.result.symbols (row_padded _ _ e.requires.0 e.requires.3 e.put.ensures) v.ensures.0
    (λ code reach. absurd (omega (arith, reach, c.if-e-n.false, c.wrong-e.ensures, e.number-n.ensures))))

pub returns-else-all_zero-2 : goal.returns-else-all_zero-2
returns-else-all_zero-2 c =
    let f = c in
    let e = f in
    let s = e in
    let a = s.args in
    let v = f.corrected in
    decoded_none _ _
    (answer_as _ _ _ a.marks.now e.put.ensures
    ∙ check_is_failed 6 67 63 a.t primitive64 (lit< tt) e.put.new.b a.marks.now v.result.symbols (row_padded _ _ e.requires.0 e.requires.3 e.put.ensures) v.ensures.0
    (λ code reach. c.all_zero-2.ensures.no c.if-all_zero-2.false
    (syndromes_by_codeword 6 67 63 a.t primitive64 (lit< tt) e.put.new.b a.marks.now v.result.symbols v.result.syndromes v.ensures.1 code)))
