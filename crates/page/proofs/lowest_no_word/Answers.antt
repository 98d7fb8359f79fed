use mathlib.Core.Bool.{Bool}
use mathlib.Core.List.{List, []}
use mathlib.Core.Path.{◌≡◌, refl, sym, ap₂, ◌∙◌}
use Prim.Native.Nat.{ℕ, ◌+◌, ◌-◌, ◌*◌, ◌<◌}
use lib.ListN.{get_or, take, drop}
use Rattle.reedsolomon.specs.Row.{is_codeword}
use Rattle.reedsolomon.specs.ShortRows.{short_roots}
use Rattle.reedsolomon.proofs.Answers.{word_is_of_symbols}
use Rattle.concatenated.specs.Format.{short_page}
use Rattle.concatenated.specs.Symbols.{rows_in}
use Rattle.concatenated.specs.OuterCode.{is_short_codeword}
use Rattle.concatenated.proofs.DataGroups.{row_cut_out, cut_out_row_is_a_word}
use Rattle.concatenated.proofs.Symbols.{as_many_rows_in, lowest_lies_above, lowest_is_here, lowest_is_none}
use native.Mathlib.Omega.{arith}
use Rattle.page.proofs.lowest_no_word.Goals as goal

-- the row of a level, as it is cut out; what is tested of it is whether it is a word
abbrev row_from : List ℕ → ℕ → List ℕ
row_from symbols level = take (level * 63 + 63 - level * 63) (drop (level * 63) symbols)

tested : (symbols : List ℕ) (level t : ℕ) (r : Bool) → level < 4 → t ≡ short_roots level → r ≡ is_codeword 6 67 63 t (row_from symbols level)
    → r ≡ is_short_codeword level (get_or (rows_in short_page symbols) level [])
unfolding is_short_codeword
tested symbols level t r h et e = e ∙ ap₂ (is_codeword 6 67 63) et (row_cut_out symbols level _ _ h refl refl)

pub loop-level-init : goal.loop-level-init
loop-level-init c = refl

pub is_codeword-requires : goal.is_codeword-requires
is_codeword-requires c =
    let symbols = c.args.symbols.now in
    let row = cut_out_row_is_a_word symbols c.requires c.loop-level.level _ _ c.loop-level-test.true refl refl in
    (row.0, word_is_of_symbols 6 63 (row_from symbols c.loop-level.level) row, c.roots.ensures.1)

pub returns-then-not-is_codeword : goal.returns-then-not-is_codeword
returns-then-not-is_codeword c =
    let h = c.loop-level-test.true in
    let symbols = c.args.symbols.now in
    let none = sym (tested symbols c.loop-level.level _ _ h c.roots.ensures.0 c.is_codeword.ensures) ∙ c.if-not-is_codeword.true in
    sym (c.loop-level.invariant ∙ lowest_is_here is_short_codeword (rows_in short_page symbols) c.loop-level.level (omega (arith, as_many_rows_in short_page symbols, h)) none)

pub loop-level-preserved : goal.loop-level-preserved
loop-level-preserved c =
    let h = c.loop-level-test.true in
    let symbols = c.args.symbols.now in
    let word = sym (tested symbols c.loop-level.level _ _ h c.roots.ensures.0 c.is_codeword.ensures) ∙ c.if-not-is_codeword.false in
    c.loop-level.invariant ∙ lowest_lies_above is_short_codeword (rows_in short_page symbols) c.loop-level.level (omega (arith, as_many_rows_in short_page symbols, h)) word

pub returns : goal.returns
returns c =
    let symbols = c.args.symbols.now in
    let last : c.loop-level.level ≡ 4 = omega (arith, c.loop-level-test.false, c.loop-level.auto.level-end) in
    sym (c.loop-level.invariant ∙ lowest_is_none is_short_codeword (rows_in short_page symbols) c.loop-level.level (omega (arith, as_many_rows_in short_page symbols, last)) ∙ last)
