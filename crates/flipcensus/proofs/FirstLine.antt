-- 02, point 14: "the first line is `level 0 ones 0 zero 1 other 0 spent 0`". Assumes nothing.
use mathlib.Core.List.{List, [], ◌++◌, append_assoc, append-nil}
use mathlib.Core.Path.{◌≡◌, sym, ap, ◌∙◌}
use Prim.Native.Nat.{ℕ}
use native.Mathlib.Omega.{arith}
use Rattle.census.specs.declared.Totals.{Totals}
use Rattle.census.proofs.Census.{no_flips_end_in_the_zero_word}
use Rattle.listing.specs.Text.{ascii, decimal_in}
use Rattle.listing.specs.Lines.{census_line}
use Rattle.flipcensus.specs.Text.{line_of, level_text, text_below, census_text}

module _ (line : List ℕ) where
  abbrev Begins : List ℕ → Type 0
  Begins text = (rest : List ℕ) × (text ≡ line ++ rest)

  -- more text behind it
  and_more : {text : List ℕ} (more : List ℕ) → Begins text → Begins (text ++ more)
  and_more more (rest, e) = (rest ++ more, ap (λ (l : List ℕ). l ++ more) e ∙ append_assoc line rest more)

abbrev due : List ℕ
due = ascii "level 0 ones 0 zero 1 other 0 spent 0\n"

line_is_due : line_of 0 0 ≡ due
unfolding line_of census_line ascii decimal_in
line_is_due = ap (λ (t : Totals). census_line 0 0 t.zero t.other t.spent) (no_flips_end_in_the_zero_word 0 (omega arith))

-- the output begins with it
pub first_line : (rest : List ℕ) × (census_text ≡ ascii "level 0 ones 0 zero 1 other 0 spent 0\n" ++ rest)
unfolding text_below level_text
first_line =
    let level_0 = and_more due (line_of 0 3) (and_more due (line_of 0 2) (and_more due (line_of 0 1) ([], line_is_due ∙ sym (append-nil due)))) in
    and_more due (level_text 3 4) (and_more due (level_text 2 4) (and_more due (level_text 1 4) level_0))
