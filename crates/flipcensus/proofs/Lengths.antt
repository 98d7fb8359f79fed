-- How long the text is at most. Assumes nothing.
use Rattle.std.proofs.Common.{ℕ, zero, suc, ◌*◌, ◌≤◌, length, arith, length-append}
use Rattle.census.specs.Census.{census}
use Rattle.listing.proofs.Lengths.{census_line_length}
use Rattle.flipcensus.specs.Text.{line_of, level_text, text_below}

line_of_length : (level ones : ℕ) → length (line_of level ones) ≤ 133
unfolding line_of
line_of_length level ones = let t = census level ones in census_line_length level ones t.zero t.other t.spent

pub level_text_length : (level n : ℕ) → length (level_text level n) ≤ 133 * n
unfolding level_text
level_text_length level zero = omega arith
level_text_length level (suc n) = simp length-append (omega (arith, level_text_length level n, line_of_length level n))

pub text_below_length : (n : ℕ) → length (text_below n) ≤ 532 * n
unfolding text_below
text_below_length zero = omega arith
text_below_length (suc n) = simp length-append (omega (arith, text_below_length n, level_text_length n 4))
