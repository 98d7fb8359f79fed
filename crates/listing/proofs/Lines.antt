-- How long the first line of a text is, by the place of its newline. Assumes nothing.
use Rattle.std.proofs.Common.{◌≡◌, ℕ, suc, List, [], ◌∷◌, ◌≤◌, ◌<◌, length, cond, refl, arith, nat_lt}
use Rattle.std.proofs.lemmas.Grind.{common_steps}
use Rattle.std.specs.Prelude.{◌==◌}
use Rattle.std.specs.List.{position_or_len}
use Rattle.listing.specs.Text.{line_length}

abbrev pub before_newline : List ℕ → ℕ
before_newline text = position_or_len (λ b. b == 10) text

pub line_by_newline : (text : List ℕ) → line_length text ≡ cond (nat_lt (before_newline text) (length text)) (suc (before_newline text)) (length text)
unfolding line_length
line_by_newline [] = refl
line_by_newline (b ∷ text) = grind (arith, common_steps, line_by_newline text)

-- a line stands within the text, and one of a text that is there is longer than nothing
pub line_within : (text : List ℕ) → line_length text ≤ length text
unfolding line_length
line_within [] = omega arith
line_within (b ∷ text) = grind (arith, common_steps, line_within text)

pub line_is_some : (text : List ℕ) → 0 < length text → 0 < line_length text
unfolding line_length
line_is_some [] h = h
line_is_some (b ∷ text) h = grind (arith, common_steps)
