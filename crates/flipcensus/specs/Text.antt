-- 02, point 14: what the program prints. Assumes nothing.
use Rattle.std.specs.Prelude.{List, [], ◌++◌, ℕ, zero, suc}
use Rattle.census.specs.Census.{census}
use Rattle.listing.specs.Lines.{census_line}

-- "one line for each level and number of ones"
unfoldable pub line_of : ℕ → ℕ → List ℕ
line_of level ones = let t = census level ones in census_line level ones t.zero t.other t.spent

-- the lines of a level, of fewer than n ones
unfoldable pub level_text : ℕ → ℕ → List ℕ
level_text level zero = []
level_text level (suc n) = level_text level n ++ line_of level n

-- "Levels ascend, and within one the ones from 0 to 3": the lines of the levels below n
unfoldable pub text_below : ℕ → List ℕ
text_below zero = []
text_below (suc n) = text_below n ++ level_text n 4

abbrev pub census_text : List ℕ
census_text = text_below 4
