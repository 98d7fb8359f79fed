-- 01: "The station's interface", and 02, points 6 and 14: the lines that the programs print. Assumes nothing.
use Rattle.std.specs.Prelude.{List, [], ◌++◌, ℕ, zero, suc, get_or}
use Rattle.listing.specs.Text.{ascii, decimal, hex_of, hex_mark}

-- "`page ok steps 7560`"
unfoldable pub ok_line : ℕ → List ℕ
ok_line steps = ascii "page ok steps " ++ decimal steps ++ ascii "\n"

-- a total, and behind it the mark of the columns that it counts
unfoldable pub columns_text : ℕ → ℕ → List ℕ
columns_text total mark = decimal total ++ ascii " " ++ hex_mark mark

-- 02, point 6: "`level 0 changed 0 0000000000000000 erased 0 0000000000000000`"
unfoldable pub level_line : ℕ → ℕ → ℕ → ℕ → ℕ → List ℕ
level_line level changed changed_mark erased erased_mark =
    ascii "level " ++ decimal level ++ ascii " changed " ++ columns_text changed changed_mark ++ ascii " erased " ++ columns_text erased erased_mark ++ ascii "\n"

-- "`data ` and 00 written 150 times"
unfoldable pub data_line : List ℕ → List ℕ
data_line bytes = ascii "data " ++ hex_of bytes ++ ascii "\n"

-- "A refusal prints only `page refused N place P`."
unfoldable pub refused_line : ℕ → ℕ → List ℕ
refused_line number place = ascii "page refused " ++ decimal number ++ ascii " place " ++ decimal place ++ ascii "\n"

-- 02, point 14: "`level 0 ones 0 zero 1 other 0 spent 0`"
unfoldable pub census_line : ℕ → ℕ → ℕ → ℕ → ℕ → List ℕ
census_line level ones zeros others spent =
    ascii "level " ++ decimal level ++ ascii " ones " ++ decimal ones ++ ascii " zero " ++ decimal zeros ++ ascii " other " ++ decimal others ++ ascii " spent " ++ decimal spent ++ ascii "\n"

-- the lines of the levels below n, from the lists of their totals and marks
unfoldable pub level_lines : ℕ → List ℕ → List ℕ → List ℕ → List ℕ → List ℕ
level_lines zero changed changed_marks erased erased_marks = []
level_lines (suc n) changed changed_marks erased erased_marks =
    level_lines n changed changed_marks erased erased_marks ++ level_line n (get_or changed n 0) (get_or changed_marks n 0) (get_or erased n 0) (get_or erased_marks n 0)

-- "the step sum, each level's two totals and the bytes", and 02's marks
unfoldable pub page_text : ℕ → List ℕ → List ℕ → List ℕ → List ℕ → List ℕ → List ℕ
page_text steps changed changed_marks erased erased_marks bytes = ok_line steps ++ level_lines 4 changed changed_marks erased erased_marks ++ data_line bytes
