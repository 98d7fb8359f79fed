-- 01: the answers of the column calls. Assumes nothing.
use Rattle.std.specs.Prelude.{List, ℕ, ◌^◌, Ok, eqb, ltb, leb, length}
use Rattle.column.specs.Shape.{short}
use Rattle.column.specs.Level.{level_word, column_of, reimaged, is_word}
use Rattle.questions.specs.Questions.{ask, first_above}
use Rattle.questions.specs.Answer.{Answer, refused}
use Rattle.questions.specs.declared.refusal.Question.TheVariants.{InputLength, Level, Range, Word}

-- 1: four symbols; 5: each 0..63
abbrev pub encode_answer : List ℕ → Answer
encode_answer symbols =
    ask (eqb (length symbols) 4) (refused InputLength 0)
    (ask (leb 4 (first_above symbols 63)) (refused Range (first_above symbols 63))
    (Ok (column_of short symbols)))

-- 3: the level; 5: the symbol
abbrev pub level_word_answer : ℕ → ℕ → Answer
level_word_answer level symbol =
    ask (ltb level 4) (refused Level 0)
    (ask (ltb symbol 64) (refused Range 0)
    (Ok (level_word short level symbol)))

-- 3: the level; 5: the column; 6: a word of its level
abbrev pub reimage_answer : ℕ → ℕ → Answer
reimage_answer level column =
    ask (ltb level 4) (refused Level 0)
    (ask (ltb column (2 ^ 30)) (refused Range 0)
    (ask (is_word short level column) (refused Word 0)
    (Ok (reimaged short level column))))
