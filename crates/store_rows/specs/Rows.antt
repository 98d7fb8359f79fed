-- 01: "Questions put to every call", of the row calls. Assumes nothing.
use Rattle.std.specs.Prelude.{Bool, true, cond, List, ℕ, ◌+◌, ◌-◌, eqb, ltb, leb, length}
use Rattle.reedsolomon.specs.Row.{outer_answer, is_found}
use Rattle.reedsolomon.specs.ShortRows.{short_roots}
use Rattle.questions.specs.Questions.{ask, first_above}
use Rattle.questions.specs.Answer.{Outcome, refused, done}
use Rattle.questions.specs.declared.refusal.Question.TheVariants.{InputLength, OutputLength, Level, Range, Reach}

-- 01: "The first 33, 51, 57, 59 columns hold data"; for a level above 3 no length is stated
unfoldable pub length_right : ℕ → ℕ → Bool
length_right level n = cond (leb 4 level) true (eqb n (63 - short_roots level))

-- 1: the data's length, 2: 63 places, 3: the level, 5: each symbol 0..63
abbrev pub encode_row_answer : ℕ → List ℕ → List ℕ → Outcome
encode_row_answer level row out =
    ask (length_right level (length row)) (refused InputLength 0)
    (ask (eqb (length out) 63) (refused OutputLength 0)
    (ask (ltb level 4) (refused Level 0)
    (ask (leb (length row) (first_above row 63)) (refused Range (first_above row 63))
    done)))

-- 1: 63 symbols and 63 marks, 2: 63 places, 3: the level, 5: each symbol 0..63, then each mark 0..1, 10: an outer word in reach
abbrev pub decode_row_answer : ℕ → List ℕ → List ℕ → List ℕ → Outcome
decode_row_answer level symbols marks out =
    ask (eqb (length symbols) 63) (refused InputLength 0)
    (ask (eqb (length marks) 63) (refused InputLength 0)
    (ask (eqb (length out) 63) (refused OutputLength 0)
    (ask (ltb level 4) (refused Level 0)
    (ask (leb 63 (first_above symbols 63)) (refused Range (first_above symbols 63))
    (ask (leb 63 (first_above marks 1)) (refused Range (63 + first_above marks 1))
    (ask (is_found (outer_answer 6 67 63 (short_roots level) symbols marks)) (refused Reach 0)
    done))))))
