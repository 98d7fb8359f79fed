-- 02, point 7: "Committing takes such a buffer and writes the 150 bytes its rows hold": its questions, and the buffers that it takes. Assumes nothing.
use Rattle.std.specs.Prelude.{List, ◌≡◌, ℕ, ◌<◌, eqb, leb, length}
use Rattle.dump.specs.Accepted.{Values}
use Rattle.concatenated.specs.Format.{short_page}
use Rattle.concatenated.specs.Written.{written_rows, written_page, page_in_bytes, bytes_of_rows}
use Rattle.concatenated.specs.Symbols.{row_after_row, row_in, rows_in, lowest_no_word}
use Rattle.concatenated.specs.OuterCode.{short_encoder, ShortCodeword, is_short_codeword}
use Rattle.questions.specs.Answer.{Filled, Outcome, refused, done}
use Rattle.questions.specs.Questions.{ask, first_above}
use Rattle.questions.specs.declared.refusal.Question.TheVariants.{InputLength, OutputLength, Range, OuterWord}

-- "a row that is no word of its outer code, place the lowest such level"; 4 where there is none
abbrev pub no_word_in : List ℕ → ℕ
no_word_in symbols = lowest_no_word is_short_codeword 0 (rows_in short_page symbols)

-- 1: 252 symbols, 2: 150 places, 5: each symbol 0..63, 14: each row a word of its outer code
abbrev pub commit_answer : List ℕ → List ℕ → Outcome
commit_answer symbols out =
    ask (eqb (length symbols) 252) (refused InputLength 0)
    (ask (eqb (length out) 150) (refused OutputLength 0)
    (ask (leb 252 (first_above symbols 63)) (refused Range (first_above symbols 63))
    (ask (leb 4 (no_word_in symbols)) (refused OuterWord (no_word_in symbols))
    done)))

-- "the 150 bytes its rows hold"
abbrev pub held_bytes : List ℕ → List ℕ
held_bytes symbols = bytes_of_rows short_page (rows_in short_page symbols)

-- the call's answer, and the bytes after it
abbrev pub Committed : List ℕ → List ℕ → Outcome → List ℕ → Type 0
Committed symbols old = Filled (commit_answer symbols old) (held_bytes symbols) old

-- ---- what holds of it

-- the buffers that are taken, whoever filled them: 252 symbols whose four rows are words of their outer codes
pub record FourWords (symbols : List ℕ) : Type 0 where
  pub long : length symbols ≡ 252
  pub words : (i : ℕ) → i < 4 → ShortCodeword i (row_in short_page symbols i)

-- those that 14 turns away, with the place: 252 symbols in range; each lower row is a word, and this one is none
pub record NoWordAt (symbols : List ℕ) (level : ℕ) : Type 0 where
  pub in_range : Values 252 63 symbols
  pub level_exists : level < 4
  pub words_below : (i : ℕ) → i < level → ShortCodeword i (row_in short_page symbols i)
  pub no_word : ShortCodeword level (row_in short_page symbols level) → ⊥

-- what is written encodes to exactly the rows that were committed
pub record EncodesAgain (symbols new : List ℕ) : Type 0 where
  pub long : length new ≡ 150
  pub rows_are : written_rows short_page short_encoder new ≡ rows_in short_page symbols
  pub symbols_are : row_after_row (written_rows short_page short_encoder new) ≡ symbols
  pub page_is : written_page short_page short_encoder new ≡ page_in_bytes short_page (rows_in short_page symbols)
