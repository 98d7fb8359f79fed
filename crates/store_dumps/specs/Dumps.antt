-- 01: "Questions put to every call", those of writing and reading a dump. Assumes nothing.
use Rattle.std.specs.Prelude.{List, ℕ, zero, suc, eqb, leb, length}
use Rattle.dump.specs.Block.{fixed_right, check_right}
use Rattle.dump.specs.Dump.{block_at, soft_of}
use Rattle.questions.specs.Questions.{ask, first_above}
use Rattle.questions.specs.Answer.{Outcome, refused, done}
use Rattle.questions.specs.declared.refusal.Question.TheVariants.{InputLength, OutputLength, Range, FixedBytes, Check}

-- 1: 1,890 values; 2: room for 2,048 bytes; 5: each value 0..7
abbrev pub write_answer : List ℕ → List ℕ → Outcome
write_answer soft out =
    ask (eqb (length soft) 1890) (refused InputLength 0)
    (ask (eqb (length out) 2048) (refused OutputLength 0)
    (ask (leb 1890 (first_above soft 7)) (refused Range (first_above soft 7))
    done))

-- 7: the fixed and zero bytes of block b
unfoldable pub ask_fixed : List ℕ → ℕ → Outcome → Outcome
ask_fixed dump b next = ask (fixed_right (block_at dump b) b) (refused FixedBytes b) next

-- 8: the check of block b
unfoldable pub ask_check : List ℕ → ℕ → Outcome → Outcome
ask_check dump b next = ask (check_right (block_at dump b)) (refused Check b) next

-- both, of block b
abbrev pub ask_block : List ℕ → ℕ → Outcome → Outcome
ask_block dump b next = ask_fixed dump b (ask_check dump b next)

-- 01: "block by block": a question put to blocks 0, 1, .. n − 1, in this order
unfoldable pub ask_each : (ℕ → Outcome → Outcome) → ℕ → Outcome → Outcome
ask_each question zero next = next
ask_each question (suc n) next = ask_each question n (question n next)

-- 1: 2,048 bytes; 2: room for 1,890 values; 7 and 8, block by block; 5: each value 0..7, its place counted in the soft page
abbrev pub read_answer : List ℕ → List ℕ → Outcome
read_answer dump out =
    ask (eqb (length dump) 2048) (refused InputLength 0)
    (ask (eqb (length out) 1890) (refused OutputLength 0)
    (ask_each (ask_block dump) 4
    (ask (leb 1890 (first_above (soft_of dump) 7)) (refused Range (first_above (soft_of dump) 7))
    done)))
