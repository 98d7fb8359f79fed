-- 01 and 02: the questions by their numbers. Assumes nothing.
use Rattle.std.specs.Prelude.{ℕ}
use Rattle.questions.specs.declared.refusal.Question.{Question}
use Rattle.questions.specs.declared.refusal.Question.TheVariants.{InputLength, OutputLength, Level, Limit, Range, Word, FixedBytes, Check, Spent, Reach, Threshold, Bytes, EmptyStack, OuterWord, Lines, Name, Held, SummedLimit}

abbrev pub number_of : Question → ℕ
number_of InputLength = 1
number_of OutputLength = 2
number_of Level = 3
number_of Limit = 4
number_of Range = 5
number_of Word = 6
number_of FixedBytes = 7
number_of Check = 8
number_of Spent = 9
number_of Reach = 10
number_of Threshold = 11
number_of Bytes = 12
number_of EmptyStack = 13
number_of OuterWord = 14
number_of Lines = 15
number_of Name = 16
number_of Held = 17
number_of SummedLimit = 18
