-- For the code's contracts: the choice of list of two that a way of the code names. Assumes nothing.
use Rattle.std.specs.Prelude.{Bool, true, false, cond, List, Option, None, Some, ℕ, ℤ, negsuc}
use Rattle.column.specs.Shape.{short}
use Rattle.column.specs.Level.{is_word}
use Rattle.trellis.specs.Order.{number}
use Rattle.trellis.specs.TwoWords.{Choice, off, on, hard_path}
use Rattle.list_of_two.specs.declared.Way.{Way}

-- list of two where it is asked for, with its threshold
abbrev pub chosen : Bool → ℤ → Choice
chosen true threshold = on threshold
chosen false threshold = off

-- list of two where there is a threshold
abbrev pub choice : Option ℤ → Choice
choice None = off
choice (Some threshold) = on threshold

abbrev pub choice_of : Way → Choice
choice_of w = choice w.threshold

-- the sum of the first word below which a second one is sought; without list of two the lowest number of 16 bits
abbrev pub threshold_of : Choice → ℤ
threshold_of off = negsuc 32767
threshold_of (on threshold) = threshold

-- the word that is returned unsearched, if there is one
abbrev pub unsearched_word : Choice → ℕ → List ℕ → Option ℕ
unsearched_word off i soft = None
unsearched_word (on threshold) i soft = cond (is_word short i (number (hard_path soft 30))) (Some (number (hard_path soft 30))) None
