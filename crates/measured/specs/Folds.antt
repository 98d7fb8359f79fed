-- For the code's contracts: the answers of a buffer's columns as one number, which bench/run compares. Assumes nothing.
use Rattle.std.specs.Prelude.{Bool, not, cond, List, Option, None, Some, ℕ, zero, suc, ◌*◌, ◌/◌, ◌%◌, ◌^◌, eqb, ltb, leb, length, take, drop}
use Rattle.std.specs.Int.Bits.{bit_xor}
use Rattle.column.specs.Shape.{short}
use Rattle.trellis.specs.Values.{level_values}
use Rattle.trellis.specs.Demand.{Search, supercode_trellis}
use Rattle.trellis.specs.Bounded.{searched_within}
use Rattle.trellis.specs.TwoWords.{Choice, threshold_allowed, searched_by}
use Rattle.packing.specs.Packing.{sixteen_bits}
use Rattle.search.specs.Outcomes.{code_outcome, search_of}
use Rattle.search.specs.declared.Found.{Found}
use Rattle.chip.specs.Outcomes as chip
use Rattle.chip.specs.declared.ChipOutcome.{ChipOutcome}
use Rattle.questions.specs.Questions.{ask, first_above}

abbrev pub folded : Option Found → ℕ
folded (Some f) = bit_xor (bit_xor (f.word * 2 ^ 11 % 2 ^ 64) f.count) (sixteen_bits f.low * 2 ^ 48 % 2 ^ 64)
folded None = 0

-- a flag as a number
abbrev pub bit_of : Bool → ℕ
bit_of b = cond b 1 0

-- an outcome with 64 places: its word's number with the flag at bit 47; without a word the paths taken above the flag, and bit 46
abbrev pub folded_within : Option Found → ℕ → Bool → ℕ
folded_within (Some f) taken pushed = bit_xor (folded (Some f)) (bit_of pushed * 2 ^ 47 % 2 ^ 64)
folded_within None taken pushed = bit_xor (bit_xor (taken * 2 ^ 1 % 2 ^ 64) (bit_of pushed)) (2 ^ 46)

abbrev pub chip_folded : ChipOutcome → ℕ
chip_folded e = folded_within e.found e.count e.pushed

-- the numbers of the first j columns
unfoldable pub folded_columns : (List ℕ → ℕ) → List ℕ → ℕ → ℕ
folded_columns value soft zero = 0
folded_columns value soft (suc j) = bit_xor (folded_columns value soft j) (value (take 30 (drop (j * 30) soft)))

-- a column's number by the search of a choice, and by the search with 64 places
abbrev pub searched_number : Choice → Search → ℕ → ℕ → List ℕ → ℕ
searched_number choice s level limit c = folded (code_outcome (searched_by choice s short (level_values level) limit c level))

abbrev pub chip_number : ℕ → ℕ → List ℕ → ℕ
chip_number level limit c = chip_folded (chip.code_outcome (searched_within 64 (supercode_trellis short (level_values level) c level) limit))

-- the search that a number names: the whole search for 0, else the supercode search
abbrev pub named : ℕ → Search
named n = search_of (not (eqb n 0))

-- 0 where the level, the limit, the threshold or a value is out of range
abbrev pub measured_answer : Choice → Search → ℕ → List ℕ → ℕ → ℕ
measured_answer choice s level soft limit =
    ask (ltb level 4) 0
    (ask (leb limit 2000) 0
    (ask (threshold_allowed choice) 0
    (ask (leb (length soft) (first_above soft 7)) 0
    (folded_columns (searched_number choice s level limit) soft (length soft / 30)))))

-- 0 where the level, the limit or a value is out of range
abbrev pub measured_chip_answer : ℕ → List ℕ → ℕ → ℕ
measured_chip_answer level soft limit =
    ask (ltb level 4) 0
    (ask (leb limit 2000) 0
    (ask (leb (length soft) (first_above soft 7)) 0
    (folded_columns (chip_number level limit) soft (length soft / 30))))
