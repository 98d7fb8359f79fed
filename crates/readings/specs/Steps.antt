-- For the code's contracts: a search as a reading, and what the reading of a level leaves in the code's arrays. Assumes nothing.
use Rattle.std.specs.Prelude.{Result, Ok, Err, List, map, ◌≡◌, ℕ, ◌^◌, ◌<◌, ◌≤◌, ℤ}
use Rattle.column.specs.Shape.{short}
use Rattle.paths.specs.Low.{lowest_from}
use Rattle.search.specs.declared.Found.{Found}
use Rattle.search.specs.Outcomes.{search_of}
use Rattle.list_of_two.specs.declared.Way.{Way}
use Rattle.list_of_two.specs.Ways.{choice_of}
use Rattle.concatenated.specs.Decode.{Reading, found, spent, Reader, symbols, marks, lows, steps}
use Rattle.concatenated.specs.Readers.{short_reader}
use Rattle.concatenated.specs.Flags.{flag}

-- the reader of columns that a way to search them names
abbrev pub way_reader : Way → Reader
way_reader w = short_reader (choice_of w) (search_of w.in_supercodes) w.limit

-- what a search gives, as a reading: a word, or the count alone
abbrev pub as_reading : Result Found ℕ → Reading
as_reading (Ok f) = found (record { column = f.word; low = f.low }) f.count
as_reading (Err n) = spent n

abbrev pub WordInRange : Result Found ℕ → Type 0
WordInRange (Ok f) = f.word < 2 ^ 30
WordInRange (Err n) = Unit {0}

-- the columns of a level are read: their symbols, the flags of the erased ones, their steps together, and the lowest of z₀ and their low points
pub record RowRead (i : ℕ) (rs : List Reading) (z₀ : ℤ) (xs ms : List ℕ) (n : ℕ) (z : ℤ) : Type 0 where
  pub symbols_are : xs ≡ symbols short i rs
  pub marks_are : ms ≡ map flag (marks rs)
  pub steps_are : n ≡ steps rs
  pub low_is : z ≡ lowest_from z₀ (lows rs)
  pub few : n ≤ 126000
