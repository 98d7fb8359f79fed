-- For the code's contracts: the tables that the hard reading is tested with. Assumes nothing.
use Rattle.std.specs.Prelude.{Bool, true, List, ◌≡◌, ℕ, ◌+◌, ◌-◌, ◌*◌, ◌/◌, ◌^◌, ◌<◌, ℤ, pos, length, get_or}
use Rattle.poly.specs.Polynomial.{remainder}
use Rattle.column.specs.Shape.{short, generator, degree}
use Rattle.trellis.specs.Values.{Values, reading, branch}

-- a word with its remainder by the level's generator above its 30 bits
unfoldable pub checked_word : ℕ → ℕ → ℕ
checked_word i x = x + 2 ^ 30 * remainder (degree short i) (generator short i) x

-- the entry k is the checked word of the bit at position k alone
pub record ChecksFor (i : ℕ) (checks : List ℕ) : Type 0 where
  pub count : length checks ≡ 30
  pub entry : (k : ℕ) → k < 30 → get_or checks k 0 ≡ checked_word i (2 ^ (29 - k))

-- the entry q is what the soft value q gives to the bit that it reads as
pub record Agreeing (vs : Values) (agreeing : List ℤ) : Type 0 where
  pub count : length agreeing ≡ 8
  pub entry : (q : ℕ) → q < 8 → get_or agreeing q (pos 0) ≡ branch vs (reading q) q

-- the same entries, picked from a table of values
pub record AgreeingOf (table agreeing : List ℤ) : Type 0 where
  pub count : length agreeing ≡ 8
  pub entry : (q : ℕ) → q < 8 → get_or agreeing q (pos 0) ≡ get_or table (q / 4 * 8 + q) (pos 0)

-- the tables of a level, where list of two is on
abbrev pub HardFor : Bool → ℕ → List ℤ → List ℕ → List ℤ → Type 0
HardFor second i table checks agreeing = second ≡ true → ChecksFor i checks × AgreeingOf table agreeing
