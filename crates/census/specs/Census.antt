-- 02, point 14: "A census of flips": what a pattern of flips ends in, and how many end in each. Assumes nothing.
use Rattle.std.specs.Prelude.{cond, List, ◌++◌, map, ◌≡◌, ℕ, ◌+◌, ◌≤◌, eqb, length, get_or}
use Rattle.std.proofs.Math.Bool.{decide}
use Rattle.column.specs.Shape.{short}
use Rattle.paths.specs.Lists.{filter}
use Rattle.paths.specs.Search.{SearchResult, answer, spent}
use Rattle.trellis.specs.Values.{level_values}
use Rattle.trellis.specs.Trellis.{WordFound, searched}
use Rattle.trellis.specs.Demand.{supercode_trellis}
use Rattle.searches.specs.Searches.{Allowed}
use Rattle.census.specs.Patterns.{Pattern, OnesAmong, patterns}
use Rattle.census.specs.declared.Totals.{Totals}

-- "starts from the all-zero column at surest values and reads every pattern .. as flips to 7"
unfoldable pub soft_column : Pattern → List ℕ
soft_column p = map (λ b. cond b 7 0) p

-- "ending in the zero word, in another word, and spent"
pub data Ending : Type 0 where
  zero_word : Ending
  other_word : Ending
  spent_out : Ending
  deriving Discrete as same_ending

-- of a search
unfoldable pub ending_of : SearchResult WordFound → Ending
ending_of (answer w c) = cond (eqb w.column 0) zero_word other_word
ending_of (spent c) = spent_out

-- "at the limit of 200", whatever the default is
abbrev pub census_limit : ℕ
census_limit = 200

-- "by the supercode search", under the branch values of the level
unfoldable pub ends_in : ℕ → List ℕ → Ending
ends_in level soft = ending_of (searched (supercode_trellis short (level_values level) soft level) census_limit)

-- a pattern of so many ones among the bits of a column, with an ending at a level
abbrev pub Ends : ℕ → ℕ → Ending → Pattern → Type 0
Ends level k e p = OnesAmong short.bits k p × (ends_in level (soft_column p) ≡ e)

-- how many of a list end so
unfoldable pub number_of : {A : Type 0} → (A → Ending) → Ending → List A → ℕ
number_of ends e xs = length (filter (λ x. decide (same_ending (ends x) e)) xs)

-- the three numbers of a list
unfoldable pub totals : {A : Type 0} → (A → Ending) → List A → Totals
totals ends xs = record { zero = number_of ends zero_word xs; other = number_of ends other_word xs; spent = number_of ends spent_out xs }

-- the total of an ending
abbrev pub total : Ending → Totals → ℕ
total zero_word t = t.zero
total other_word t = t.other
total spent_out t = t.spent

-- "patterns ending in the zero word, in another word, and spent", of a level and a number of ones; `total_is_the_number_of_patterns` says that each is the number of patterns with that ending
unfoldable pub census : ℕ → ℕ → Totals
census level k = totals (λ p. ends_in level (soft_column p)) (patterns short.bits k)

-- ---- For the code's contracts

-- two lists' totals together
abbrev pub together : Totals → Totals → Totals
together a b = record { zero = a.zero + b.zero; other = a.other + b.other; spent = a.spent + b.spent }

-- of the columns that begin with the given values and go on with n bits, k of them ones
unfoldable pub census_behind : ℕ → List ℕ → ℕ → ℕ → Totals
census_behind level values n k = totals (λ p. ends_in level (values ++ soft_column p)) (patterns n k)

-- a column that may be searched at a level, and has no flips from a position on
pub record UnflippedFrom (level : ℕ) (column : List ℕ) (from : ℕ) : Type 0 where
  pub allowed : Allowed level column census_limit
  pub rest : (k : ℕ) → from ≤ k → get_or column k 0 ≡ 0
