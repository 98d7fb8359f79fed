-- 01: the two searches; demand 3 for columns: the codeword that is ahead of all others, and the paths that are counted. Assumes nothing.
use Rattle.std.specs.Prelude.{Bool, true, ◌&&◌, List, ◌⊎◌, ◌≡◌, ℕ, ◌≤◌, ◌<◌, length}
use Rattle.column.specs.Shape.{Shape, Word, level_code}
use Rattle.column.specs.Trellis.{ExistsWhole, ExistsSupercode, Dead}
use Rattle.paths.specs.Paths.{Path, prefix}
use Rattle.paths.specs.Order.{Ahead}
use Rattle.paths.specs.Tree.{Tree}
use Rattle.trellis.specs.Values.{Values}
use Rattle.trellis.specs.Order.{number, sum, before}
use Rattle.trellis.specs.Trellis.{exists_in}

-- the two searches
pub data Search : Type 0 where
  whole : Search
  supercode : Search

-- 01: "The whole search uses the level's code."; "The supercode search uses two", "A path must exist in both."
abbrev pub exists_for : Search → Shape → ℕ → Path → Bool
exists_for whole S i = exists_in S.bits (level_code S i)
exists_for supercode S i = λ p. exists_in S.bits (S.supercodes i).left p && exists_in S.bits (S.supercodes i).right p

-- 01: "A search's trellis paths are the paths that exist for it"
abbrev pub trellis : Search → Shape → Values → List ℕ → ℕ → Tree
trellis s S vs soft i = record { size = S.bits; sum = sum vs soft; before = before vs soft; exists = exists_for s S i }

abbrev pub whole_trellis : Shape → Values → List ℕ → ℕ → Tree
whole_trellis = trellis whole

abbrev pub supercode_trellis : Shape → Values → List ℕ → ℕ → Tree
supercode_trellis = trellis supercode

-- 01: "in the level's code for the whole search, in both supercodes for the supercode search"
abbrev pub ExistsFor : Search → Shape → ℕ → ℕ → ℕ → Type 0
ExistsFor whole = ExistsWhole
ExistsFor supercode = ExistsSupercode

-- a codeword of level i, as a path
pub record Codeword (S : Shape) (i : ℕ) (w : Path) : Type 0 where
  pub long : length w ≡ S.bits
  pub word : Word S.bits (level_code S i) (number w)

-- demand 3: "the one codeword of the level that is ahead, as 01 defines it, of all others"
pub record AheadOfAll (S : Shape) (vs : Values) (soft : List ℕ) (i : ℕ) (w : Path) : Type 0 where
  pub codeword : Codeword S i w
  pub ahead_of : (v : Path) → Codeword S i v → (v ≡ w → ⊥) → Ahead (before vs soft) w v

-- demand 3: "its trellis paths that are prefixes of this codeword or ahead of it"
abbrev pub Counted : Search → Shape → Values → List ℕ → ℕ → Path → Path → Type 0
Counted s S vs soft i w p = (0 < length p) × (length p ≤ S.bits) × ExistsFor s S i (length p) (number p) × ((prefix p w ≡ true) ⊎ Ahead (before vs soft) p w)

-- demand 3: "the dead paths ahead of that codeword"
abbrev pub DeadAhead : Shape → Values → List ℕ → ℕ → Path → Path → Type 0
DeadAhead S vs soft i w p = (0 < length p) × (length p ≤ S.bits) × Dead S i (length p) (number p) × Ahead (before vs soft) p w
