-- 01: which paths begin a codeword. A path of t bits is a number below 2 ^ t, its first bit on top. Assumes nothing.
use Rattle.std.specs.Prelude.{◌≡◌, ℕ, ◌-◌, ◌/◌, ◌^◌}
use Rattle.column.specs.Shape.{Code, Word, Shape, level_code}

-- 01: "A path exists in a code's trellis if it begins some codeword."
abbrev pub Exists : ℕ → Code → ℕ → ℕ → Type 0
Exists n C t p = (w : ℕ) × Word n C w × (w / 2 ^ (n - t) ≡ p)

-- 01: "The whole search uses the level's code."
abbrev pub ExistsWhole : Shape → ℕ → ℕ → ℕ → Type 0
ExistsWhole S i t p = Exists S.bits (level_code S i) t p

-- 01: "The supercode search uses two", "A path must exist in both."
abbrev pub ExistsSupercode : Shape → ℕ → ℕ → ℕ → Type 0
ExistsSupercode S i t p = Exists S.bits (S.supercodes i).left t p × Exists S.bits (S.supercodes i).right t p

-- 01: "It is dead if it begins no word of the level's code."
abbrev pub Dead : Shape → ℕ → ℕ → ℕ → Type 0
Dead S i t p = ExistsSupercode S i t p × (ExistsWhole S i t p → ⊥)
