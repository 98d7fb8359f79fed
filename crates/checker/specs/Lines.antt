-- 02, point 11: the lines of a listing as numbers. Assumes nothing.
use Rattle.std.specs.Prelude.{Bool, cond, ◌&&◌, List, [], ◌∷◌, map, ◌≡◌, ℕ, ◌^◌, leb, ltb, length, take}
use Rattle.paths.specs.Paths.{Path}
use Rattle.trellis.specs.Order.{number, path_of}

-- 02: "each gives a length and the bits as a number, last bit lowest, none above the length"; a path of 1 to n bits
unfoldable pub is_path : ℕ → ℕ → ℕ → Bool
is_path n len bits = leb 1 len && (leb len n && ltb bits (2 ^ len))

-- a line's path; the empty path, which is none, for a line that is no path of 1 to n bits
unfoldable pub line_of : ℕ → ℕ → ℕ → Path
line_of n len bits = cond (is_path n len bits) (path_of len bits) []

-- the listing whose lines have these lengths and these bits
unfoldable pub listing_of : ℕ → List ℕ → List ℕ → List Path
listing_of n [] bits = []
listing_of n (len ∷ lengths) [] = []
listing_of n (len ∷ lengths) (b ∷ bits) = line_of n len b ∷ listing_of n lengths bits

-- the numbers are the lengths and the bits of these paths, line by line
pub record NumbersOf (paths : List Path) (lengths bits : List ℕ) : Type 0 where
  pub lengths_are : lengths ≡ map (λ (p : Path). length p) paths
  pub bits_are : bits ≡ map number paths

-- so they are of the first k paths
abbrev pub FirstNumbersOf : ℕ → List Path → List ℕ → List ℕ → Type 0
FirstNumbersOf k paths lengths bits = NumbersOf (take k paths) (take k lengths) (take k bits)
