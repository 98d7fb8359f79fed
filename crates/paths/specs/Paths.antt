-- 01: a path is a list of bits, here the newest first; its extensions are `b ∷ p`, its prefixes are its tails. Assumes nothing.
use Rattle.std.specs.Prelude.{Bool, true, false, cond, ◌||◌, List, [], ◌∷◌, ◌++◌, ℕ, zero, suc, length}

abbrev pub Path : Type 0
Path = List Bool

-- the two paths are equal
unfoldable pub same : Path → Path → Bool
same [] [] = true
same [] (c ∷ q) = false
same (b ∷ p) [] = false
same (true ∷ p) (true ∷ q) = same p q
same (true ∷ p) (false ∷ q) = false
same (false ∷ p) (true ∷ q) = false
same (false ∷ p) (false ∷ q) = same p q

-- p is a prefix of w. A path is one of its own prefixes; the empty path is no path, so it is no prefix.
unfoldable pub prefix : Path → Path → Bool
prefix p [] = false
prefix p (b ∷ w) = same p (b ∷ w) || prefix p w

-- the length of the beginning that p and w share: of the longest prefix of p that is a prefix of w, or 0
unfoldable pub shared : Path → Path → ℕ
shared [] w = 0
shared (b ∷ p) w = cond (prefix (b ∷ p) w) (length (b ∷ p)) (shared p w)

-- p and all its extensions by at most k bits
unfoldable pub extensions : ℕ → Path → List Path
extensions zero p = p ∷ []
extensions (suc k) p = p ∷ extensions k (false ∷ p) ++ extensions k (true ∷ p)

-- all paths of 1 to n bits
unfoldable pub paths : ℕ → List Path
paths zero = []
paths (suc n) = extensions n (false ∷ []) ++ extensions n (true ∷ [])
