-- 02, point 14: "every pattern with at most three ones among its 30 bits". Assumes nothing.
use Rattle.std.specs.Prelude.{Bool, true, false, List, [], ◌∷◌, ◌++◌, map, ◌≡◌, ℕ, zero, suc, ◌+◌, ◌*◌, length, replicate}

-- a bit for each position, position 0 first
abbrev pub Pattern : Type 0
Pattern = List Bool

-- how many ones it has
unfoldable pub ones : Pattern → ℕ
ones [] = 0
ones (true ∷ p) = suc (ones p)
ones (false ∷ p) = ones p

-- k ones among n bits
pub record OnesAmong (n k : ℕ) (p : Pattern) : Type 0 where
  pub bits : length p ≡ n
  pub many : ones p ≡ k

-- the patterns of k ones among n bits; `patterns_are_listed` says: these exactly, each once
unfoldable pub patterns : ℕ → ℕ → List Pattern
patterns n zero = replicate n false ∷ []
patterns zero (suc k) = []
patterns (suc n) (suc k) = map (λ p. true ∷ p) (patterns n k) ++ map (λ p. false ∷ p) (patterns n (suc k))

-- n over k
unfoldable pub over : ℕ → ℕ → ℕ
over n zero = 1
over zero (suc k) = 0
over (suc n) (suc k) = over n k + over n (suc k)

unfoldable pub factorial : ℕ → ℕ
factorial zero = 1
factorial (suc n) = suc n * factorial n
