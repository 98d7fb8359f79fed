-- For the code's contracts: a table that a rule gives. Assumes nothing.
use Rattle.std.specs.Prelude.{List, [], ◌∷◌, ℕ, zero, suc}

-- what f gives to t and the numbers that follow, k entries
unfoldable pub tabulated : {A : Type 0} → (ℕ → A) → ℕ → ℕ → List A
tabulated f t zero = []
tabulated f t (suc k) = f t ∷ tabulated f (suc t) k
