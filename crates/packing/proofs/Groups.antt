-- A list of three or four is its entries. Assumes nothing.
use mathlib.Core.Path.{◌≡◌, refl}
use mathlib.Core.List.{List, [], ◌∷◌}
use Prim.Native.Nat.{ℕ}
use native.Mathlib.Omega.{arith}
use lib.ListN.{length, get_or}

pub list_of_three : (xs : List ℕ) → length xs ≡ 3 → xs ≡ get_or xs 0 0 ∷ get_or xs 1 0 ∷ get_or xs 2 0 ∷ []
list_of_three [] e = absurd (omega arith)
list_of_three (a ∷ []) e = absurd (omega arith)
list_of_three (a ∷ b ∷ []) e = absurd (omega arith)
list_of_three (a ∷ b ∷ c ∷ []) e = refl
list_of_three (a ∷ b ∷ c ∷ d ∷ xs) e = absurd (omega arith)

pub list_of_four : (xs : List ℕ) → length xs ≡ 4 → xs ≡ get_or xs 0 0 ∷ get_or xs 1 0 ∷ get_or xs 2 0 ∷ get_or xs 3 0 ∷ []
list_of_four [] e = absurd (omega arith)
list_of_four (a ∷ []) e = absurd (omega arith)
list_of_four (a ∷ b ∷ []) e = absurd (omega arith)
list_of_four (a ∷ b ∷ c ∷ []) e = absurd (omega arith)
list_of_four (a ∷ b ∷ c ∷ d ∷ []) e = refl
list_of_four (a ∷ b ∷ c ∷ d ∷ f ∷ xs) e = absurd (omega arith)
