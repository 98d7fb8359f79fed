-- 01: what a number of paths is: members, repeats and tests of a list. Assumes nothing.
use Rattle.std.specs.Prelude.{Bool, cond, List, [], ◌∷◌, ◌↔◌, ◌⊎◌, ◌≡◌}

-- x stands in the list
abbrev pub Mem : {A : Type 0} → A → List A → Type 0
Mem x [] = ⊥
Mem x (y ∷ ys) = (x ≡ y) ⊎ Mem x ys

-- nothing stands in the list twice
abbrev pub NoRepeats : {A : Type 0} → List A → Type 0
NoRepeats [] = Unit {0}
NoRepeats (x ∷ xs) = (Mem x xs → ⊥) × NoRepeats xs

-- exactly those with the property stand in the list, each once
pub record Lists {A : Type 0} (P : A → Type 0) (xs : List A) : Type 0 where
  pub once : NoRepeats xs
  pub exactly : (x : A) → Mem x xs ↔ P x

-- those that pass the test
unfoldable pub filter : {A : Type 0} → (A → Bool) → List A → List A
filter test [] = []
filter test (x ∷ xs) = cond (test x) (x ∷ filter test xs) (filter test xs)
