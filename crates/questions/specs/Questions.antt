-- 01: "Questions put to every call": in their order, the first no gives its number and a place. Assumes nothing.
use Rattle.std.specs.Prelude.{Bool, true, false, cond, List, [], ◌∷◌, ℕ, suc, leb}

-- a question: where the answer is no, the refusal, else what follows
abbrev pub ask : {A : Type 0} → Bool → A → A → A
ask true refusal next = next
ask false refusal next = refusal

-- 01: "Place: the first bad one from 0": the index of the first value above top, or the length
unfoldable pub first_above : List ℕ → ℕ → ℕ
first_above [] top = 0
first_above (x ∷ xs) top = cond (leb x top) (suc (first_above xs top)) 0
