-- 01: what a soft value gives to a bit; 02, point 3: what it gives at a level. Assumes nothing.
use Rattle.std.specs.Prelude.{cond, List, [], ◌∷◌, map, ℕ, ◌-◌, ◌*◌, ltb, eqb, ℤ, pos, negsuc, ◌+ℤ◌, get_or}

-- 01: "0..3 read as bit 0, 4..7 as bit 1"
unfoldable pub reading : ℕ → ℕ
reading q = cond (ltb q 4) 0 1

-- 01: "from the surest (0 or 7) to the least sure (3 or 4)": 0 for the surest, 3 for the least sure
unfoldable pub doubt : ℕ → ℕ
doubt q = cond (ltb q 4) q (7 - q)

-- branch values, from the surest reading to the least sure
pub record Values : Type 0 where
  pub agree : List ℤ
  pub disagree : List ℤ

-- 01: "a soft value that agrees with the bit gives +2, +1, −1, −5, a disagreeing one −60, −35, −20, −11"
abbrev pub values : Values
values = record {
  agree = pos 2 ∷ pos 1 ∷ negsuc 0 ∷ negsuc 4 ∷ [];
  disagree = negsuc 59 ∷ negsuc 34 ∷ negsuc 19 ∷ negsuc 10 ∷ [];
}

-- 01: "branch value" of a bit where the soft value q was read
unfoldable pub branch : Values → ℕ → ℕ → ℤ
branch vs b q = cond (eqb (reading q) b) (get_or vs.agree (doubt q) (pos 0)) (get_or vs.disagree (doubt q) (pos 0))

-- every value raised by k
abbrev pub raised : ℕ → Values → Values
raised k vs = record { agree = map (λ v. v +ℤ pos k) vs.agree; disagree = map (λ v. v +ℤ pos k) vs.disagree }

-- 02, point 3: "Every branch value at level i now rises by 2·i."
unfoldable pub level_values : ℕ → Values
level_values i = raised (2 * i) values
