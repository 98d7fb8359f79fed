-- 01: the sum of a path and the order of paths. A path is a list of bits, the newest first. Assumes nothing.
use Rattle.std.specs.Prelude.{Bool, true, false, cond, not, ◌&&◌, List, [], ◌∷◌, ℕ, zero, suc, ◌+◌, ◌*◌, ◌/◌, ◌%◌, eqb, ltb, ℤ, pos, ◌+ℤ◌, length, get_or}
use Rattle.std.specs.Int.Signed.{lt_z}
use Rattle.paths.specs.Paths.{Path, same}
use Rattle.trellis.specs.Values.{Values, branch}

abbrev pub bit : Bool → ℕ
bit true = 1
bit false = 0

-- a path as a number, its first bit on top
unfoldable pub number : Path → ℕ
number [] = 0
number (b ∷ p) = number p * 2 + bit b

-- the path of n bits with a number, the last bit lowest; `number_of_path` says that it is, where no bit is above its length
unfoldable pub path_of : ℕ → ℕ → Path
path_of zero x = []
path_of (suc n) x = eqb (x % 2) 1 ∷ path_of n (x / 2)

-- 01: "its sum adds its branch values"; the bit after a path p stands at position length p of the soft column
unfoldable pub sum : Values → List ℕ → Path → ℤ
sum vs soft [] = pos 0
sum vs soft (b ∷ p) = sum vs soft p +ℤ branch vs (bit b) (get_or soft (length p) 0)

-- p has 0 at the first bit where two paths of one length differ
unfoldable pub zero_first : Path → Path → Bool
zero_first [] q = false
zero_first (b ∷ p) [] = false
zero_first (b ∷ p) (c ∷ q) = cond (same p q) (not b && c) (zero_first p q)

-- the first of two answers that decides: p before q by the one test, q before p by it, or the next
abbrev pub first_by : Bool → Bool → Bool → Bool
first_by true later next = true
first_by false true next = false
first_by false false next = next

-- 01: "larger sum first; then the longer; then the one with 0 at the first bit where they differ"
unfoldable pub before : Values → List ℕ → Path → Path → Bool
before vs soft p q =
    first_by (lt_z (sum vs soft q) (sum vs soft p)) (lt_z (sum vs soft p) (sum vs soft q))
    (first_by (ltb (length q) (length p)) (ltb (length p) (length q))
    (zero_first p q))
