-- For the code's contracts: existence as it is computed, and the test of the next bit by the parity of the bits that a mask takes. Assumes nothing.
use Rattle.std.specs.Prelude.{◌≡◌, Bool, ℕ, zero, suc, ◌+◌, ◌-◌, ◌*◌, ◌/◌, ◌%◌, ◌^◌, ◌<◌, List, get_or, ltb}
use Rattle.std.specs.Int.Bits.{bit_and}
use Rattle.std.specs.Int.Count.{ones}
use Rattle.poly.specs.Polynomial.{remainder}
use Rattle.column.specs.Shape.{Code}

-- whether a path of t bits begins a word of n bits: the bits to come can make up for its remainder; `begins_exists` and `exists_begins` say that this is 01's existence
unfoldable pub begins : ℕ → Code → ℕ → ℕ → Bool
begins n C t p = ltb (remainder C.degree C.generator (p * 2 ^ (n - t))) (2 ^ (n - t))

-- 1 where an odd number of the bits of p that the mask takes are set, else 0
unfoldable pub parity : ℕ → ℕ → ℕ
parity mask p = ones (bit_and p mask) % 2

-- the check that a path's newest bit, its t-th, has to pass: the digit of the remainder at that bit's place, above the bits to come
unfoldable pub check : ℕ → Code → ℕ → ℕ → ℕ
check n C t p = remainder C.degree C.generator (p * 2 ^ (n - t)) / 2 ^ (n - t) % 2

-- its mask on the k lowest bits of the path: what the check gives at each bit alone
unfoldable pub mask_in : ℕ → Code → ℕ → ℕ → ℕ
mask_in n C t zero = 0
mask_in n C t (suc k) = check n C t (2 ^ k) * 2 ^ k + mask_in n C t k

-- the mask of the t-th bit
unfoldable pub mask_of : ℕ → Code → ℕ → ℕ
mask_of n C t = mask_in n C t t

-- a table of masks: the entry t is the mask of the bit t + 1
abbrev pub MasksOf : ℕ → Code → List ℕ → Type 0
MasksOf n C masks = (t : ℕ) → t < n → get_or masks t 0 ≡ mask_of n C (suc t)
