-- 01: "The dump", one block: its bytes, and questions 7 and 8. Assumes nothing.
use Rattle.std.specs.Prelude.{ℕ, ◌+◌, ◌*◌, ◌-◌, ◌/◌, ◌%◌, Bool, true, false, cond, List, [], ◌∷◌, ◌++◌, ltb, leb, eqb, get_or}
use Rattle.dump.specs.Check.{check_of}
use Rattle.dump.specs.Listed.{listed, all_below}

-- 01: "Bytes 16..495: columns 16·b to 16·b + 15". The place in the soft page of byte k of block b
abbrev pub soft_place : ℕ → ℕ → ℕ
soft_place b k = b * 480 + (k - 16)

-- whether byte k of block b is a soft value: it lies in 16..495, and not in the missing 64th column
unfoldable pub holds_value : ℕ → ℕ → Bool
holds_value b k = cond (ltb k 16) false (cond (leb 496 k) false (ltb (soft_place b k) 1890))

-- 01: "Bytes 0..1: 50 47 hexadecimal. Byte 2: block number b". "All others before 510, and the missing 64th column, are zero."
unfoldable pub fixed_byte : ℕ → ℕ → ℕ
fixed_byte b k = cond (eqb k 0) 80 (cond (eqb k 1) 71 (cond (eqb k 2) b 0))

-- byte k of block b, below 510
unfoldable pub body_byte : List ℕ → ℕ → ℕ → ℕ
body_byte soft b k = cond (holds_value b k) (get_or soft (soft_place b k) 0) (fixed_byte b k)

abbrev pub body_of : List ℕ → ℕ → List ℕ
body_of soft b = listed (body_byte soft b) 510

-- 01: "Bytes 510..511, high byte first": the check of those before
unfoldable pub block_of : List ℕ → ℕ → List ℕ
block_of soft b = body_of soft b ++ (check_of (body_of soft b) / 256 ∷ check_of (body_of soft b) % 256 ∷ [])

-- byte k of block b, below 510, may be x: a soft value may be anything here
unfoldable pub byte_right : ℕ → ℕ → ℕ → Bool
byte_right x b k = cond (holds_value b k) true (eqb x (fixed_byte b k))

-- 7. 01: "Are the block's fixed and zero bytes right?"
unfoldable pub fixed_right : List ℕ → ℕ → Bool
fixed_right block b = all_below (λ (k : ℕ). byte_right (get_or block k 0) b k) 510

-- 8. 01: "Is its check right?"
unfoldable pub check_right : List ℕ → Bool
check_right block = eqb (get_or block 510 0 * 256 + get_or block 511 0) (check_of block)
