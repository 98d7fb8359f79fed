-- 01: "Rows and page", bytes, symbols and columns by digits: a run of them is one number, its first entry the highest digit; signed numbers in 16 bits. Assumes nothing.
use Rattle.std.specs.Prelude.{List, [], ◌∷◌, cond, ℕ, suc, ◌+◌, ◌-◌, ◌*◌, ◌/◌, ◌%◌, ◌^◌, ltb, ℤ, pos, negsuc}

-- the number of a run of digits in a base, from what stands before it
unfoldable pub joined : ℕ → ℕ → List ℕ → ℕ
joined base x [] = x
joined base x (d ∷ ds) = joined base (x * base + d) ds

-- the digit of a number that has k digits after it
abbrev pub digit : ℕ → ℕ → ℕ → ℕ
digit base k x = x / base ^ k % base

-- 01: "three bytes to four symbols, top bits first"
abbrev pub symbols_of : List ℕ → List ℕ
symbols_of bytes =
    let x : ℕ = joined 256 0 bytes in
    digit 64 3 x ∷ digit 64 2 x ∷ digit 64 1 x ∷ digit 64 0 x ∷ []

abbrev pub bytes_of : List ℕ → List ℕ
bytes_of symbols =
    let x : ℕ = joined 64 0 symbols in
    digit 256 2 x ∷ digit 256 1 x ∷ digit 256 0 x ∷ []

-- 01: "four a column: 30 bits from the top, two zeros"
abbrev pub column_bytes : ℕ → List ℕ
column_bytes column = digit 256 3 (column * 4) ∷ digit 256 2 (column * 4) ∷ digit 256 1 (column * 4) ∷ digit 256 0 (column * 4) ∷ []

-- two's complement: a signed number as 16 bits, and the number that 16 bits are
abbrev pub sixteen_bits : ℤ → ℕ
sixteen_bits (pos n) = n
sixteen_bits (negsuc n) = 65536 - suc n

abbrev pub signed_of : ℕ → ℤ
signed_of n = cond (ltb n 32768) (pos n) (negsuc (65536 - suc n))
