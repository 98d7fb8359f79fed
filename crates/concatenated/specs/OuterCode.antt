-- 01: the outer code of the short page, as a page asks for it. Assumes nothing.
use Rattle.std.specs.Prelude.{List, map, ℕ}
use Rattle.reedsolomon.specs.Search.{WordOf}
use Rattle.reedsolomon.specs.Row.{IsCodeword, is_codeword, outer_answer, encoded_row}
use Rattle.concatenated.specs.Format.{short_roots}
use Rattle.concatenated.specs.Outer.{RowDecoder, RowEncoder}
use Rattle.concatenated.specs.Symbols.{RowTest}
use Rattle.concatenated.specs.Flags.{flag}

-- 01: "Outer decoding takes 63 symbols and 63 marks", T by the level
unfoldable pub short_outer : RowDecoder
short_outer i xs ms = outer_answer 6 67 63 (short_roots i) xs (map flag ms)

unfoldable pub short_encoder : RowEncoder
short_encoder i d = encoded_row 6 67 63 (short_roots i) d

-- the words of row i
pub record ShortCodeword (i : ℕ) (c : List ℕ) : Type 0 where
  pub word : WordOf 64 63 c
  pub code : IsCodeword 6 67 63 (short_roots i) c

-- whether 63 symbols are one
unfoldable pub is_short_codeword : RowTest
is_short_codeword i c = is_codeword 6 67 63 (short_roots i) c
