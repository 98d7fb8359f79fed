-- 01: "an all-zero soft page", and what page decoding gives at each of its levels. Assumes nothing.
use Rattle.std.specs.Prelude.{false, List, ℕ, ◌*◌, ℤ, replicate}
use Rattle.concatenated.specs.Format.{Format}
use Rattle.concatenated.specs.Decode.{Level}

abbrev pub zero_page : Format → List ℕ
zero_page P = replicate (P.columns * P.shape.bits) 0

-- a row of zeros, no column changed and none erased, and every low point z
abbrev pub zero_level : Format → ℤ → Level
zero_level P z = record { symbols = replicate P.columns 0; changed = replicate P.columns false; erased = replicate P.columns false; lows = replicate P.columns z }
