-- The bytes of a written page, column by column. Assumes nothing.
use mathlib.Core.List.{List, [], ◌∷◌}
use mathlib.Core.Path.{◌≡◌, refl, sym, ap, ◌∙◌}
use Prim.Native.Nat.{ℕ, zero, suc, ◌+◌, ◌*◌, ◌^◌, ◌<◌}
use native.Mathlib.Omega.{arith}
use lib.ListN.{length, get_or, set, drop}
use lib.Seq.{get_or-take, get_or-drop}
use Rattle.column.specs.Shape.{short}
use Rattle.column.specs.Level.{column_of}
use Rattle.column.proofs.Levels.{highest_lt}
use Rattle.column.proofs.Short.{sound}
use Rattle.packing.specs.Packing.{column_bytes}
use Rattle.concatenated.specs.Format.{short_page}
use Rattle.concatenated.specs.Written.{column_symbols, page_in_bytes}
use Rattle.concatenated.proofs.Encoding.{column_in_the_page}
use Rattle.concatenated.proofs.Short.{column_in_bytes_lem}
use Rattle.concatenated.proofs.Filling.{Front}
use Rattle.concatenated.proofs.Groups.{four_more}

-- the symbols of column j, of four rows
pub symbols_of_column : (rows : List (List ℕ)) (j : ℕ) → length rows ≡ 4
    → column_symbols rows j ≡ get_or (get_or rows 0 []) j 0 ∷ get_or (get_or rows 1 []) j 0 ∷ get_or (get_or rows 2 []) j 0 ∷ get_or (get_or rows 3 []) j 0 ∷ []
unfolding column_symbols
symbols_of_column [] j e = absurd (omega arith)
symbols_of_column (a ∷ []) j e = absurd (omega arith)
symbols_of_column (a ∷ b ∷ []) j e = absurd (omega arith)
symbols_of_column (a ∷ b ∷ c ∷ []) j e = absurd (omega arith)
symbols_of_column (a ∷ b ∷ c ∷ d ∷ []) j e = refl
symbols_of_column (a ∷ b ∷ c ∷ d ∷ x ∷ rows) j e = absurd (omega arith)

-- a column of four symbols is in range
pub column_in_range : (s0 s1 s2 s3 : ℕ) → s0 < 64 → s1 < 64 → s2 < 64 → s3 < 64 → column_of short (s0 ∷ s1 ∷ s2 ∷ s3 ∷ []) < 2 ^ 30
unfolding column_of
column_in_range s0 s1 s2 s3 h0 h1 h2 h3 = highest_lt short sound (λ k. get_or (s0 ∷ s1 ∷ s2 ∷ s3 ∷ []) k 0) 4 small (omega arith)
  where
    small : (i : ℕ) → i < 4 → get_or (s0 ∷ s1 ∷ s2 ∷ s3 ∷ []) i 0 < 64
    small zero h = h0
    small (suc zero) h = h1
    small (suc (suc zero)) h = h2
    small (suc (suc (suc zero))) h = h3
    small (suc (suc (suc (suc i)))) h = absurd (omega arith)

-- byte k of column j
byte_at : (rows : List (List ℕ)) (j k : ℕ) → j < 63 → k < 4
    → get_or (page_in_bytes short_page rows) (j * 4 + k) 0 ≡ get_or (column_bytes (column_of short (column_symbols rows j))) k 0
byte_at rows j k h l =
    sym (get_or-take 4 (drop (j * 4) (page_in_bytes short_page rows)) k 0 l ∙ get_or-drop (j * 4) (page_in_bytes short_page rows) k 0)
    ∙ ap (λ (t : List ℕ). get_or t k 0) (column_in_the_page short_page rows j h ∙ column_in_bytes_lem (column_of short (column_symbols rows j)))

pub column_more : (rows : List (List ℕ)) (out : List ℕ) (j w : ℕ) (b : List ℕ) → length rows ≡ 4 → j < 63 → Front (page_in_bytes short_page rows) out 252 (j * 4)
    → w ≡ column_of short (get_or (get_or rows 0 []) j 0 ∷ get_or (get_or rows 1 []) j 0 ∷ get_or (get_or rows 2 []) j 0 ∷ get_or (get_or rows 3 []) j 0 ∷ [])
    → b ≡ column_bytes w
    → Front (page_in_bytes short_page rows) (set (set (set (set out (j * 4) (get_or b 0 0)) (j * 4 + 1) (get_or b 1 0)) (j * 4 + 2) (get_or b 2 0)) (j * 4 + 3) (get_or b 3 0)) 252 ((j + 1) * 4)
column_more rows out j w b four h f ew eb =
    four_more (page_in_bytes short_page rows) out 252 j (get_or b 0 0) (get_or b 1 0) (get_or b 2 0) (get_or b 3 0) f (omega (arith, h))
    (byte 0 (omega arith)) (byte 1 (omega arith)) (byte 2 (omega arith)) (byte 3 (omega arith))
  where
    e : b ≡ column_bytes (column_of short (column_symbols rows j))
    e = eb ∙ ap column_bytes (ew ∙ ap (column_of short) (sym (symbols_of_column rows j four)))

    byte : (k : ℕ) → k < 4 → get_or b k 0 ≡ get_or (page_in_bytes short_page rows) (j * 4 + k) 0
    byte k l = ap (λ (t : List ℕ). get_or t k 0) e ∙ sym (byte_at rows j k h l)
