-- The short page's data, group by group and row by row, and its rows in a buffer. Assumes nothing.
use mathlib.Core.List.{List, [], ◌∷◌, ◌++◌, flat_map}
use mathlib.Core.Path.{◌≡◌, refl, sym, ap, ap₂, ◌∙◌, subst⁻¹}
use Prim.Native.Nat.{ℕ, ◌+◌, ◌-◌, ◌*◌, ◌≤◌, ◌<◌}
use native.Mathlib.Numerals.{add-one}
use native.Mathlib.Omega.{arith}
use lib.ListN.{length, get_or, take, drop, set}
use lib.Seq.{paste, length-paste, take-paste, take_all, take-suc}
use Rattle.packing.specs.Packing.{joined, symbols_of, bytes_of}
use Rattle.reedsolomon.specs.Search.{WordOf}
use Rattle.concatenated.specs.Format.{short_page, short_roots, data_before}
use Rattle.concatenated.specs.Data.{digits, data_symbols, data_bytes}
use Rattle.concatenated.specs.Written.{rows_data}
use Rattle.concatenated.specs.Symbols.{row_after_row, row_in, rows_in}
use Rattle.concatenated.proofs.Digits.{group_of_bytes, group_of_symbols}
use Rattle.concatenated.proofs.RowData.{row_data_within}
use Rattle.concatenated.proofs.Symbols.{row_after_row_more, row_in_at, row_in_is_a_word}
use Rattle.concatenated.proofs.Short.{short_page_numbers}
use Rattle.concatenated.proofs.Filling.{Front}
use Rattle.concatenated.proofs.Groups.{repacked_at, three_from, four_from, three_more, four_more}

-- the symbols of group g
symbols_at : (bytes : List ℕ) (g k : ℕ) → length bytes ≡ 150 → g < 50 → k < 4
    → get_or (data_symbols short_page bytes) (g * 4 + k) 0 ≡ get_or (symbols_of (get_or bytes (g * 3) 0 ∷ get_or bytes (g * 3 + 1) 0 ∷ get_or bytes (g * 3 + 2) 0 ∷ [])) k 0
symbols_at bytes g k e h l =
    repacked_at 256 3 64 4 50 bytes g k h l
    ∙ ap (λ (t : List ℕ). get_or (digits 64 4 (joined 256 0 t)) k 0) (three_from bytes (g * 3) (omega (arith, e, h)))
    ∙ ap (λ (t : List ℕ). get_or t k 0) (group_of_bytes _)

pub symbols_more : (bytes out : List ℕ) (g : ℕ) (s : List ℕ) → length bytes ≡ 150 → g < 50 → Front (data_symbols short_page bytes) out 200 (g * 4)
    → s ≡ symbols_of (get_or bytes (g * 3) 0 ∷ get_or bytes (g * 3 + 1) 0 ∷ get_or bytes (g * 3 + 2) 0 ∷ [])
    → Front (data_symbols short_page bytes) (set (set (set (set out (g * 4) (get_or s 0 0)) (g * 4 + 1) (get_or s 1 0)) (g * 4 + 2) (get_or s 2 0)) (g * 4 + 3) (get_or s 3 0)) 200 ((g + 1) * 4)
symbols_more bytes out g s e h f es =
    four_more (data_symbols short_page bytes) out 200 g (get_or s 0 0) (get_or s 1 0) (get_or s 2 0) (get_or s 3 0) f (omega (arith, h))
    (symbol 0 (omega arith)) (symbol 1 (omega arith)) (symbol 2 (omega arith)) (symbol 3 (omega arith))
  where
    symbol : (k : ℕ) → k < 4 → get_or s k 0 ≡ get_or (data_symbols short_page bytes) (g * 4 + k) 0
    symbol k l = ap (λ (t : List ℕ). get_or t k 0) es ∙ sym (symbols_at bytes g k e h l)

-- the bytes of group g
bytes_at : (symbols : List ℕ) (g k : ℕ) → length symbols ≡ 200 → g < 50 → k < 3
    → get_or (data_bytes short_page symbols) (g * 3 + k) 0
    ≡ get_or (bytes_of (get_or symbols (g * 4) 0 ∷ get_or symbols (g * 4 + 1) 0 ∷ get_or symbols (g * 4 + 2) 0 ∷ get_or symbols (g * 4 + 3) 0 ∷ [])) k 0
bytes_at symbols g k e h l =
    repacked_at 64 4 256 3 50 symbols g k h l
    ∙ ap (λ (t : List ℕ). get_or (digits 256 3 (joined 64 0 t)) k 0) (four_from symbols (g * 4) (omega (arith, e, h)))
    ∙ ap (λ (t : List ℕ). get_or t k 0) (group_of_symbols _)

pub bytes_more : (symbols out : List ℕ) (g : ℕ) (b : List ℕ) → length symbols ≡ 200 → g < 50 → Front (data_bytes short_page symbols) out 150 (g * 3)
    → b ≡ bytes_of (get_or symbols (g * 4) 0 ∷ get_or symbols (g * 4 + 1) 0 ∷ get_or symbols (g * 4 + 2) 0 ∷ get_or symbols (g * 4 + 3) 0 ∷ [])
    → Front (data_bytes short_page symbols) (set (set (set out (g * 3) (get_or b 0 0)) (g * 3 + 1) (get_or b 1 0)) (g * 3 + 2) (get_or b 2 0)) 150 ((g + 1) * 3)
bytes_more symbols out g b e h f eb =
    three_more (data_bytes short_page symbols) out 150 g (get_or b 0 0) (get_or b 1 0) (get_or b 2 0) f (omega (arith, h))
    (byte 0 (omega arith)) (byte 1 (omega arith)) (byte 2 (omega arith))
  where
    byte : (k : ℕ) → k < 3 → get_or b k 0 ≡ get_or (data_bytes short_page symbols) (g * 3 + k) 0
    byte k l = ap (λ (t : List ℕ). get_or t k 0) eb ∙ sym (bytes_at symbols g k e h l)

-- ---- rows

-- the data of a row are within the 200 symbols
pub row_data_within_200 : (i : ℕ) → i < 4 → data_before short_page i + (63 - short_roots i) ≤ 200
row_data_within_200 i h = omega (arith, row_data_within short_page i 4 h, short_page_numbers.5)

-- row i of a buffer, as the code cuts it out
pub row_cut_out : (symbols : List ℕ) (i from to : ℕ) → i < 4 → from ≡ i * 63 → to ≡ from + 63 → take (to - from) (drop from symbols) ≡ get_or (rows_in short_page symbols) i []
unfolding row_in
row_cut_out symbols i from to h ef et =
    let size : to - from ≡ 63 = omega arith in
    ap₂ (λ (n k : ℕ). take n (drop k symbols)) size ef ∙ sym (row_in_at short_page symbols i h)

pub cut_out_row_is_a_word : (symbols : List ℕ) → WordOf 64 252 symbols → (i from to : ℕ) → i < 4 → from ≡ i * 63 → to ≡ from + 63 → WordOf 64 63 (take (to - from) (drop from symbols))
cut_out_row_is_a_word symbols word i from to h ef et = subst⁻¹ (WordOf 64 63) (row_cut_out symbols i from to h ef et) (row_in_is_a_word short_page 64 symbols word i h)

-- n symbols of a row put behind what stands in front
row_put : (out after row front : List ℕ) (at n room : ℕ) → length out ≡ room → at + n ≤ room → n ≤ length row → take at out ≡ front → after ≡ paste out at row n
    → (length after ≡ room) × (take (at + n) after ≡ front ++ take n row)
row_put out after row front at n room long fits enough is e = (
  ap length e ∙ length-paste out at row n (omega (arith, long, fits)) enough ∙ long,
  ap (take (at + n)) e ∙ take-paste out at row n (omega (arith, long, fits)) enough ∙ ap (λ (x : List ℕ). x ++ take n row) is,
)

-- the data in front of the rows below level i are at the front
pub record RowsPut (rows : List (List ℕ)) (out : List ℕ) (at i : ℕ) : Type 0 where
  pub within : i ≤ 4
  pub long_out : length out ≡ 200
  pub place : at ≡ data_before short_page i
  pub so_far : take at out ≡ rows_data short_page rows i

pub no_row_put : (rows : List (List ℕ)) (out : List ℕ) → length out ≡ 200 → RowsPut rows out 0 0
unfolding data_before rows_data
no_row_put rows out e = record { within = omega arith; long_out = e; place = refl; so_far = refl }

pub one_more_row_put : (rows : List (List ℕ)) (row out after : List ℕ) (at i n : ℕ) → RowsPut rows out at i → i < 4 → row ≡ get_or rows i [] → length row ≡ 63 → n ≡ 63 - short_roots i
    → after ≡ paste out at row n → RowsPut rows after (at + n) (i + 1)
unfolding data_before rows_data
one_more_row_put rows row out after at i n f h is long en e =
    let put = row_put out after row (rows_data short_page rows i) at n 200 f.long_out (omega (arith, row_data_within_200 i h, f.place, en)) (omega (arith, long, en)) f.so_far e in
    record {
      within = omega arith;
      long_out = put.0;
      place = ap₂ (λ (x y : ℕ). x + y) f.place en ∙ ap (data_before short_page) (sym (add-one i));
      so_far = put.1 ∙ ap₂ (λ (y : ℕ) (r : List ℕ). rows_data short_page rows i ++ take y r) en is ∙ ap (rows_data short_page rows) (sym (add-one i));
    }

-- the rows below level i stand in a buffer, one behind the other
pub record RowsBehind (rows : List (List ℕ)) (out : List ℕ) (i : ℕ) : Type 0 where
  pub within : i ≤ 4
  pub long_out : length out ≡ 252
  pub so_far : take (i * 63) out ≡ row_after_row (take i rows)

pub no_row_behind : (rows : List (List ℕ)) (out : List ℕ) → length out ≡ 252 → RowsBehind rows out 0
unfolding row_after_row flat_map
no_row_behind rows out e = record { within = omega arith; long_out = e; so_far = refl }

pub one_more_row_behind : (rows : List (List ℕ)) (out after : List ℕ) (i : ℕ) → RowsBehind rows out i → i < 4 → length rows ≡ 4 → length (get_or rows i []) ≡ 63
    → after ≡ paste out (i * 63) (get_or rows i []) 63 → RowsBehind rows after (i + 1)
one_more_row_behind rows out after i f h four long e =
    let row = get_or rows i [] in
    let put = row_put out after row (row_after_row (take i rows)) (i * 63) 63 252 f.long_out (omega arith) (omega (arith, long)) f.so_far e in
    let next : (i + 1) * 63 ≡ i * 63 + 63 = omega arith in
    record {
      within = omega arith;
      long_out = put.0;
      so_far =
          ap (λ (k : ℕ). take k after) next ∙ put.1 ∙ ap (λ (r : List ℕ). row_after_row (take i rows) ++ r) (take_all 63 row (omega (arith, long)))
          ∙ sym (row_after_row_more (take i rows) row) ∙ ap row_after_row (sym (take-suc rows i [] (omega (arith, four, h)))) ∙ ap (λ (k : ℕ). row_after_row (take k rows)) (sym (add-one i));
    }
