-- The rows of the data: each is encoded from its part of the data symbols. Assumes nothing.
use mathlib.Core.List.{List, []}
use mathlib.Core.Path.{◌≡◌, sym, ap, ap₂, ◌∙◌, subst⁻¹}
use Prim.Native.Nat.{ℕ, ◌+◌, ◌-◌, ◌<◌}
use native.Mathlib.Numerals.{add-one}
use native.Mathlib.Omega.{arith}
use lib.ListN.{length, get_or, take, drop}
use Rattle.reedsolomon.specs.Search.{WordOf}
use Rattle.reedsolomon.specs.Row.{Symbols, encoded_row}
use Rattle.reedsolomon.proofs.Answers.{word_is_of_symbols}
use Rattle.concatenated.specs.Format.{short_page, short_roots, data_before, data_count}
use Rattle.concatenated.specs.Data.{data_symbols}
use Rattle.concatenated.specs.Written.{row_data, written_row, written_rows}
use Rattle.concatenated.specs.Arrays.{Rows}
use Rattle.concatenated.specs.OuterCode.{short_outer, short_encoder, ShortCodeword}
use Rattle.concatenated.proofs.Lists.{listed_length, listed_at}
use Rattle.concatenated.proofs.Encoding.{written_data_is_a_word, written_row_is_a_word}
use Rattle.concatenated.proofs.Short.{short_page_sound}
use Rattle.reedsolomon.proofs.ShortRows.{at_most_30_roots}
use Rattle.concatenated.proofs.OuterJoint.{outer_laws}

module _ (bytes : List ℕ) where
  module _ (i : ℕ) (h : i < 4) where
    word : WordOf 64 (data_count short_page i) (row_data short_page (data_symbols short_page bytes) i)
    word = written_data_is_a_word short_page short_page_sound short_outer short_encoder ShortCodeword outer_laws bytes i h

    -- the symbols from `at` on that row i has as its data
    module _ (symbols : List ℕ) (es : symbols ≡ data_symbols short_page bytes) (at t : ℕ) (ea : at ≡ data_before short_page i) (et : t ≡ short_roots i) where
      part_is : take (at + (63 - t) - at) (drop at symbols) ≡ row_data short_page (data_symbols short_page bytes) i
      unfolding row_data
      part_is =
          let n : at + (63 - t) - at ≡ 63 - short_roots i = omega (arith, et) in
          ap₂ (λ (k a : ℕ). take k (drop a symbols)) n ea ∙ ap (λ (x : List ℕ). take (63 - short_roots i) (drop (data_before short_page i) x)) es

      pub part_and_roots : length (take (at + (63 - t) - at) (drop at symbols)) + t ≡ 63
      part_and_roots = omega (arith, ap length part_is ∙ word.0, et, at_most_30_roots i)

      pub part_is_of_symbols : Symbols 6 (take (at + (63 - t) - at) (drop at symbols))
      part_is_of_symbols = subst⁻¹ (Symbols 6) part_is (word_is_of_symbols 6 (data_count short_page i) (row_data short_page (data_symbols short_page bytes) i) word)

      -- its codeword is row i of the page
      pub row_written : (row : List ℕ) → row ≡ encoded_row 6 67 63 t (take (at + (63 - t) - at) (drop at symbols)) → row ≡ get_or (written_rows short_page short_encoder bytes) i []
      unfolding written_rows written_row short_encoder
      row_written row e = e ∙ ap₂ (encoded_row 6 67 63) et part_is ∙ sym (listed_at (written_row short_page short_encoder bytes) 4 i [] h)

      -- the data of the next row begin behind it
      pub next_place : at + (63 - t) ≡ data_before short_page (i + 1)
      unfolding data_before
      next_place = ap₂ (λ (x y : ℕ). x + (63 - y)) ea et ∙ ap (data_before short_page) (sym (add-one i))

    row_word : WordOf 64 63 (get_or (written_rows short_page short_encoder bytes) i [])
    unfolding written_rows
    row_word =
        subst⁻¹ (WordOf 64 63) (listed_at (written_row short_page short_encoder bytes) 4 i [] h)
        (written_row_is_a_word short_page short_page_sound short_outer short_encoder ShortCodeword outer_laws bytes i h)

  pub four_rows : length (written_rows short_page short_encoder bytes) ≡ 4
  unfolding written_rows
  four_rows = listed_length (written_row short_page short_encoder bytes) 4

  -- the written rows are rows of symbols
  pub written_rows_are_rows : Rows (written_rows short_page short_encoder bytes)
  written_rows_are_rows = record { four = four_rows; words = row_word }
