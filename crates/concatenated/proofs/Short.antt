-- The short page: 63 columns, roots 30, 12, 6, 4, 150 bytes of data. Assumes nothing.
use mathlib.Core.List.{List}
use mathlib.Core.Logic.{◌⊎◌}
use mathlib.Core.Path.{◌≡◌, refl, ap₂, ◌∙◌}
use Prim.Native.Nat.{ℕ, zero, suc, ◌*◌}
use native.Mathlib.Omega.{arith}
use lib.Dec.{lit<}
use lib.IntN.{ℤ, pos, ◌+ℤ◌}
use lib.ListN.{length, get_or}
use lib.Signed.{lt_z}
use Rattle.column.specs.Shape.{short, generator}
use Rattle.column.proofs.Short as Column
use Rattle.column.proofs.Tabulated.{map_at}
use Rattle.trellis.specs.Values.{values, level_values}
use Rattle.trellis.specs.Demand.{Search as Kind, whole, supercode}
use Rattle.trellis.specs.TwoWords.{Choice, off, on}
use Rattle.trellis.proofs.Short as Columns
use Rattle.trellis.proofs.TwoWords.{hard_reading_in_the_code}
use Rattle.packing.specs.Packing.{column_bytes}
use Rattle.concatenated.specs.Lists.{All}
use Rattle.reedsolomon.proofs.ShortRows.{at_most_30_roots}
use Rattle.concatenated.specs.Format.{SoundFormat, short_page, short_roots, data_length, data_count, data_before}
use Rattle.concatenated.specs.Outer.{RowDecoder, RowEncoder, OuterLaws}
use Rattle.concatenated.specs.Data.{digits}
use Rattle.concatenated.specs.SoftPage.{Soft, soft_columns}
use Rattle.concatenated.specs.Decode.{Reader, Level, answered, decoded, rows, Reaches, AtEveryLevel}
use Rattle.concatenated.specs.Written.{written_rows, written_page, columns_of, column_in_bytes, bytes_of_rows}
use Rattle.concatenated.specs.Misread.{WithinReach}
use Rattle.concatenated.specs.Readers.{short_reader, dead_ahead, Apart, Agree, NoColumnSpent, NoneEnded, sum_below}
use Rattle.concatenated.specs.Clean.{ReadsAsWritten, BackUnchanged, BackUnharmed, TooManyUnread, NoSearchMade, ReadsAs, FindsTheReading, AgreeingIsAbove}
use Rattle.concatenated.proofs.Digits.{Below}
use Rattle.concatenated.proofs.Encoding.{page_in_bytes_length}
use Rattle.paths.proofs.Integers.{same_after}
use Rattle.concatenated.proofs.PageBack as PageBack
use Rattle.concatenated.proofs.DecodersAgree as DecodersAgree
use Rattle.concatenated.proofs.SoftPages.{as_many_columns, columns_are_soft}
use Rattle.concatenated.proofs.CleanColumns.{lists_take_the_reading, readers_find_the_reading}
use Rattle.concatenated.proofs.HardReading.{reading_is_a_codeword}
use Rattle.concatenated.proofs.Lists.{all_map}
use Rattle.concatenated.proofs.WrittenBits.{columns_read_as_written}
use Rattle.concatenated.proofs.CleanPages as CleanPages

pub short_page_sound : SoundFormat short_page
unfolding data_before short_roots
short_page_sound = record { shape_sound = Column.sound; roots_fit = λ i h. omega (arith, at_most_30_roots i); packs = refl; holds = refl; column_fits = omega arith }

-- 01: "The first 33, 51, 57, 59 columns hold data", "150 bytes: 200 symbols"
pub short_page_numbers : (data_count short_page 0 ≡ 33) × (data_count short_page 1 ≡ 51) × (data_count short_page 2 ≡ 57) × (data_count short_page 3 ≡ 59) × (data_length short_page ≡ 150) × (data_before short_page 4 ≡ 200)
unfolding data_before short_roots
short_page_numbers = (refl, refl, refl, refl, refl, refl)

-- 01: "four a column: 30 bits from the top, two zeros", as the code writes them
pub column_in_bytes_lem : (x : ℕ) → column_in_bytes short_page x ≡ column_bytes x
unfolding column_in_bytes digits
column_in_bytes_lem x = refl

agreeing_is_above : AgreeingIsAbove values
agreeing_is_above zero h = refl
agreeing_is_above (suc zero) h = refl
agreeing_is_above (suc (suc zero)) h = refl
agreeing_is_above (suc (suc (suc zero))) h = refl
agreeing_is_above (suc (suc (suc (suc d)))) h = absurd (omega arith)

-- and the values of a level keep it: both rise by as much
level_values_agree_above : (i : ℕ) → AgreeingIsAbove (level_values i)
unfolding level_values
level_values_agree_above i d h =
    ap₂ lt_z (map_at (λ v. v +ℤ pos (2 * i)) values.disagree d (pos 0) (pos 0) h) (map_at (λ v. v +ℤ pos (2 * i)) values.agree d (pos 0) (pos 0) h)
    ∙ same_after (pos (2 * i)) (get_or values.disagree d (pos 0)) (get_or values.agree d (pos 0))
    ∙ agreeing_is_above d h

one_code : (short.supercodes 0).left.generator ≡ generator short 0
unfolding generator
one_code = refl

module _ (outer : RowDecoder) (encoded : RowEncoder) (Codeword : ℕ → List ℕ → Type 0) (laws : OuterLaws short_page outer encoded Codeword) where
  -- 01: "A written page is 252 bytes"
  pub written_page_length : (bytes : List ℕ) → length (written_page short_page encoded bytes) ≡ 252
  unfolding written_page
  written_page_length bytes = page_in_bytes_length short_page (written_rows short_page encoded bytes)

  -- demand 2: "A written page comes back wherever, at each level, twice the misread columns plus the unread ones stay within 30, 12, 6 and 4.", whatever the columns are read by
  pub written_page_comes_back : (read : Reader) (bytes : List ℕ) → length bytes ≡ 150 → Below 256 bytes → (soft : List ℕ)
      → WithinReach short_page outer read (columns_of 63 (written_rows short_page encoded bytes)) (soft_columns short_page soft)
      → (ls : List Level) × (n : ℕ) × (decoded short outer read (soft_columns short_page soft) ≡ answered ls n) × (rows ls ≡ written_rows short_page encoded bytes) × (bytes_of_rows short_page (rows ls) ≡ bytes)
  written_page_comes_back read bytes full are_bytes = PageBack.written_soft_page_comes_back short_page short_page_sound outer encoded Codeword laws read bytes full are_bytes

  -- 02, point 12: a written page in which "each soft value reads as the written bit, at any sureness"
  module _ (bytes : List ℕ) (full : length bytes ≡ 150) (are_bytes : Below 256 bytes) (soft : List ℕ) (long : length soft ≡ 1890) (values_soft : Soft soft)
      (reads : ReadsAsWritten short_page (written_page short_page encoded bytes) soft) (kind : Kind) (limit : ℕ) where
    abbrev page : List (List ℕ)
    page = soft_columns short_page soft

    clean : ReadsAs short 0 page (columns_of 63 (written_rows short_page encoded bytes))
    clean = columns_read_as_written short_page short_page_sound outer encoded Codeword laws bytes soft long reads

    finds : (choice : Choice) → FindsTheReading short (short_reader choice kind limit)
    finds choice = readers_find_the_reading short Columns.searchable level_values limit kind (lit< tt) choice level_values_agree_above

    -- right readings never mislead, however weak: with list of two or without, the data comes back with no column changed, or too many columns are unread and the page is refused
    pub clean_page_comes_back_or_is_refused : (choice : Choice)
        → BackUnchanged short_page encoded bytes (decoded short outer (short_reader choice kind limit) page) ⊎ TooManyUnread short_page outer (short_reader choice kind limit) page (decoded short outer (short_reader choice kind limit) page)
    clean_page_comes_back_or_is_refused choice =
        CleanPages.clean_page_comes_back_or_is_refused short_page short_page_sound outer encoded Codeword laws bytes full are_bytes page (as_many_columns short_page soft) (columns_are_soft short_page soft long values_soft) clean
        (short_reader choice kind limit) (finds choice)

    -- "and no column is spent, the data comes back with no column changed", and none erased
    pub clean_page_comes_back : NoColumnSpent short outer (short_reader off kind limit) page → BackUnharmed short_page encoded bytes (decoded short outer (short_reader off kind limit) page)
    clean_page_comes_back all_read =
        CleanPages.clean_page_comes_back short_page short_page_sound outer encoded Codeword laws bytes full are_bytes page (as_many_columns short_page soft) (columns_are_soft short_page soft long values_soft) clean
        (short_reader off kind limit) (finds off) (λ i h there. all_read i h _ there)

    -- "Under list of two the same holds, and no search is made.": whatever the threshold, without a step
    pub clean_page_comes_back_unsearched : (threshold : ℤ) → (back : BackUnharmed short_page encoded bytes (decoded short outer (short_reader (on threshold) kind limit) page))
        × (back.unchanged.steps ≡ 0) × NoSearchMade short outer level_values threshold kind limit page
    clean_page_comes_back_unsearched threshold =
        let back = CleanPages.taken_page_comes_back short_page short_page_sound outer encoded Codeword laws bytes full are_bytes page (as_many_columns short_page soft) (columns_are_soft short_page soft long values_soft) clean
        (short_reader (on threshold) kind limit) (lists_take_the_reading short Columns.searchable level_values limit kind (lit< tt) threshold) in
        (back.0, back.1, λ i h cs there. all_map cs (λ c word. (word, hard_reading_in_the_code short i (Columns.searchable i h) (level_values i) c kind threshold limit (reading_is_a_codeword short i c word.0 word.1).1)) (back.2 i h cs there))

-- demand 3 for pages, of every outer decoder; 02, point 1: "With the choice on, both decoders still match on pages where no supercode search, first or second, met its limit"
module _ (outer : RowDecoder) (choice : Choice) (limit : ℕ) (page : List (List ℕ)) (none_ended : NoneEnded choice short outer level_values limit page) where
  -- the dead paths ahead of all column searches together
  abbrev pub all_dead_ahead : ℕ
  all_dead_ahead = sum_below short outer (short_reader choice supercode limit) page (dead_ahead choice short level_values limit) 4

  pub decoders_agree : Agree all_dead_ahead (decoded short outer (short_reader choice whole limit) page) (decoded short outer (short_reader choice supercode limit) page)
  decoders_agree = DecodersAgree.decoders_agree short Columns.searchable (lit< tt) one_code outer choice level_values limit page none_ended

  pub column_searches_differ_by_the_dead_ahead : AtEveryLevel short outer (short_reader choice supercode limit) page
      (λ i cs. Reaches short outer (short_reader choice whole limit) page i cs × All (λ c. Apart (dead_ahead choice short level_values limit i c) (short_reader choice whole limit i c) (short_reader choice supercode limit i c)) cs)
  column_searches_differ_by_the_dead_ahead i h cs at = (
    DecodersAgree.decoders_search_the_same_columns short Columns.searchable (lit< tt) one_code outer choice level_values limit page none_ended i (omega arith) cs at,
    DecodersAgree.column_searches_differ_by_the_dead_ahead short Columns.searchable (lit< tt) one_code outer choice level_values limit page none_ended i h cs at,
  )
