-- 02, point 12: a page whose columns read as they were written comes back with no column changed and, where none is spent, none erased; else it is refused for its unread columns alone. Assumes nothing.
use mathlib.Core.Bool.{false, not}
use mathlib.Core.List.{List, [], ◌∷◌, map}
use mathlib.Core.Logic.{◌⊎◌, inl, inr, ⊎_elim}
use mathlib.Core.Path.{◌≡◌, refl, sym, ap, ◌∙◌, subst, subst⁻¹}
use Prim.Native.Nat.{ℕ, zero, suc, ◌+◌, ◌-◌, ◌*◌, ◌^◌, ◌≤◌, ◌<◌}
use native.Mathlib.Nat
use native.Mathlib.Omega.{arith}
use lib.Pow.{pow_mono}
use lib.ListN.{length, get_or}
use borrow.Author.Tests.{eq-eqb}
use Rattle.poly.specs.Polynomial.{add}
use Rattle.poly.proofs.Sum.{add_comm, add_again}
use Rattle.column.specs.Shape.{Shape, Sound, Word, levels, degree, level_code}
use Rattle.column.specs.Level.{level_word, highest}
use Rattle.column.proofs.Levels.{sum_is_word}
use Rattle.trellis.specs.Trellis.{WordFound}
use Rattle.concatenated.specs.Lists.{All, sum, total, listed}
use Rattle.concatenated.specs.Format.{Format, SoundFormat, data_length}
use Rattle.concatenated.specs.Outer.{RowDecoder, RowEncoder, OuterLaws}
use Rattle.concatenated.specs.SoftPage.{Soft, hard_reading, column_off}
use Rattle.concatenated.specs.Decode.{Reading, found, spent, Reader, mark, marks, count, steps, row_off, Level, level, going, answered, run, Reaches, AtEveryLevel, outcome, decoded}
use Rattle.concatenated.specs.Written.{written_rows, column_symbols, columns_of, row_at, written_sum, bytes_of_rows}
use Rattle.concatenated.specs.Misread.{other_than, others_than, misread}
use Rattle.concatenated.specs.Readers.{AllRead}
use Rattle.concatenated.specs.Clean.{BackUnchanged, BackUnharmed, TooManyUnread, ReadsAsAWord, ReadsAs, FindsTheReading, TakesTheReading}
use Rattle.concatenated.proofs.Lists.{all_map, all_listed}
use Rattle.concatenated.proofs.Digits.{Below}
use Rattle.concatenated.proofs.TakingOff.{off_length, column_stays_soft, taking_off_adds_to_the_reading}
use Rattle.concatenated.proofs.Columns.{row_off_all, cleared, altered_columns_are_misread}
use Rattle.concatenated.proofs.Encoding.{columns_of_length, written_row_is_a_codeword, row_of_written_columns, rows_of_written_columns, written_symbols_in_range, written_sums_reimage, written_rows_hold_the_data}
use Rattle.concatenated.proofs.RowsBack.{readings, written_level, written_steps, rows_are_written, TrueWithinReach, comes_to, comes_to_or_stops}
use Rattle.concatenated.proofs.Answers.{going_inj}
use Rattle.concatenated.proofs.Searches.{found_inj}

none_marked : (read : List ℕ → Reading) (cs : List (List ℕ)) → All (λ c. mark (read c) ≡ false) cs → total (marks (map read cs)) ≡ 0
unfolding total
none_marked read [] h = refl
none_marked read (c ∷ cs) h = rw h.0 (omega (arith, none_marked read cs h.1))

-- columns that are each found without a step take none together
no_steps : (read : List ℕ → Reading) (cs : List (List ℕ)) → All (λ c. (w : WordFound) × (read c ≡ found w 0)) cs → steps (map read cs) ≡ 0
unfolding sum count
no_steps read [] h = refl
no_steps read (c ∷ cs) h = rw h.0.1 (omega (arith, no_steps read cs h.1))

-- who takes a column as it reads finds its reading
pub taking_is_finding : (S : Shape) (read : Reader) → TakesTheReading S read → FindsTheReading S read
taking_is_finding S read takes i h c w n word e =
    let t = takes i h c word in
    ap (λ (x : WordFound). x.column) (found_inj w t.0 n 0 (sym e ∙ t.2)).0 ∙ t.1

module _ (S : Shape) (ok : Sound S) where
  -- the symbols of a written column are in range
  abbrev InRange : List ℕ → Type 0
  InRange s = (i : ℕ) → i < levels S → get_or s i 0 < 2 ^ S.symbol

  -- a soft column of the page
  abbrev pub SoftColumn : List ℕ → Type 0
  SoftColumn c = (length c ≡ S.bits) × Soft c

  pub stays_a_soft_column : (w : ℕ) (c : List ℕ) → SoftColumn c → SoftColumn (column_off w c)
  stays_a_soft_column w c h = (off_length w c ∙ h.0, column_stays_soft w c h.1)

  level_word_fits : (i s : ℕ) → i < levels S → s < 2 ^ S.symbol → level_word S i s < 2 ^ S.bits
  unfolding degree
  level_word_fits i s h hs =
      let one : 1 ≤ levels S - i = omega arith in
      let wide : S.symbol ≤ S.symbol * (levels S - i) = subst (λ (t : ℕ). t ≤ S.symbol * (levels S - i)) (Nat.mul-one S.symbol) (Nat.mul-le-mul_left S.symbol one) in
      let room : S.symbol * (levels S - i) ≤ S.bits = Nat.le_trans (Nat.mul-le-mul_left S.symbol (Nat.sub-le (levels S) i)) ok.room in
      let fits : degree S i + S.symbol ≤ S.bits = omega arith in
      Nat.lt_of_lt_of_le (Rattle.column.proofs.Levels.level_word_zeros S ok i s h hs) (pow_mono fits)

  -- the sum from level i on is that of the next level and one word more
  sum_from_next : (i : ℕ) (s : List ℕ) → i < levels S → written_sum S i s ≡ add (written_sum S (suc i) s) (level_word S i (get_or s i 0))
  unfolding written_sum highest
  sum_from_next i s h =
      let e : levels S - i ≡ suc (levels S - suc i) = omega arith in
      let f : levels S - suc (levels S - suc i) ≡ i = omega arith in
      ap (highest S (λ k. get_or s k 0)) e ∙ ap (λ (t : ℕ). add (highest S (λ k. get_or s k 0) (levels S - suc i)) (level_word S t (get_or s t 0))) f

  -- the written word of a level taken off: what is left reads as the sum from the next level on
  column_reads_on : (i : ℕ) (c s : List ℕ) → i < levels S → SoftColumn c → InRange s → hard_reading c ≡ written_sum S i s → hard_reading (column_off (level_word S i (get_or s i 0)) c) ≡ written_sum S (suc i) s
  column_reads_on i c s h soft range e =
      let w : ℕ = level_word S i (get_or s i 0) in
      taking_off_adds_to_the_reading w c soft.1 (subst⁻¹ (λ (k : ℕ). w < 2 ^ k) soft.0 (level_word_fits i (get_or s i 0) h (range i h)))
      ∙ ap (add w) (e ∙ sum_from_next i s h ∙ add_comm (written_sum S (suc i) s) w) ∙ add_again w (written_sum S (suc i) s)

  reads_on : (i : ℕ) → i < levels S → (cs ws : List (List ℕ)) → All SoftColumn cs → All InRange ws → ReadsAs S i cs ws → ReadsAs S (suc i) (row_off S i (row_at i ws) cs) ws
  unfolding row_off row_at
  reads_on i h [] [] soft range e = tt
  reads_on i h [] (s ∷ ws) soft range e = absurd e
  reads_on i h (c ∷ cs) [] soft range e = absurd e
  reads_on i h (c ∷ cs) (s ∷ ws) soft range e = (column_reads_on i c s h soft.0 range.0 e.0, reads_on i h cs ws soft.1 range.1 e.1)

  column_reads_as_a_word : (i : ℕ) (c s : List ℕ) → i < levels S → SoftColumn c → InRange s → hard_reading c ≡ written_sum S i s → ReadsAsAWord S i c
  unfolding written_sum
  column_reads_as_a_word i c s h soft range e = (soft.0, subst⁻¹ (Word S.bits (level_code S i)) e (sum_is_word S ok (λ k. get_or s k 0) i range h))

  columns_read_as_words : (i : ℕ) → i < levels S → (cs ws : List (List ℕ)) → All SoftColumn cs → All InRange ws → ReadsAs S i cs ws → All (ReadsAsAWord S i) cs
  columns_read_as_words i h [] [] soft range e = tt
  columns_read_as_words i h [] (s ∷ ws) soft range e = absurd e
  columns_read_as_words i h (c ∷ cs) [] soft range e = absurd e
  columns_read_as_words i h (c ∷ cs) (s ∷ ws) soft range e = (column_reads_as_a_word i c s h soft.0 range.0 e.0, columns_read_as_words i h cs ws soft.1 range.1 e.1)

  none_misread : (read : Reader) → FindsTheReading S read → (i : ℕ) → i < levels S → (cs vs : List (List ℕ)) → All SoftColumn cs → All InRange vs → ReadsAs S i cs vs
      → total (misread S i vs (map (read i) cs)) ≡ 0
  unfolding total others_than other_than
  none_misread read finds i h [] [] soft range e = refl
  none_misread read finds i h [] (s ∷ vs) soft range e = absurd e
  none_misread read finds i h (c ∷ cs) [] soft range e = absurd e
  none_misread read finds i h (c ∷ cs) (s ∷ vs) soft range e =
      rw (right (read i c) refl) (omega (arith, none_misread read finds i h cs vs soft.1 range.1 e.1))
    where
      right : (r : Reading) → read i c ≡ r → other_than (written_sum S i s) (read i c) ≡ false
      right (spent n) f = ap (other_than (written_sum S i s)) f
      right (found v n) f =
          let word = column_reads_as_a_word i c s h soft.0 range.0 e.0 in
          ap (other_than (written_sum S i s)) f ∙ ap not (eq-eqb v.column (written_sum S i s) (finds i h c v n word f ∙ e.0))

  module _ (ws page : List (List ℕ)) (soft : All SoftColumn page) (range : All InRange ws) (clean : ReadsAs S 0 page ws) where
    cleared_soft : (i : ℕ) → All SoftColumn (cleared S ws page i)
    unfolding cleared
    cleared_soft zero = soft
    cleared_soft (suc i) = row_off_all S SoftColumn stays_a_soft_column i (row_at i ws) (cleared S ws page i) (cleared_soft i)

    -- the columns with the written words of the lower levels taken off read as the sums of the others
    cleared_reads : (i : ℕ) → i ≤ levels S → ReadsAs S i (cleared S ws page i) ws
    unfolding cleared
    cleared_reads zero h = clean
    cleared_reads (suc i) h = let k : i < levels S = omega arith in reads_on i k (cleared S ws page i) ws (cleared_soft i) range (cleared_reads i (omega arith))

-- ---- the written page, each column of which reads as it was written

module _ (P : Format) (ok : SoundFormat P) (outer : RowDecoder) (encoded : RowEncoder) (Codeword : ℕ → List ℕ → Type 0) (laws : OuterLaws P outer encoded Codeword) (bytes : List ℕ) (full : length bytes ≡ data_length P) (are_bytes : Below 256 bytes)
    (page : List (List ℕ)) (wide : length page ≡ P.columns) (soft : All (SoftColumn P.shape ok.shape_sound) page)
    (clean : ReadsAs P.shape 0 page (columns_of P.columns (written_rows P encoded bytes))) where
  abbrev T : Shape
  T = P.shape

  abbrev ws : List (List ℕ)
  ws = columns_of P.columns (written_rows P encoded bytes)

  -- the columns as the decoder comes to level i
  abbrev at : ℕ → List (List ℕ)
  at i = cleared T ws page i

  in_range : All (InRange T ok.shape_sound) ws
  unfolding columns_of
  in_range = all_listed (InRange T ok.shape_sound) (column_symbols (written_rows P encoded bytes)) P.columns (written_symbols_in_range P ok outer encoded Codeword laws bytes)

  codewords : (i : ℕ) → i < levels T → Codeword i (row_at i ws)
  codewords i h = subst⁻¹ (Codeword i) (row_of_written_columns P ok outer encoded Codeword laws bytes i h) (written_row_is_a_codeword P ok outer encoded Codeword laws bytes i h)

  soft_at : (i : ℕ) → All (SoftColumn T ok.shape_sound) (at i)
  soft_at = cleared_soft T ok.shape_sound ws page soft in_range clean

  reads_at : (i : ℕ) → i < levels T → ReadsAs T i (at i) ws
  reads_at i h = cleared_reads T ok.shape_sound ws page soft in_range clean i (omega arith)

  -- each reads as a word of the level
  words_at : (i : ℕ) → i < levels T → All (ReadsAsAWord T i) (at i)
  words_at i h = columns_read_as_words T ok.shape_sound i h (at i) ws (soft_at i) in_range (reads_at i h)

  -- ---- any reader that finds such a word, if it finds one

  module _ (read : Reader) (finds : FindsTheReading T read) where
    nothing_misread : (i : ℕ) → i < levels T → total (misread T i ws (readings T read ws page i)) ≡ 0
    nothing_misread i h = none_misread T ok.shape_sound read finds i h (at i) ws (soft_at i) in_range (reads_at i h)

    nothing_changed : All (λ l. total l.changed ≡ 0) (listed (written_level T read ws page) (levels T))
    unfolding written_level level
    nothing_changed =
        all_listed (λ (l : Level). total l.changed ≡ 0) (written_level T read ws page) (levels T)
        (λ i h. omega (arith, nothing_misread i h, altered_columns_are_misread T i (readings T read ws page i) ws (all_map ws (λ s f. f i h) (written_sums_reimage P ok outer encoded Codeword laws bytes))))

    unchanged : decoded T outer read page ≡ answered (listed (written_level T read ws page) (levels T)) (written_steps T read ws page (levels T)) → BackUnchanged P encoded bytes (decoded T outer read page)
    unchanged e =
        let same = rows_are_written T read ws page (levels T) ∙ rows_of_written_columns P ok outer encoded Codeword laws bytes in
        record {
          levels = _;
          steps = _;
          answered_so = e;
          rows_are_written = same;
          data_are = ap (bytes_of_rows P) same ∙ written_rows_hold_the_data P ok outer encoded Codeword laws bytes full are_bytes;
          none_changed = nothing_changed;
        }

    -- right readings never mislead: the data comes back with no column changed, or the page is refused, and then for its unread columns alone
    pub clean_page_comes_back_or_is_refused : BackUnchanged P encoded bytes (decoded T outer read page) ⊎ TooManyUnread P outer read page (decoded T outer read page)
    unfolding decoded outcome
    clean_page_comes_back_or_is_refused =
        ⊎_elim (λ e. inl (unchanged (ap outcome e)))
        (λ stop.
        let s = stop.1 in
        inr (record { level = stop.0; is_a_level = s.level_exists; refused_there = ap outcome s.stops; columns = at stop.0; reached = (_, _, s.comes_there); too_many = omega (arith, s.too_many) }))
        (comes_to_or_stops P outer encoded Codeword laws read ws page (columns_of_length P.columns (written_rows P encoded bytes)) wide codewords (written_sums_reimage P ok outer encoded Codeword laws bytes)
        (λ i h few. omega (arith, nothing_misread i h, few)) (levels T) (omega arith))

    -- ---- where no column is spent

    module _ (all_read : (i : ℕ) → i < levels T → Reaches T outer read page i (at i) → AllRead read i (at i)) where
      within : TrueWithinReach P outer encoded Codeword laws read ws page (columns_of_length P.columns (written_rows P encoded bytes)) wide codewords (written_sums_reimage P ok outer encoded Codeword laws bytes)
      within i h there = omega (arith, nothing_misread i h, none_marked (read i) (at i) (all_read i h there))

      comes : (i : ℕ) → i ≤ levels T → run T outer read page i ≡ going (at i) (listed (written_level T read ws page) i) (written_steps T read ws page i)
      comes = comes_to P outer encoded Codeword laws read ws page (columns_of_length P.columns (written_rows P encoded bytes)) wide codewords (written_sums_reimage P ok outer encoded Codeword laws bytes) within

      pub clean_page_comes_back : BackUnharmed P encoded bytes (decoded T outer read page)
      unfolding decoded outcome written_level level unchanged
      clean_page_comes_back = record {
        unchanged = unchanged (ap outcome (comes (levels T) (omega arith)));
        none_erased =
            all_listed (λ (l : Level). total l.erased ≡ 0) (written_level T read ws page) (levels T) (λ i h. none_marked (read i) (at i) (all_read i h (_, _, comes i (omega arith))));
      }

      -- the steps are those of reading these columns
      clean_page_steps : clean_page_comes_back.unchanged.steps ≡ written_steps T read ws page (levels T)
      unfolding clean_page_comes_back unchanged
      clean_page_steps = refl

      -- at every level that the decoder comes to, each column reads as a word of the level
      every_column_reads_as_a_word : AtEveryLevel T outer read page (λ i cs. All (ReadsAsAWord T i) cs)
      every_column_reads_as_a_word i h cs there =
          subst (All (ReadsAsAWord T i)) (going_inj (at i) cs _ there.0 _ there.1 (sym (comes i (omega arith)) ∙ there.2)).0 (words_at i h)

  -- ---- a reader that takes such a column as it reads: nothing is spent, and no step is taken

  module _ (read : Reader) (takes : TakesTheReading T read) where
    read_at : (i : ℕ) → i < levels T → AllRead read i (at i)
    unfolding mark
    read_at i h = all_map (at i) (λ c word. ap mark (takes i h c word).2) (words_at i h)

    no_steps_at : (i : ℕ) → i < levels T → steps (readings T read ws page i) ≡ 0
    no_steps_at i h = no_steps (read i) (at i) (all_map (at i) (λ c word. let t = takes i h c word in (t.0, t.2)) (words_at i h))

    no_steps_below : (i : ℕ) → i ≤ levels T → written_steps T read ws page i ≡ 0
    unfolding written_steps
    no_steps_below zero h = refl
    no_steps_below (suc i) h = omega (arith, no_steps_below i (omega arith), no_steps_at i (omega arith))

    pub taken_page_comes_back : (back : BackUnharmed P encoded bytes (decoded T outer read page)) × (back.unchanged.steps ≡ 0) × AtEveryLevel T outer read page (λ i cs. All (ReadsAsAWord T i) cs)
    taken_page_comes_back =
        let finds = taking_is_finding T read takes in
        let all_read : (i : ℕ) → i < levels T → Reaches T outer read page i (at i) → AllRead read i (at i) = λ i h there. read_at i h in
        (clean_page_comes_back read finds all_read, clean_page_steps read finds all_read ∙ no_steps_below (levels T) (omega arith), every_column_reads_as_a_word read finds all_read)
