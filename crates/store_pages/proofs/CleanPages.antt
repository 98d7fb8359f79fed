-- 02, point 12, of the calls: right readings never mislead. A page whose soft values read as the written bits comes back with no column changed, from decoding and asking alike; under list of two no search is made. Assumes nothing.
use mathlib.Core.Bool.{Bool, true}
use mathlib.Core.List.{List, [], map}
use mathlib.Core.Logic.{◌⊎◌, inl, inr, ⊎_elim}
use mathlib.Core.Path.{◌≡◌, refl, sym, ap, ap₂, ◌∙◌, subst, subst⁻¹}
use Prim.Native.Nat.{ℕ, ◌*◌, ◌≤◌, ◌<◌}
use native.Mathlib.Omega.{arith}
use lib.IntN.{ℤ}
use lib.ListN.{length, length-map, get_or, replicate}
use Rattle.column.specs.Shape.{short}
use Rattle.dump.specs.Accepted.{Values}
use Rattle.reedsolomon.specs.Search.{WordOf}
use Rattle.trellis.specs.Values.{level_values}
use Rattle.trellis.specs.Demand.{Search}
use Rattle.trellis.specs.TwoWords.{Choice, off, on, threshold_allowed}
use Rattle.concatenated.specs.Lists.{All, total}
use Rattle.concatenated.specs.Format.{short_page}
use Rattle.concatenated.specs.SoftPage.{soft_columns}
use Rattle.concatenated.specs.Decode.{Level, PageAnswer, rows, page_low}
use Rattle.concatenated.specs.Marks.{mark_of, changed_marks, erased_marks}
use Rattle.concatenated.specs.Written.{written_row, written_rows, bytes_of_rows}
use Rattle.concatenated.specs.Symbols.{rows_in}
use Rattle.concatenated.specs.Readers.{short_reader, NoColumnSpent}
use Rattle.concatenated.specs.Clean.{BackUnchanged, BackUnharmed, TooManyUnread, NoSearchMade}
use Rattle.concatenated.specs.OuterCode.{short_outer, short_encoder, ShortCodeword}
use Rattle.concatenated.proofs.Digits.{Below}
use Rattle.concatenated.proofs.Lists.{all_by_entries, listed_length}
use Rattle.concatenated.proofs.Marks.{none_at_any_level}
use Rattle.concatenated.proofs.OuterJoint.{outer_laws}
use Rattle.concatenated.proofs.Encoding.{row_listed, written_row_is_a_codeword, written_row_is_a_word, written_rows_hold_the_data}
use Rattle.concatenated.proofs.Symbols.{row_after_row_is_a_word, rows_are_in_their_places, row_in_at}
use Rattle.concatenated.proofs.Short as Short
use Rattle.page.specs.Outcomes.{no_columns, report_of, outcome_of, Buffer, data_buffer, symbol_buffer, filled, PageOutcome, report}
use Rattle.page.specs.declared.Report.{Report}
use Rattle.questions.specs.Answer.{after, Outcome, done as all_done}
use Rattle.std.specs.Prelude.{Ok}
use Rattle.store_pages.specs.Pages.{decoded_page, PageFilled, PageDecoded, PageAsked, ListDecoded, ListAsked}
use Rattle.store_pages.specs.Committing.{held_bytes, Committed, FourWords}
use Rattle.store_pages.specs.CleanPages.{RightReadings, written_symbols, CameBackUnharmed, CameBackUnchanged, RefusedForUnread}
use Rattle.store_pages.proofs.SoftValues.{page_is_soft}
use Rattle.store_pages.proofs.Asked.{accepted_call}
use Rattle.store_pages.proofs.Committing.{commit_accepts_exactly}

abbrev to_outcome : Report → PageOutcome
to_outcome r = Ok r

abbrev written : List ℕ → List (List ℕ)
written = written_rows short_page short_encoder

-- ---- reports

module _ (bytes : List ℕ) (ls : List Level) (same : rows ls ≡ written bytes) where
  four_zeros : replicate {A = ℕ} (length ls) 0 ≡ replicate 4 0
  unfolding rows written_rows
  four_zeros = ap (λ (n : ℕ). replicate {A = ℕ} n 0) (sym (length-map ls (λ l. l.symbols)) ∙ ap length same ∙ listed_length (written_row short_page short_encoder bytes) 4)

  none_in : (f : Level → List Bool) → All (λ l. total (f l) ≡ 0) ls → (map (λ l. total (f l)) ls ≡ replicate 4 0) × (map (λ l. mark_of (f l)) ls ≡ replicate 4 0)
  none_in f none = let zeros = none_at_any_level f ls none in (zeros.0 ∙ four_zeros, zeros.1 ∙ four_zeros)

  -- where no level changed or erased a column
  no_columns_reported : (n : ℕ) → All (λ l. total l.changed ≡ 0) ls → All (λ l. total l.erased ≡ 0) ls → report_of ls n ≡ no_columns n (page_low ls)
  no_columns_reported n unchanged unerased =
      let c = none_in (λ l. l.changed) unchanged in
      let e = none_in (λ l. l.erased) unerased in
      ap₂ (λ cs es. record { steps = n; changed = cs; erased = es; changed_marks = changed_marks ls; erased_marks = erased_marks ls; low = page_low ls }) c.0 e.0
      ∙ ap₂ (λ cs es. record { steps = n; changed = replicate 4 0; erased = replicate 4 0; changed_marks = cs; erased_marks = es; low = page_low ls }) c.1 e.1

-- ---- the written rows, in the buffers of the calls

module _ (bytes : List ℕ) (are_bytes : Values 150 255 bytes) where
  below_256 : Below 256 bytes
  below_256 = all_by_entries (λ d. d < 256) bytes 0 (λ j l. omega (arith, are_bytes.range j (omega (arith, are_bytes.size, l))))

  written_rows_pack_to_the_data : bytes_of_rows short_page (written bytes) ≡ bytes
  written_rows_pack_to_the_data = written_rows_hold_the_data short_page Short.short_page_sound short_outer short_encoder ShortCodeword outer_laws bytes are_bytes.size below_256

  -- the symbols that asking fills in for a clean page are taken by committing, which writes the data
  pub written_symbols_commit_to_the_data : (kept : List ℕ) (committed : Outcome) (new : List ℕ) → length kept ≡ 150 → Committed (written_symbols bytes) kept committed new → (committed ≡ all_done) × (new ≡ bytes)
  unfolding written_rows
  written_symbols_commit_to_the_data kept committed new room commit =
      let many : length (written bytes) ≡ 4 = listed_length (written_row short_page short_encoder bytes) 4 in
      let word : (i : ℕ) → i < length (written bytes) → WordOf 64 63 (get_or (written bytes) i []) = λ i h.
      subst⁻¹ (WordOf 64 63) (row_listed short_page Short.short_page_sound short_outer short_encoder ShortCodeword outer_laws bytes i (omega (arith, many, h)))
      (written_row_is_a_word short_page Short.short_page_sound short_outer short_encoder ShortCodeword outer_laws bytes i (omega (arith, many, h))) in
      let all = row_after_row_is_a_word 64 63 (written bytes) word in
      let rows_back : rows_in short_page (written_symbols bytes) ≡ (written bytes) = rows_are_in_their_places short_page (written bytes) many all.0 in
      let four : FourWords (written_symbols bytes) = record {
        long = all.1.0 ∙ ap (λ (n : ℕ). n * 63) many;
        words = λ i h.
            subst⁻¹ (ShortCodeword i)
            (sym (row_in_at short_page (written_symbols bytes) i h) ∙ ap (λ (x : List (List ℕ)). get_or x i []) rows_back ∙ row_listed short_page Short.short_page_sound short_outer short_encoder ShortCodeword outer_laws bytes i h)
            (written_row_is_a_codeword short_page Short.short_page_sound short_outer short_encoder ShortCodeword outer_laws bytes i h);
      } in
      let taken = (commit_accepts_exactly (written_symbols bytes) kept committed new commit).1 (four, room) in
      (taken, commit.bytes ∙ ap (λ (o : Outcome). after o (held_bytes (written_symbols bytes)) kept) (sym commit.answer ∙ taken) ∙ ap (bytes_of_rows short_page) rows_back ∙ written_rows_pack_to_the_data)

-- ---- the calls

module _ (bytes soft : List ℕ) (right : RightReadings bytes soft) (limit : ℕ) (some : 1 ≤ limit) (at_most : limit ≤ 2000) (s : Search) where
  -- a call of either kind whose buffer has its places
  module _ (B : Buffer) (choice : Choice) (in_range : threshold_allowed choice ≡ true) (old : List ℕ) (room : length old ≡ B.places) (r : PageOutcome) (new : List ℕ) (call : PageFilled B choice s soft limit old r new) where
    abbrev page : PageAnswer
    page = decoded_page choice s soft limit

    made : (r ≡ outcome_of page) × (new ≡ filled B old page)
    made = accepted_call (decoded_page choice s soft limit) B choice soft limit old right.are_values some at_most in_range room r new call

    reports : (back : BackUnchanged short_page short_encoder bytes page) → r ≡ Ok (report_of back.levels back.steps)
    unfolding outcome_of
    reports back = made.0 ∙ ap outcome_of back.answered_so

    holds_the_rows : BackUnchanged short_page short_encoder bytes page → new ≡ B.made (written bytes)
    unfolding filled
    holds_the_rows back = made.1 ∙ ap (filled B old) back.answered_so ∙ ap B.made back.rows_are_written

    came_back_unchanged : BackUnchanged short_page short_encoder bytes page → CameBackUnchanged page (B.made (written bytes)) r new
    came_back_unchanged back =
        let e = reports back in
        let none = none_in bytes back.levels back.rows_are_written (λ l. l.changed) back.none_changed in
        record {
          levels = back.levels;
          steps = back.steps;
          answered_so = back.answered_so;
          outcome = e;
          changed = ap (λ (x : PageOutcome). (report x).changed) e ∙ none.0;
          changed_marks_are = ap (λ (x : PageOutcome). (report x).changed_marks) e ∙ none.1;
          holds = holds_the_rows back;
        }

    came_back_unharmed : (back : BackUnharmed short_page short_encoder bytes page) → CameBackUnharmed page (B.made (written bytes)) r new × ((report r).steps ≡ back.unchanged.steps)
    unfolding came_back_unchanged
    came_back_unharmed back =
        let u = back.unchanged in
        let e = reports u ∙ ap to_outcome (no_columns_reported bytes u.levels u.rows_are_written u.steps u.none_changed back.none_erased) in
        (record { unchanged = came_back_unchanged u; outcome = e }, ap (λ (x : PageOutcome). (report x).steps) e)

    refused_for_unread : TooManyUnread short_page short_outer (short_reader choice s limit) (soft_columns short_page soft) page → RefusedForUnread choice s soft limit old r new
    unfolding outcome_of filled
    refused_for_unread many = record { unread = many; outcome = made.0 ∙ ap outcome_of many.refused_there; holds = made.1 ∙ ap (filled B old) many.refused_there }

    -- whatever is spent: no column changed, or refused for unread columns
    never_misled : CameBackUnchanged page (B.made (written bytes)) r new ⊎ RefusedForUnread choice s soft limit old r new
    never_misled =
        ⊎_elim (λ back. inl (came_back_unchanged back)) (λ many. inr (refused_for_unread many))
        (Short.clean_page_comes_back_or_is_refused short_outer short_encoder ShortCodeword outer_laws bytes right.are_bytes.size (below_256 bytes right.are_bytes) soft right.are_values.size (page_is_soft soft right.are_values) right.read_as_written s limit choice)

  -- decoding leaves the data, asking the written symbols
  data_held : (answer : PageAnswer) (r : PageOutcome) (new : List ℕ) → CameBackUnharmed answer (data_buffer.made (written bytes)) r new → CameBackUnharmed answer bytes r new
  data_held answer r new = subst (λ (x : List ℕ). CameBackUnharmed answer x r new) (written_rows_pack_to_the_data bytes right.are_bytes)

  -- "if each soft value reads as the written bit, at any sureness, and no column is spent, the data comes back with no column changed", and none erased
  module _ (all_read : NoColumnSpent short short_outer (short_reader off s limit) (soft_columns short_page soft)) where
    unharmed : BackUnharmed short_page short_encoder bytes (decoded_page off s soft limit)
    unharmed = Short.clean_page_comes_back short_outer short_encoder ShortCodeword outer_laws bytes right.are_bytes.size (below_256 bytes right.are_bytes) soft right.are_values.size (page_is_soft soft right.are_values) right.read_as_written s limit all_read

    pub clean_page_comes_back_from_decoding : (old : List ℕ) → length old ≡ 150 → (r : PageOutcome) (new : List ℕ) → PageDecoded s soft limit old r new → CameBackUnharmed (decoded_page off s soft limit) bytes r new
    clean_page_comes_back_from_decoding old room r new call = data_held _ r new (came_back_unharmed data_buffer off refl old room r new call unharmed).0

    pub clean_page_comes_back_from_asking : (old : List ℕ) → length old ≡ 252 → (r : PageOutcome) (new : List ℕ) → PageAsked s soft limit old r new → CameBackUnharmed (decoded_page off s soft limit) (written_symbols bytes) r new
    clean_page_comes_back_from_asking old room r new call = (came_back_unharmed symbol_buffer off refl old room r new call unharmed).0

  -- "Under list of two the same holds, and no search is made.": in 0 steps, for every threshold that is allowed and every limit
  module _ (threshold : ℤ) (in_range : threshold_allowed (on threshold) ≡ true) where
    abbrev Unsearched : Type 0
    Unsearched = NoSearchMade short short_outer level_values threshold s limit (soft_columns short_page soft)

    unsearched : (back : BackUnharmed short_page short_encoder bytes (decoded_page (on threshold) s soft limit)) × (back.unchanged.steps ≡ 0) × Unsearched
    unsearched = Short.clean_page_comes_back_unsearched short_outer short_encoder ShortCodeword outer_laws bytes right.are_bytes.size (below_256 bytes right.are_bytes) soft right.are_values.size (page_is_soft soft right.are_values) right.read_as_written s limit threshold

    pub clean_page_comes_back_unsearched_from_decoding : (old : List ℕ) → length old ≡ 150 → (r : PageOutcome) (new : List ℕ) → ListDecoded threshold s soft limit old r new
        → CameBackUnharmed (decoded_page (on threshold) s soft limit) bytes r new × ((report r).steps ≡ 0) × Unsearched
    clean_page_comes_back_unsearched_from_decoding old room r new call =
        let back = came_back_unharmed data_buffer (on threshold) in_range old room r new call unsearched.0 in (data_held _ r new back.0, back.1 ∙ unsearched.1, unsearched.2)

    pub clean_page_comes_back_unsearched_from_asking : (old : List ℕ) → length old ≡ 252 → (r : PageOutcome) (new : List ℕ) → ListAsked threshold s soft limit old r new
        → CameBackUnharmed (decoded_page (on threshold) s soft limit) (written_symbols bytes) r new × ((report r).steps ≡ 0) × Unsearched
    clean_page_comes_back_unsearched_from_asking old room r new call =
        let back = came_back_unharmed symbol_buffer (on threshold) in_range old room r new call unsearched.0 in (back.0, back.1 ∙ unsearched.1, unsearched.2)

  -- right readings never mislead, with list of two or without, whatever is spent: what comes back is the written data with no column changed, else the page is refused for its unread columns
  module _ (choice : Choice) (in_range : threshold_allowed choice ≡ true) where
    pub right_readings_never_mislead_decoding : (old : List ℕ) → length old ≡ 150 → (r : PageOutcome) (new : List ℕ) → PageFilled data_buffer choice s soft limit old r new
        → CameBackUnchanged (decoded_page choice s soft limit) bytes r new ⊎ RefusedForUnread choice s soft limit old r new
    right_readings_never_mislead_decoding old room r new call =
        ⊎_elim (λ back. inl (subst (λ (x : List ℕ). CameBackUnchanged (decoded_page choice s soft limit) x r new) (written_rows_pack_to_the_data bytes right.are_bytes) back)) (λ refusal. inr refusal)
        (never_misled data_buffer choice in_range old room r new call)

    pub right_readings_never_mislead_asking : (old : List ℕ) → length old ≡ 252 → (r : PageOutcome) (new : List ℕ) → PageFilled symbol_buffer choice s soft limit old r new
        → CameBackUnchanged (decoded_page choice s soft limit) (written_symbols bytes) r new ⊎ RefusedForUnread choice s soft limit old r new
    right_readings_never_mislead_asking old room r new call = never_misled symbol_buffer choice in_range old room r new call
