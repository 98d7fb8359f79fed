-- A page's outcome and symbols from what its levels left, and its data from its symbols. Assumes nothing.
use mathlib.Core.Bool.{true, false, true≢false}
use mathlib.Core.List.{List, map}
use mathlib.Core.Path.{◌≡◌, refl, sym, ap, ap₂, ◌∙◌, subst, subst⁻¹}
use Prim.Native.Nat.{ℕ}
use native.Mathlib.Omega.{arith}
use lib.Count.{ones}
use lib.IntN.{ℤ}
use lib.ListN.{length}
use Rattle.column.specs.Shape.{short}
use Rattle.reedsolomon.specs.Search.{WordOf}
use Rattle.concatenated.specs.Format.{short_page}
use Rattle.concatenated.specs.SoftPage.{Soft, soft_columns}
use Rattle.concatenated.specs.Decode.{Reader, Level, page_low, rows, PageAnswer, answered, refused, decoded}
use Rattle.concatenated.specs.Written.{rows_data, bytes_of_rows}
use Rattle.concatenated.specs.Symbols.{row_after_row, rows_in}
use Rattle.concatenated.specs.Marks.{changed_marks, erased_marks}
use Rattle.concatenated.specs.Arrays.{SoftColumns, Rows}
use Rattle.concatenated.specs.OuterCode.{short_outer, short_encoder, ShortCodeword}
use Rattle.levels.specs.Levels.{Ends, ColumnsDone}
use Rattle.page.specs.Outcomes.{PageOutcome, changed_totals, erased_totals, outcome_of, data_buffer, filled, symbol_buffer}
use Rattle.std.specs.Prelude.{Result, Ok, Err, is_ok}
use Rattle.questions.specs.declared.refusal.Question.TheVariants.{Reach}
use Rattle.questions.specs.declared.refusal.Refusal.{Refusal}
use Rattle.readings.specs.declared.Totals.{Totals}
use Rattle.levels.specs.declared.Levels.{Levels}
use Rattle.concatenated.proofs.Digits.{below_is_word}
use Rattle.concatenated.proofs.RowData.{rows_data_length, rows_data_in_range}
use Rattle.concatenated.proofs.Symbols.{row_in_is_a_word}
use Rattle.concatenated.proofs.RowsWritten.{answered_rows_come_back, answered_symbols_are_a_word}
use Rattle.concatenated.proofs.OuterJoint.{outer_laws}
use Rattle.concatenated.proofs.SoftPages.{as_many_columns, columns_are_soft}
use Rattle.concatenated.proofs.Short.{short_page_numbers}
use Rattle.concatenated.proofs.Marks.{ones_of_marks}

-- the columns of a soft page, as the code asks for them
pub soft_columns_lem : (soft : List ℕ) (columns : List (List ℕ)) → length soft ≡ 1890 → Soft soft → columns ≡ soft_columns short_page soft → SoftColumns columns
soft_columns_lem soft columns long h e =
    subst⁻¹ SoftColumns e (record { many = as_many_columns short_page soft; soft = columns_are_soft short_page soft long h })

-- what the levels left of an answer
pub record AnsweredBy (d : PageAnswer) (t : Totals) (held : Levels) : Type 0 where
  pub levels : List Level
  pub is : d ≡ answered levels t.steps
  pub low_is : t.low ≡ page_low levels
  pub rows_are : held.rows ≡ rows levels
  pub changed_are : held.changed ≡ changed_marks levels
  pub erased_are : held.erased ≡ erased_marks levels
  pub good : Rows held.rows
  pub four_changed : length held.changed ≡ 4
  pub four_erased : length held.erased ≡ 4

ok_is_not_refused : {t : Totals} {r : Refusal} → ◌≡◌ {A = Result Totals Refusal} (Ok t) (Err r) → ⊥
ok_is_not_refused e = cc e

module _ (read : Reader) (page : List (List ℕ)) (held : Levels) where
  pub is_answered : (t : Totals) → ColumnsDone read page (Ok t) held → AnsweredBy (decoded short short_outer read page) t held
  unfolding ColumnsDone
  is_answered t done = go (decoded short short_outer read page) done
    where
      go : (d : PageAnswer) → Ends d (Ok t) held → AnsweredBy d t held
      go (answered ls m) h =
          let same : t ≡ record { steps = m; low = page_low ls } = cc h.0 in
          record {
            levels = ls;
            is = ap (λ (x : Totals). answered ls x.steps) (sym same);
            low_is = ap (λ (x : Totals). x.low) same;
            rows_are = h.1;
            changed_are = h.2;
            erased_are = h.3;
            good = h.4;
            four_changed = h.5;
            four_erased = h.6;
          }
      go (refused l) h = absurd (ok_is_not_refused h)

  -- a refusal: number 10 with the level as its place, and the symbols as they were
  pub is_refused : (r : Refusal) → ColumnsDone read page (Err r) held → (Err r ≡ outcome_of (decoded short short_outer read page)) × ((old : List ℕ) → old ≡ filled symbol_buffer old (decoded short short_outer read page))
  unfolding ColumnsDone outcome_of filled
  is_refused r done = go (decoded short short_outer read page) done
    where
      go : (d : PageAnswer) → Ends d (Err r) held → (Err r ≡ outcome_of d) × ((old : List ℕ) → old ≡ filled symbol_buffer old d)
      go (answered ls m) h = absurd (ok_is_not_refused (sym h.0))
      go (refused k) h = let same : r ≡ record { question = Reach; place = k } = cc h in (ap (λ (x : Refusal). Err x) same, λ old. refl)

-- the outcome and the symbols of an answer
module _ (d : PageAnswer) (t : Totals) (held : Levels) (a : AnsweredBy d t held) where
  pub answered_outcome : (cs es : List ℕ) (low : ℤ) → cs ≡ map ones held.changed → es ≡ map ones held.erased → low ≡ t.low
      → ◌≡◌ {A = PageOutcome} (Ok (record { steps = t.steps; changed = cs; erased = es; changed_marks = held.changed; erased_marks = held.erased; low = low })) (outcome_of d)
  unfolding outcome_of
  answered_outcome cs es low ec ee el =
      ap₂ (λ (x y : List ℕ). the_outcome x y held.changed held.erased low)
      (ec ∙ ap (map ones) a.changed_are ∙ ones_of_marks (λ l. l.changed) a.levels)
      (ee ∙ ap (map ones) a.erased_are ∙ ones_of_marks (λ l. l.erased) a.levels)
      ∙ ap₂ (λ (x y : List ℕ). the_outcome (changed_totals a.levels) (erased_totals a.levels) x y low) a.changed_are a.erased_are
      ∙ ap (the_outcome (changed_totals a.levels) (erased_totals a.levels) (changed_marks a.levels) (erased_marks a.levels)) (el ∙ a.low_is)
      ∙ ap outcome_of (sym a.is)
    where
      the_outcome : List ℕ → List ℕ → List ℕ → List ℕ → ℤ → PageOutcome
      the_outcome cs es changed erased low = Ok (record { steps = t.steps; changed = cs; erased = es; changed_marks = changed; erased_marks = erased; low = low })

  pub answered_symbols : (old new : List ℕ) → new ≡ row_after_row held.rows → new ≡ filled symbol_buffer old d
  unfolding filled
  answered_symbols old new e = e ∙ ap row_after_row a.rows_are ∙ ap (filled symbol_buffer old) (sym a.is)

-- ---- symbols are packed

-- the data in front of the rows of a buffer are 200 symbols
pub fronts_are_a_word : (symbols fronts : List ℕ) → WordOf 64 252 symbols → fronts ≡ rows_data short_page (rows_in short_page symbols) 4 → WordOf 64 200 fronts
fronts_are_a_word symbols fronts word e =
    let rs = rows_in short_page symbols in
    let words = row_in_is_a_word short_page 64 symbols word in
    subst⁻¹ (WordOf 64 200) e
    (subst (λ (n : ℕ). WordOf 64 n (rows_data short_page rs 4)) (rows_data_length short_page rs words 4 (omega arith) ∙ short_page_numbers.5) (below_is_word 64 (rows_data short_page rs 4) (rows_data_in_range short_page rs words 4 (omega arith))))

-- decoding is asking and packing: what was asked for is an outcome and symbols
module _ (read : Reader) (page : List (List ℕ)) (o : PageOutcome) (is : o ≡ outcome_of (decoded short short_outer read page)) where
  -- an answer's symbols are in range, and the bytes of their rows are its data
  pub answer_is_packed : length page ≡ 63 → is_ok o ≡ true → (old symbols : List ℕ) → symbols ≡ filled symbol_buffer old (decoded short short_outer read page)
      → WordOf 64 252 symbols × ((kept new : List ℕ) → new ≡ bytes_of_rows short_page (rows_in short_page symbols) → new ≡ filled data_buffer kept (decoded short short_outer read page))
  unfolding outcome_of filled
  answer_is_packed wide done old symbols = go (decoded short short_outer read page) refl (sym (ap (λ (x : PageOutcome). is_ok x) is) ∙ done)
    where
      go : (d : PageAnswer) → decoded short short_outer read page ≡ d → is_ok (outcome_of d) ≡ true → symbols ≡ filled symbol_buffer old d
          → WordOf 64 252 symbols × ((kept new : List ℕ) → new ≡ bytes_of_rows short_page (rows_in short_page symbols) → new ≡ filled data_buffer kept d)
      go (refused l) ed z es = absurd (true≢false (sym z))
      go (answered ls n) ed z es = (
        subst⁻¹ (WordOf 64 252) es (answered_symbols_are_a_word short_page short_outer short_encoder ShortCodeword outer_laws read page wide ls n ed),
        λ kept new e. e ∙ ap (λ (x : List ℕ). bytes_of_rows short_page (rows_in short_page x)) es
            ∙ ap (bytes_of_rows short_page) (answered_rows_come_back short_page short_outer short_encoder ShortCodeword outer_laws read page wide ls n ed),
      )

  pub refusal_is_not_packed : is_ok o ≡ false → (kept : List ℕ) → kept ≡ filled data_buffer kept (decoded short short_outer read page)
  unfolding outcome_of filled
  refusal_is_not_packed other kept = go (decoded short short_outer read page) (sym (ap (λ (x : PageOutcome). is_ok x) is) ∙ other)
    where
      go : (d : PageAnswer) → is_ok (outcome_of d) ≡ false → kept ≡ filled data_buffer kept d
      go (answered ls n) f = absurd (true≢false f)
      go (refused l) f = refl
