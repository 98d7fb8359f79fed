-- 02, point 7, of the call: which buffers committing takes and which it turns away by 14, and that what it writes encodes to their rows again. Assumes nothing.
use mathlib.Core.Bool.{true, false, true≢false}
use mathlib.Core.List.{List, []}
use mathlib.Core.Logic.{◌↔◌, ⊎_elim}
use mathlib.Core.Path.{◌≡◌, sym, ap, ◌∙◌, subst, subst⁻¹}
use Prim.Native.Nat.{ℕ, ◌*◌, ◌≤◌, ◌<◌}
use native.Mathlib.Decide.{ℕ_discrete}
use native.Mathlib.Omega.{arith}
use borrow.Author.Tests.{eq-eqb, eqb-true, le-leb, leb-true, leb-false, lt-leb}
use lib.Dec.{eqb, leb, lit<}
use lib.ListN.{length, get_or}
use Rattle.paths.proofs.Booleans.{is_false}
use Rattle.poly.proofs.Sum.{lt_or_le}
use Rattle.field.proofs.Short.{primitive64}
use Rattle.reedsolomon.specs.Search.{WordOf}
use Rattle.reedsolomon.specs.Words.{errors}
use Rattle.reedsolomon.specs.Row.{symbol, marked}
use Rattle.reedsolomon.specs.ShortRows.{short_roots}
use Rattle.reedsolomon.proofs.Deciding.{close_words_are_equal}
use Rattle.concatenated.specs.Format.{short_page}
use Rattle.concatenated.specs.Written.{written_rows, written_page, page_in_bytes, bytes_of_rows}
use Rattle.concatenated.specs.Symbols.{row_after_row, row_in, rows_in, LowestNoWord}
use Rattle.concatenated.specs.OuterCode.{short_outer, short_encoder, ShortCodeword, is_short_codeword}
use Rattle.concatenated.proofs.Digits.{repacked_length}
use Rattle.concatenated.proofs.Short.{short_page_sound}
use Rattle.concatenated.proofs.OuterJoint.{outer_laws, short_codeword_is_told, told_is_a_short_codeword}
use Rattle.concatenated.proofs.Symbols.{row_after_row_is_a_word, buffer_is_its_rows, as_many_rows_in, row_in_at, row_in_is_a_word, lowest_no_word_is_it, lowest_no_word_is_the_only_one}
use Rattle.concatenated.proofs.RowsWritten.{rows_are_written_again}
use Rattle.questions.specs.Answer.{after, Outcome, refused as refused_by, done as all_done}
use Rattle.questions.specs.Questions.{first_above}
use Rattle.questions.proofs.AllInRange.{no_value_above}
use Rattle.questions.proofs.EitherWay.{asked_done, asked_further, asked_last}
use Rattle.questions.proofs.FirstAbove.{below_first}
use Rattle.store_pages.specs.Committing.{no_word_in, commit_answer, held_bytes, Committed, FourWords, NoWordAt, EncodesAgain}
use Rattle.questions.specs.declared.refusal.Question.TheVariants.{InputLength, OutputLength, Range, OuterWord}

-- question 5 is answered yes exactly for a word of symbols
pub symbols_are_a_word : (symbols : List ℕ) → length symbols ≡ 252 → 252 ≤ first_above symbols 63 → WordOf 64 252 symbols
symbols_are_a_word symbols long good = (long, λ j h. let small : get_or symbols j 0 ≤ 63 = below_first symbols 63 j (omega (arith, good, h)) in omega arith)

word_is_in_range : (symbols : List ℕ) → WordOf 64 252 symbols → leb 252 (first_above symbols 63) ≡ true
word_is_in_range symbols word = no_value_above symbols 252 63 word.0 (λ k h. omega (arith, word.1 k h))

module _ (symbols : List ℕ) where
  abbrev rs : List (List ℕ)
  rs = rows_in short_page symbols

  lowest : LowestNoWord is_short_codeword rs (no_word_in symbols)
  lowest = lowest_no_word_is_it is_short_codeword rs

  -- the test of a row of symbols tells whether it is a word
  module _ (i : ℕ) (h : i < 4) where
    told : WordOf 64 252 symbols → is_short_codeword i (get_or rs i []) ≡ true → ShortCodeword i (row_in short_page symbols i)
    told word e = subst (ShortCodeword i) (row_in_at short_page symbols i h) (told_is_a_short_codeword i (get_or rs i []) (row_in_is_a_word short_page 64 symbols word i h) e)

    tells : ShortCodeword i (row_in short_page symbols i) → is_short_codeword i (get_or rs i []) ≡ true
    tells code = short_codeword_is_told i (get_or rs i []) (subst⁻¹ (ShortCodeword i) (row_in_at short_page symbols i h) code)

    none_told : WordOf 64 252 symbols → (ShortCodeword i (row_in short_page symbols i) → ⊥) → is_short_codeword i (get_or rs i []) ≡ false
    none_told word other = is_false (is_short_codeword i (get_or rs i [])) (λ e. other (told word e))

  -- four words are a word of symbols
  four_words_are_a_word : FourWords symbols → WordOf 64 252 symbols
  four_words_are_a_word four =
      let all = row_after_row_is_a_word 64 63 rs (λ i h.
      let inside : i < 4 = omega (arith, as_many_rows_in short_page symbols, h) in
      subst⁻¹ (WordOf 64 63) (row_in_at short_page symbols i inside) (four.words i inside).word) in
      (four.long, (subst (WordOf 64 252) (buffer_is_its_rows short_page symbols four.long) (subst (λ (n : ℕ). WordOf 64 (n * 63) (row_after_row rs)) (as_many_rows_in short_page symbols) all.1)).1)

  no_row_is_bad : FourWords symbols → 4 ≤ no_word_in symbols
  no_row_is_bad four =
      ⊎_elim
      (λ l. absurd (true≢false (sym (tells (no_word_in symbols) l (four.words (no_word_in symbols) l)) ∙ lowest.no_word (omega (arith, as_many_rows_in short_page symbols, l)))))
      (λ l. l)
      (lt_or_le (no_word_in symbols) 4)

  module _ (old : List ℕ) (r : Outcome) (new : List ℕ) (call : Committed symbols old r new) where
    -- "The buffer may be altered between, so each row is judged on commit": taken are exactly the buffers whose four rows are words, whoever filled them
    pub commit_accepts_exactly : r ≡ all_done ↔ FourWords symbols × (length old ≡ 150)
    commit_accepts_exactly = (
      λ e.
          let one = asked_done (eqb (length symbols) 252) _ _ _ (sym call.answer ∙ e) in
          let two = asked_done (eqb (length old) 150) _ _ _ one.1 in
          let five = asked_done (leb 252 (first_above symbols 63)) _ _ _ two.1 in
          let fourteen = asked_done (leb 4 (no_word_in symbols)) _ _ _ five.1 in
          let long : length symbols ≡ 252 = eqb-true _ _ one.0 in
          let word = symbols_are_a_word symbols long (leb-true 252 (first_above symbols 63) five.0) in
          let all : 4 ≤ no_word_in symbols = leb-true 4 (no_word_in symbols) fourteen.0 in
          (record { long = long; words = λ i h. told i h word (lowest.words_below i (omega (arith, all, h))) }, eqb-true _ _ two.0),
      λ given. call.answer ∙ simp (eq-eqb _ _ given.0.long, eq-eqb _ _ given.1, word_is_in_range symbols (four_words_are_a_word given.0), le-leb _ _ (no_row_is_bad given.0)),
    )

    -- "14, a row that is no word of its outer code, place the lowest such level, asked after 5"
    pub commit_refuses_by_14_exactly : (level : ℕ) → r ≡ refused_by OuterWord level ↔ NoWordAt symbols level × (length old ≡ 150)
    commit_refuses_by_14_exactly level = (
      λ e.
          let one = asked_further (eqb (length symbols) 252) InputLength 0 OuterWord level _ (sym call.answer ∙ e) (λ z. absurd (omega (arith, z))) in
          let two = asked_further (eqb (length old) 150) OutputLength 0 OuterWord level _ one.1 (λ z. absurd (omega (arith, z))) in
          let five = asked_further (leb 252 (first_above symbols 63)) Range (first_above symbols 63) OuterWord level _ two.1 (λ z. absurd (omega (arith, z))) in
          let fourteen = asked_last (leb 4 (no_word_in symbols)) OuterWord (no_word_in symbols) OuterWord level five.1 in
          let word = symbols_are_a_word symbols (eqb-true _ _ one.0) (leb-true 252 (first_above symbols 63) five.0) in
          let exists : level < 4 = omega (arith, leb-false 4 (no_word_in symbols) fourteen.0, fourteen.1) in
          let here : LowestNoWord is_short_codeword rs level = subst (LowestNoWord is_short_codeword rs) fourteen.1 lowest in (
            record {
              in_range = record { size = word.0; range = λ k h. omega (arith, word.1 k h) };
              level_exists = exists;
              words_below = λ i h. told i (omega (arith, h, exists)) word (here.words_below i h);
              no_word = λ code. true≢false (sym (tells level exists code) ∙ here.no_word (omega (arith, as_many_rows_in short_page symbols, exists)));
            },
            eqb-true _ _ two.0,
          ),
      λ given.
          let at = given.0 in
          let word : WordOf 64 252 symbols = (at.in_range.size, λ k h. let small : get_or symbols k 0 ≤ 63 = at.in_range.range k h in omega arith) in
          let none = none_told level at.level_exists word at.no_word in
          let here : LowestNoWord is_short_codeword rs level = record { within = omega (arith, at.level_exists, as_many_rows_in short_page symbols); words_below = λ i h. tells i (omega (arith, h, at.level_exists)) (at.words_below i h); no_word = λ h. none } in
          let same = lowest_no_word_is_the_only_one is_short_codeword rs (no_word_in symbols) level lowest here in
          let bad : no_word_in symbols < 4 = omega (arith, same, at.level_exists) in
          let due : commit_answer symbols old ≡ refused_by OuterWord (no_word_in symbols) = simp (eq-eqb _ _ word.0, eq-eqb _ _ given.1, word_is_in_range symbols word, lt-leb _ _ bad) in
          call.answer ∙ due ∙ ap (refused_by OuterWord) same,
    )

    -- what is written encodes to exactly these rows again
    pub committed_data_encode_again : r ≡ all_done → EncodesAgain symbols new
    unfolding bytes_of_rows written_page
    committed_data_encode_again done =
        let taken = commit_accepts_exactly.0 done in
        let is : new ≡ held_bytes symbols = call.bytes ∙ ap (λ (o : Outcome). after o (held_bytes symbols) old) (sym call.answer ∙ done) in
        let again =
        ap (written_rows short_page short_encoder) is
        ∙ rows_are_written_again short_page short_page_sound short_outer short_encoder ShortCodeword outer_laws rs (as_many_rows_in short_page symbols)
        (λ i h. subst⁻¹ (ShortCodeword i) (row_in_at short_page symbols i h) (taken.0.words i h)) in
        record {
          long = ap length is ∙ repacked_length 64 4 256 3 50 _;
          rows_are = again;
          symbols_are = ap row_after_row again ∙ buffer_is_its_rows short_page symbols taken.0.long;
          page_is = ap (page_in_bytes short_page) again;
        }

-- a buffer of four words, altered in a row in at most T of its symbols, is not taken: T is 30, 12, 6, 4
pub few_altered_symbols_are_refused : (symbols altered : List ℕ) → FourWords symbols → (i : ℕ) → i < 4 → (row_in short_page altered i ≡ row_in short_page symbols i → ⊥)
    → errors ℕ_discrete (marked []) 63 (symbol (row_in short_page altered i)) (symbol (row_in short_page symbols i)) ≤ short_roots i
    → (old : List ℕ) (r : Outcome) (new : List ℕ) → Committed altered old r new → r ≡ all_done → ⊥
few_altered_symbols_are_refused symbols altered four i h other near old r new call done =
    let a = ((commit_accepts_exactly altered old r new call).0 done).0.words i h in
    let b = four.words i h in
    other (close_words_are_equal 6 67 63 (short_roots i) primitive64 (lit< tt) (row_in short_page altered i) (row_in short_page symbols i) a.word b.word a.code b.code near)
