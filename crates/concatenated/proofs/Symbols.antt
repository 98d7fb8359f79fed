-- A buffer of symbols: rows put one behind the other and cut out again, and the lowest that is no word. Assumes nothing.
use mathlib.Core.Bool.{Bool, true, false, cond, true≢false}
use mathlib.Core.Logic.{⊎_elim}
use mathlib.Core.List.{List, [], ◌∷◌, ◌++◌, flat_map}
use mathlib.Core.Path.{◌≡◌, refl, sym, ap, ◌∙◌, subst, subst⁻¹}
use Prim.Native.Nat.{ℕ, zero, suc, ◌+◌, ◌*◌, ◌≤◌, ◌<◌, suc-le-suc}
use native.Mathlib.Nat.{not-suc-le-zero, le_of_suc-le-suc, suc-mul, zero-mul, mul-le-mul_right}
use native.Mathlib.Numerals.{add-one}
use native.Mathlib.Omega.{arith}
use lib.ListN.{length, length-drop, get_or, take, drop}
use lib.Seq.{length-take-le, take_all, take-add, drop-cons, drop-length, get_or-take, get_or-drop, ext_get_or}
use Rattle.poly.proofs.Sum.{lt_or_le}
use Rattle.column.specs.Shape.{levels}
use Rattle.reedsolomon.specs.Search.{WordOf}
use Rattle.concatenated.specs.Lists.{All, listed}
use Rattle.concatenated.specs.Format.{Format}
use Rattle.concatenated.specs.Symbols.{row_after_row, row_in, rows_in, RowTest, lowest_no_word, LowestNoWord}
use Rattle.concatenated.proofs.Lists.{all_by_entries, listed_length, listed_at}
use Rattle.concatenated.proofs.Digits.{Below, below_is_word, word_is_below}
use Rattle.concatenated.proofs.Groups.{flat_more, flat_all, flat_length, flat_part}

-- ---- rows in a buffer

pub row_after_row_more : (rs : List (List ℕ)) (r : List ℕ) → row_after_row (rs ++ (r ∷ [])) ≡ row_after_row rs ++ r
unfolding row_after_row
row_after_row_more rs r = flat_more (λ s. s) rs r

-- all rows have N symbols
abbrev pub AllLong : ℕ → List (List ℕ) → Type 0
AllLong N rs = All (λ r. length r ≡ N) rs

pub row_after_row_length : (N : ℕ) (rs : List (List ℕ)) → AllLong N rs → length (row_after_row rs) ≡ length rs * N
unfolding row_after_row
row_after_row_length N rs long = flat_length (λ r. r) N rs long

-- rows of words are a word
pub row_after_row_is_a_word : (q N : ℕ) (rs : List (List ℕ)) → ((i : ℕ) → i < length rs → WordOf q N (get_or rs i [])) → AllLong N rs × WordOf q (length rs * N) (row_after_row rs)
unfolding row_after_row
row_after_row_is_a_word q N rs words =
    let long = all_by_entries (λ r. length r ≡ N) rs [] (λ i h. (words i h).0) in
    let below = flat_all (λ x. x < q) (λ r. r) rs (all_by_entries (Below q) rs [] (λ i h. word_is_below q N (get_or rs i []) (words i h))) in
    (long, subst (λ (n : ℕ). WordOf q n (row_after_row rs)) (row_after_row_length N rs long) (below_is_word q (row_after_row rs) below))

module _ (P : Format) where
  -- the rows of a page, one behind the other, are the rows in that buffer
  row_in_its_place : (rs : List (List ℕ)) → AllLong P.columns rs → (i : ℕ) → i < length rs → row_in P (row_after_row rs) i ≡ get_or rs i []
  unfolding row_after_row row_in
  row_in_its_place rs long i h = flat_part (λ r. r) P.columns rs long i [] h

  pub rows_are_in_their_places : (rs : List (List ℕ)) → length rs ≡ levels P.shape → AllLong P.columns rs → rows_in P (row_after_row rs) ≡ rs
  unfolding rows_in
  rows_are_in_their_places rs many long =
      let n = levels P.shape in
      let as_many = listed_length (row_in P (row_after_row rs)) n in
      ext_get_or [] (listed (row_in P (row_after_row rs)) n) rs (as_many ∙ sym many)
      (λ i h. listed_at (row_in P (row_after_row rs)) n i [] (omega (arith, as_many, h)) ∙ row_in_its_place rs long i (omega (arith, as_many, many, h)))

  -- and the rows of a buffer, one behind the other, are the buffer
  first_rows : (symbols : List ℕ) (n : ℕ) → row_after_row (listed (row_in P symbols) n) ≡ take (n * P.columns) symbols
  unfolding listed row_after_row flat_map row_in
  first_rows symbols zero = sym (ap (λ (k : ℕ). take k symbols) (zero-mul P.columns))
  first_rows symbols (suc n) =
      row_after_row_more (listed (row_in P symbols) n) (row_in P symbols n) ∙ ap (λ (t : List ℕ). t ++ row_in P symbols n) (first_rows symbols n)
      ∙ sym (take-add (n * P.columns) P.columns symbols) ∙ ap (λ (k : ℕ). take k symbols) (sym (suc-mul n P.columns))

  pub buffer_is_its_rows : (symbols : List ℕ) → length symbols ≡ levels P.shape * P.columns → row_after_row (rows_in P symbols) ≡ symbols
  unfolding rows_in
  buffer_is_its_rows symbols long = first_rows symbols (levels P.shape) ∙ take_all (levels P.shape * P.columns) symbols (omega (arith, long))

  pub as_many_rows_in : (symbols : List ℕ) → length (rows_in P symbols) ≡ levels P.shape
  unfolding rows_in
  as_many_rows_in symbols = listed_length (row_in P symbols) (levels P.shape)

  pub row_in_at : (symbols : List ℕ) (i : ℕ) → i < levels P.shape → get_or (rows_in P symbols) i [] ≡ row_in P symbols i
  unfolding rows_in
  row_in_at symbols i h = listed_at (row_in P symbols) (levels P.shape) i [] h

  -- its rows are words of symbols
  pub row_in_is_a_word : (q : ℕ) (symbols : List ℕ) → WordOf q (levels P.shape * P.columns) symbols → (i : ℕ) → i < levels P.shape → WordOf q P.columns (get_or (rows_in P symbols) i [])
  unfolding row_in
  row_in_is_a_word q symbols word i h =
      let N = P.columns in
      let within : suc i * N ≤ levels P.shape * N = mul-le-mul_right N h in
      let size : length (take N (drop (i * N) symbols)) ≡ N = length-take-le N (drop (i * N) symbols) (omega (arith, length-drop (i * N) symbols, word.0, suc-mul i N, within)) in
      subst⁻¹ (WordOf q N) (row_in_at symbols i h) (
        size,
        λ j l. subst⁻¹ (λ (x : ℕ). x < q) (get_or-take N (drop (i * N) symbols) j 0 l ∙ get_or-drop (i * N) symbols j 0) (word.1 (i * N + j) (omega (arith, suc-mul i N, within, l))),
      )

-- ---- the lowest row that is no word

module _ (is_word : RowTest) where
  -- of the rows from level i on
  record LowestFrom (i : ℕ) (rs : List (List ℕ)) : Type 0 where
    pub passed : ℕ
    pub is : lowest_no_word is_word i rs ≡ i + passed
    pub within : passed ≤ length rs
    pub words_below : (k : ℕ) → k < passed → is_word (i + k) (get_or rs k []) ≡ true
    pub no_word : passed < length rs → is_word (i + passed) (get_or rs passed []) ≡ false

  lowest_from : (i : ℕ) (rs : List (List ℕ)) → LowestFrom i rs
  unfolding lowest_no_word
  lowest_from i [] = record { passed = 0; is = omega arith; within = omega arith; words_below = λ k h. absurd (not-suc-le-zero h); no_word = λ h. absurd (not-suc-le-zero h) }
  lowest_from i (r ∷ rs) = go (is_word i r) refl (lowest_from (suc i) rs)
    where
      first : i + 0 ≡ i
      first = omega arith

      go : (b : Bool) → is_word i r ≡ b → LowestFrom (suc i) rs → LowestFrom i (r ∷ rs)
      go false e later =
          record {
            passed = 0;
            is = ap (λ (b : Bool). cond b (lowest_no_word is_word (suc i) rs) i) e ∙ sym first;
            within = omega arith;
            words_below = λ k h. absurd (not-suc-le-zero h);
            no_word = λ h. ap (λ (k : ℕ). is_word k r) first ∙ e;
          }
      go true e later =
          record {
            passed = suc later.passed;
            is = ap (λ (b : Bool). cond b (lowest_no_word is_word (suc i) rs) i) e ∙ later.is ∙ omega arith;
            within = suc-le-suc later.within;
            words_below = below;
            no_word = λ h. let z : i + suc later.passed ≡ suc i + later.passed = omega arith in ap (λ (k : ℕ). is_word k (get_or rs later.passed [])) z ∙ later.no_word (le_of_suc-le-suc h);
          }
        where
          below : (k : ℕ) → k < suc later.passed → is_word (i + k) (get_or (r ∷ rs) k []) ≡ true
          below zero h = ap (λ (k : ℕ). is_word k r) first ∙ e
          below (suc k) h = let z : i + suc k ≡ suc i + k = omega arith in ap (λ (j : ℕ). is_word j (get_or rs k [])) z ∙ later.words_below k (le_of_suc-le-suc h)

  -- the definition gives what it says
  pub lowest_no_word_is_it : (rs : List (List ℕ)) → LowestNoWord is_word rs (lowest_no_word is_word 0 rs)
  lowest_no_word_is_it rs =
      let l = lowest_from 0 rs in
      let z : lowest_no_word is_word 0 rs ≡ l.passed = l.is ∙ omega arith in
      subst⁻¹ (LowestNoWord is_word rs) z
      (record {
        within = l.within;
        words_below = λ k h. let e : k ≡ 0 + k = omega arith in ap (λ (j : ℕ). is_word j (get_or rs k [])) e ∙ l.words_below k h;
        no_word = λ h. let e : l.passed ≡ 0 + l.passed = omega arith in ap (λ (j : ℕ). is_word j (get_or rs l.passed [])) e ∙ l.no_word h;
      })

  -- and there is only one
  pub lowest_no_word_is_the_only_one : (rs : List (List ℕ)) (n m : ℕ) → LowestNoWord is_word rs n → LowestNoWord is_word rs m → n ≡ m
  lowest_no_word_is_the_only_one rs n m a b = ⊎_elim (λ l. absurd (lower n m a b l)) (λ l. ⊎_elim (λ u. absurd (lower m n b a u)) (λ u. omega (arith, l, u)) (lt_or_le m n)) (lt_or_le n m)
    where
      lower : (n m : ℕ) → LowestNoWord is_word rs n → LowestNoWord is_word rs m → n < m → ⊥
      lower n m a b l = true≢false (sym (b.words_below n l) ∙ a.no_word (omega (arith, l, b.within)))

  -- as a loop finds it: past a word, at a row that is none, behind the last
  module _ (rs : List (List ℕ)) (i : ℕ) where
    pub lowest_lies_above : i < length rs → is_word i (get_or rs i []) ≡ true → lowest_no_word is_word i (drop i rs) ≡ lowest_no_word is_word (i + 1) (drop (i + 1) rs)
    unfolding lowest_no_word
    lowest_lies_above h e =
        ap (lowest_no_word is_word i) (drop-cons rs i [] h) ∙ ap (λ (b : Bool). cond b (lowest_no_word is_word (suc i) (drop (suc i) rs)) i) e
        ∙ ap (λ (k : ℕ). lowest_no_word is_word k (drop k rs)) (sym (add-one i))

    pub lowest_is_here : i < length rs → is_word i (get_or rs i []) ≡ false → lowest_no_word is_word i (drop i rs) ≡ i
    unfolding lowest_no_word
    lowest_is_here h e = ap (lowest_no_word is_word i) (drop-cons rs i [] h) ∙ ap (λ (b : Bool). cond b (lowest_no_word is_word (suc i) (drop (suc i) rs)) i) e

    pub lowest_is_none : length rs ≡ i → lowest_no_word is_word i (drop i rs) ≡ i
    unfolding lowest_no_word
    lowest_is_none e = ap (lowest_no_word is_word i) (ap (λ (k : ℕ). drop k rs) (sym e) ∙ drop-length rs)
