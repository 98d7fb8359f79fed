-- The final check decides the answer, and syndromes whether a row is a codeword; codewords are more than T columns apart. Assumes nothing.
use mathlib.Core.Path.{◌≡◌, refl, sym, ap, ◌∙◌, subst}
use mathlib.Core.Bool.{Bool, true, false, true≢false}
use mathlib.Core.Logic.{◌↔◌}
use mathlib.Core.List.{List, []}
use Prim.Native.Nat.{ℕ, zero, suc, ◌+◌, ◌*◌, ◌^◌, ◌≤◌, ◌<◌}
use native.Mathlib.Decide.{ℕ_discrete}
use native.Mathlib.Numerals.{add-one}
use native.Mathlib.Omega.{arith}
use lib.ListN.{length, replicate}
use lib.Seq.{ext_get_or}
use Rattle.poly.specs.Polynomial.{add}
use Rattle.field.specs.Element.{mul, α, Primitive}
use Rattle.reedsolomon.specs.Sums.{power, value}
use Rattle.reedsolomon.specs.Words.{Codeword, syndrome, indicator, count, errors, InReach}
use Rattle.reedsolomon.specs.Search.{WordOf, OuterAnswer, Found, NoneInReach}
use Rattle.reedsolomon.specs.Row.{symbol, Symbols, marked, IsCodeword, codeword?, is_codeword, outer_answer, is_found, word_of, RowDecoded}
use Rattle.reedsolomon.specs.Steps.{WrittenAt, AllZero, Padded, HasSyndromes, IsCorrection, locator_at}
use Rattle.reedsolomon.specs.PowerTable.{power_table}
use Rattle.reedsolomon.proofs.Fill.{put_inside}
use Rattle.reedsolomon.proofs.Reach.{reach_of_equals, reach_bounds_erasures, differences_are_errors, close_codewords_are_equal}
use Rattle.reedsolomon.proofs.Syndromes.{codeword_of_equals}
use Rattle.reedsolomon.proofs.Decoding.{failed_check_means_none_in_reach}
use Rattle.reedsolomon.proofs.Answers.{K, order, answer_if, none_if, erased_symbols_do_not_change_the_answer}
use Rattle.reedsolomon.proofs.Marks.{wrongs_of_itself}
use Rattle.reedsolomon.proofs.Remainders.{zeros_at}
use Rattle.reedsolomon.proofs.PowerTable.{power_at}

at_front : {N : ℕ} {f : ℕ → ℕ} {old new : List ℕ} → WrittenAt 0 N f old new → (j : ℕ) → j < N → symbol new j ≡ f j
at_front {N} {f} {old} {new} w j l = let e : 0 + j ≡ j = omega arith in ap (symbol new) (sym e) ∙ w.written j l

pub decoded_found : (a : OuterAnswer) (old new : List ℕ) → a ≡ Found new → RowDecoded a true old new
unfolding is_found word_of
decoded_found a old new e = record { told = sym (ap is_found e); written = sym (ap (word_of old) e) }

pub decoded_none : (a : OuterAnswer) (old : List ℕ) → a ≡ NoneInReach → RowDecoded a false old old
unfolding is_found word_of
decoded_none a old e = record { told = sym (ap is_found e); written = sym (ap (word_of old) e) }

-- a row in a longer list
pub padded_row : (m N n : ℕ) (symbols w : List ℕ) → length symbols ≡ N → Symbols m symbols → WrittenAt 0 N (symbol symbols) (replicate n 0) w → 0 < 2 ^ m → Padded m N w
padded_row m N n symbols w long h f pos =
    record {
      inside = put_inside m 0 N (symbol symbols) (replicate n 0) w (λ j. subst (λ (x : ℕ). x < 2 ^ m) (sym (zeros_at n j)) pos) (λ j l. h j) f;
      ended = λ j l. f.after j (omega arith) ∙ zeros_at n j;
    }

module _ (m g N T : ℕ) (t : Primitive m g) (few : N < 2 ^ m) (w marks : List ℕ) where
  abbrev answer : OuterAnswer
  answer = outer_answer m g N T w marks

  pub codeword_by_syndromes : (v s : List ℕ) → HasSyndromes m g N T v s → ((i : ℕ) → i < T → symbol s i ≡ 0) → Codeword add (mul m g) 0 1 α N T (symbol v)
  codeword_by_syndromes v s h z i l = sym (h.syndromes i l) ∙ z i l

  pub syndromes_by_codeword : (v s : List ℕ) → HasSyndromes m g N T v s → Codeword add (mul m g) 0 1 α N T (symbol v) → (i : ℕ) → i < T → symbol s i ≡ 0
  syndromes_by_codeword v s h c i l = h.syndromes i l ∙ c i l

  pub too_many_erased : T < count (marked marks) N → answer ≡ NoneInReach
  too_many_erased h =
      none_if m g N T t few w marks
      (λ c hc p. let z : count (marked marks) N ≤ T = reach_bounds_erasures ℕ_discrete (marked marks) N T (symbol w) (symbol c) p.1 in absurd (omega arith))

  -- a codeword in reach is the answer, as it is written
  pub check_is_passed : (v old new : List ℕ) → Padded m N v → Codeword add (mul m g) 0 1 α N T (symbol v)
      → 2 * errors ℕ_discrete (marked marks) N (symbol w) (symbol v) + count (marked marks) N ≤ T
      → length new ≡ N → WrittenAt 0 N (symbol v) old new → answer ≡ Found new
  unfolding IsCodeword InReach
  check_is_passed v old new p code reach long f =
      answer_if m g N T t few w marks new (long, λ j l. subst (λ (x : ℕ). x < 2 ^ m) (sym (same j l)) (p.inside j)) (
        codeword_of_equals (K m g N T t few) α N T (symbol new) (symbol v) same code,
        reach_of_equals ℕ_discrete (marked marks) N T (symbol w) (symbol w) (symbol v) (symbol new) (λ j l q. refl) (λ j l q. sym (same j l)) reach,
      )
    where
      same : (j : ℕ) → j < N → symbol new j ≡ symbol v j
      same j l = at_front f j l

  -- the row itself where its syndromes are 0
  pub row_is_the_answer : (old new : List ℕ) → Padded m N w → Codeword add (mul m g) 0 1 α N T (symbol w) → count (marked marks) N ≤ T → length new ≡ N
      → WrittenAt 0 N (symbol w) old new → answer ≡ Found new
  row_is_the_answer old new p code few_erased long f =
      check_is_passed w old new p code (omega (arith, wrongs_of_itself marks w N)) long f

  pub check_is_failed : (v : List ℕ) → Padded m N w → IsCorrection m g N T marks w v
      → (Codeword add (mul m g) 0 1 α N T (symbol v) → 2 * errors ℕ_discrete (marked marks) N (symbol w) (symbol v) + count (marked marks) N ≤ T → ⊥) → answer ≡ NoneInReach
  unfolding IsCodeword InReach
  check_is_failed v p c failed =
      none_if m g N T t few w marks
      (λ d hd q. failed_check_means_none_in_reach (K m g N T t few) ℕ_discrete α N T (order m g N T t few) (marked marks) (symbol w) (λ j l. p.inside j)
      c.syndromes c.rest c.size c.locator c.locations c.number c.polynomial (symbol v) c.correction (λ r. failed r.0 r.1)
      (symbol d) hd.1 q.0 q.1)

-- the answer for the row in the longer list is that for the row
pub answer_for_row : (m g N T n : ℕ) (symbols w marks : List ℕ) → WrittenAt 0 N (symbol symbols) (replicate n 0) w
    → outer_answer m g N T w marks ≡ outer_answer m g N T symbols marks
answer_for_row m g N T n symbols w marks f = erased_symbols_do_not_change_the_answer m g N T w symbols marks (λ j l q. at_front f j l)

-- ---- whether a row is a codeword

module _ (m g N T : ℕ) (c : List ℕ) where
  pub is_codeword_if : IsCodeword m g N T c → is_codeword m g N T c ≡ true
  unfolding is_codeword
  is_codeword_if code = go (codeword? m g N T c)
    where
      go : (d : Dec (IsCodeword m g N T c)) → elim d [ yes p ↦ true | no p ↦ false ] ≡ true
      go (yes p) = refl
      go (no p) = absurd (p code)

  pub is_codeword_only_if : is_codeword m g N T c ≡ true → IsCodeword m g N T c
  unfolding is_codeword
  is_codeword_only_if = go (codeword? m g N T c)
    where
      go : (d : Dec (IsCodeword m g N T c)) → elim d [ yes p ↦ true | no p ↦ false ] ≡ true → IsCodeword m g N T c
      go (yes p) e = p
      go (no p) e = absurd (true≢false (sym e))

  pub not_a_codeword_if : (IsCodeword m g N T c → ⊥) → is_codeword m g N T c ≡ false
  not_a_codeword_if other = go (is_codeword m g N T c) is_codeword_only_if
    where
      go : (b : Bool) → (b ≡ true → IsCodeword m g N T c) → b ≡ false
      go true h = absurd (other (h refl))
      go false h = refl

  -- 02, point 7: "a word of its outer code" is one whose values at the roots are 0, these read from the table of n powers, 01's having 63
  pub is_codeword_by_the_table : (n : ℕ) → T < n
      → is_codeword m g N T c ≡ true ↔ ((i : ℕ) → i < T → value add (mul m g) 0 N (symbol c) (symbol (power_table m g n) (i + 1)) ≡ 0)
  unfolding IsCodeword syndrome
  is_codeword_by_the_table n roots = (
    λ e i l. ap (value add (mul m g) 0 N (symbol c)) (root i l) ∙ is_codeword_only_if e i l,
    λ zero. is_codeword_if (λ i l. sym (ap (value add (mul m g) 0 N (symbol c)) (root i l)) ∙ zero i l),
  )
    where
      root : (i : ℕ) → i < T → symbol (power_table m g n) (i + 1) ≡ power (mul m g) 1 α (suc i)
      root i l = power_at m g n (i + 1) (omega arith) ∙ ap (power (mul m g) 1 α) (add-one i)

-- the test of the code: all syndromes of the row, in a longer list, are 0
pub row_is_tested : (m g N T n : ℕ) → Primitive m g → N < 2 ^ m → (symbols w s : List ℕ) (r : Bool) → WrittenAt 0 N (symbol symbols) (replicate n 0) w → HasSyndromes m g N T w s → AllZero T s r
    → r ≡ is_codeword m g N T symbols
unfolding IsCodeword
row_is_tested m g N T n t few symbols w s r f h z = go r z.yes z.no
  where
    as_row : Codeword add (mul m g) 0 1 α N T (symbol w) → IsCodeword m g N T symbols
    as_row = codeword_of_equals (K m g N T t few) α N T (symbol symbols) (symbol w) (λ j l. sym (at_front f j l))

    go : (b : Bool) → (b ≡ true → (i : ℕ) → i < T → symbol s i ≡ 0) → (b ≡ false → ((i : ℕ) → i < T → symbol s i ≡ 0) → ⊥) → b ≡ is_codeword m g N T symbols
    go true all some = sym (is_codeword_if m g N T symbols (as_row (codeword_by_syndromes m g N T t few symbols symbols w s h (all refl))))
    go false all some =
        sym (not_a_codeword_if m g N T symbols (λ code. some refl (syndromes_by_codeword m g N T t few symbols symbols w s h
        (codeword_of_equals (K m g N T t few) α N T (symbol w) (symbol symbols) (λ j l. at_front f j l) code))))

-- ---- codewords apart

no_column_erased : (n : ℕ) → count (marked []) n ≡ 0
unfolding count marked indicator
no_column_erased zero = refl
no_column_erased (suc n) = omega (arith, no_column_erased n)

-- two codewords that differ in at most T columns are the same: no column is erased
pub close_words_are_equal : (m g N T : ℕ) → Primitive m g → N < 2 ^ m → (c d : List ℕ) → WordOf (2 ^ m) N c → WordOf (2 ^ m) N d → IsCodeword m g N T c → IsCodeword m g N T d
    → errors ℕ_discrete (marked []) N (symbol c) (symbol d) ≤ T → c ≡ d
unfolding IsCodeword
close_words_are_equal m g N T t few c d hc hd code_c code_d near =
    let apart = differences_are_errors (K m g N T t few) ℕ_discrete (locator_at m g N) (marked []) (symbol c) (symbol c) (symbol d) N in
    ext_get_or 0 c d (hc.0 ∙ sym hd.0)
    (λ j l. close_codewords_are_equal (K m g N T t few) ℕ_discrete α N T (order m g N T t few) (symbol c) (symbol d) hc.1 hd.1 code_c code_d
    (omega (arith, apart, no_column_erased N, wrongs_of_itself [] c N, near)) j (subst (λ (x : ℕ). j < x) hc.0 l))
