-- What the questions of the row calls leave for the rows to ask. Assumes nothing.
use mathlib.Core.Bool.{Bool, true, false, cond, false≢true}
use mathlib.Core.List.{List, [], ◌∷◌}
use mathlib.Core.Path.{◌≡◌, refl, sym, ap, ◌∙◌}
use Prim.Native.Nat.{ℕ, suc, suc-le-suc, ◌+◌, ◌-◌, ◌≤◌, ◌<◌}
use native.Mathlib.Omega.{arith}
use borrow.Author.Tests.{lt-ltb, le-leb, lt-leb, eq-eqb, eqb-true}
use lib.Dec.{eqb, leb}
use lib.ListN.{length, get_or}
use Rattle.reedsolomon.specs.Row.{Symbols, outer_answer, is_found, word_of}
use Rattle.reedsolomon.specs.Search.{OuterAnswer, Found, NoneInReach}
use Rattle.reedsolomon.specs.ShortRows.{short_roots}
use Rattle.reedsolomon.proofs.ShortRows.{at_most_30_roots}
use Rattle.reedsolomon.proofs.Answers.{word_is_of_symbols}
use Rattle.questions.specs.Questions.{ask, first_above}
use Rattle.questions.specs.Answer.{refused, done, after}
use Rattle.questions.specs.declared.refusal.Question.TheVariants.{Reach}
use Rattle.store_rows.specs.Rows.{length_right, decode_row_answer}
use Rattle.questions.proofs.FirstAbove.{below_first}

-- the data and the roots make a row
pub row_length : (level n : ℕ) → level < 4 → length_right level n ≡ true → n + short_roots level ≡ 63
unfolding length_right
row_length level n h e =
    let is : n ≡ 63 - short_roots level = eqb-true n (63 - short_roots level) (sym (ap (λ (b : Bool). cond b true (eqb n (63 - short_roots level))) (lt-leb 4 level h)) ∙ e) in
    let most : short_roots level ≤ 30 = at_most_30_roots level in
    omega arith

-- where no symbol is above 63, every symbol is an element
pub symbols_in_range : (s : List ℕ) → length s ≤ first_above s 63 → Symbols 6 s
symbols_in_range s h =
    word_is_of_symbols 6 (length s) s (refl, λ j l. let in_range : get_or s j 0 ≤ 63 = below_first s 63 j (omega arith) in omega arith)

-- once all others are asked, number 10 is left
pub only_10_is_left : (level : ℕ) (symbols marks out : List ℕ) (t : ℕ) (found : Bool) → length symbols ≡ 63 → length marks ≡ 63 → length out ≡ 63 → level < 4
    → 63 ≤ first_above symbols 63 → 63 ≤ first_above marks 1 → t ≡ short_roots level → found ≡ is_found (outer_answer 6 67 63 t symbols marks)
    → decode_row_answer level symbols marks out ≡ ask found (refused Reach 0) done
only_10_is_left level symbols marks out t found long marked room exists right flags roots told =
    simp (eq-eqb _ _ long, eq-eqb _ _ marked, eq-eqb _ _ room, lt-ltb _ _ exists, le-leb _ _ right, le-leb _ _ flags)
    (ap (λ (b : Bool). ask b (refused Reach 0) done) (sym (told ∙ ap (λ (x : ℕ). is_found (outer_answer 6 67 63 x symbols marks)) roots)))

-- where no word is found, nothing is written
pub only_found_is_written : (found : Bool) (a : OuterAnswer) (old new : List ℕ) → found ≡ is_found a → new ≡ word_of old a → new ≡ after (ask found (refused Reach 0) done) (word_of old a) old
unfolding is_found word_of
only_found_is_written true a old new e w = w
only_found_is_written false (Found c) old new e w = absurd (false≢true e)
only_found_is_written false NoneInReach old new e w = w

-- the first value above a bound stands in the list, or is its length
pub first_inside : (s : List ℕ) (top : ℕ) → first_above s top ≤ length s
unfolding first_above
first_inside [] top = omega arith
first_inside (x ∷ xs) top = go (leb x top) (first_inside xs top)
  where
    go : (b : Bool) → first_above xs top ≤ length xs → cond b (suc (first_above xs top)) 0 ≤ suc (length xs)
    go true later = suc-le-suc later
    go false later = omega arith
