-- The answer of outer decoding is the codeword in reach, and the encoded row is the codeword with the data in front: for every field of 2 ^ m elements. Assumes nothing.
use mathlib.Core.Path.{◌≡◌, refl, sym, ap, ◌∙◌, subst, subst⁻¹}
use mathlib.Core.Bool.{false}
use mathlib.Core.Logic.{◌↔◌, ⊎_elim}
use mathlib.Core.List.{List}
use Prim.Native.Nat.{ℕ, zero, suc, ◌+◌, ◌-◌, ◌^◌, ◌≤◌, ◌<◌}
use native.Mathlib.Decide.{ℕ_discrete}
use native.Mathlib.Omega.{arith}
use lib.Pow.{pow_pos}
use lib.ListN.{get_or-eq_default}
use lib.Seq.{ext_get_or}
use Rattle.poly.specs.Polynomial.{add}
use Rattle.poly.proofs.Sum.{lt_or_le}
use Rattle.field.specs.Element.{mul, inverse, α, Primitive}
use Rattle.field.specs.Element
use Rattle.field.specs.Laws.{Field}
use Rattle.field.proofs.Ring
use Rattle.field.proofs.Powers.{is_field, power_order}
use Rattle.reedsolomon.specs.Sums.{power}
use Rattle.reedsolomon.specs.Words.{OrderAtLeast, Codeword, InReach}
use Rattle.reedsolomon.specs.Search.{WordOf, words, Found, NoneInReach}
use Rattle.reedsolomon.specs.Row.{symbol, Symbols, marked, IsCodeword, outer_answer, HasInFront, word_of, encoded_row}
use Rattle.reedsolomon.proofs.Finding.{words_have_all, words_are_words, first_has_it, none_has_it, only_one_is_found, nothing_is_found, first_of_equivalent}
use Rattle.reedsolomon.proofs.Reach.{at_most_one_codeword_in_reach, erased_symbols_have_no_influence}
use Rattle.reedsolomon.proofs.Encoding.{data_determine_the_codeword}

-- the powers of the field are the powers by its product
pub same_power : (m g a k : ℕ) → Element.power m g a k ≡ power (mul m g) 1 a k
unfolding Element.power power
same_power m g a zero = refl
same_power m g a (suc k) = ap (mul m g a) (same_power m g a k)

-- every symbol of a word is an element, the zeros behind it too
pub word_is_of_symbols : (m n : ℕ) (c : List ℕ) → WordOf (2 ^ m) n c → Symbols m c
word_is_of_symbols m n c h j =
    ⊎_elim (h.1 j) (λ l. subst⁻¹ (λ (x : ℕ). x < 2 ^ m) (get_or-eq_default c 0 {n = j} (omega (arith, h.0, l))) (pow_pos m)) (lt_or_le j n)

-- what an erased column holds has no influence on the answer
pub erased_symbols_do_not_change_the_answer : (m g N T : ℕ) (w v marks : List ℕ) → ((j : ℕ) → j < N → marked marks j ≡ false → symbol w j ≡ symbol v j)
    → outer_answer m g N T w marks ≡ outer_answer m g N T v marks
unfolding outer_answer
erased_symbols_do_not_change_the_answer m g N T w v marks h =
    first_of_equivalent _ _ _ _
    (λ c. let r = erased_symbols_have_no_influence ℕ_discrete (marked marks) N T (symbol w) (symbol v) (symbol c) h in ((λ p. (p.0, r.0 p.1)), λ p. (p.0, r.1 p.1)))
    (words (2 ^ m) N)

module _ (m g N T : ℕ) (t : Primitive m g) (few : N < 2 ^ m) where
  abbrev Within : ℕ → Type 0
  Within a = a < 2 ^ m

  pub K : Field Within add (mul m g) 0 1 (inverse m g)
  K = is_field m g t

  -- the positions of N columns are distinct
  pub order : OrderAtLeast Within (mul m g) 0 1 N α
  order =
      record {
        element = Ring.two_lt m g t.degree t.wide;
        not_zero = λ e. absurd (omega arith);
        not_one = λ k h l e. power_order m g t k h (omega arith) (same_power m g α k ∙ e);
      }

  module _ (w marks : List ℕ) where
    -- a codeword in reach
    abbrev pub Right : List ℕ → Type 0
    Right c = IsCodeword m g N T c × InReach ℕ_discrete (marked marks) N T (symbol w) (symbol c)

    pub at_most_one_in_reach : (c d : List ℕ) → WordOf (2 ^ m) N c → WordOf (2 ^ m) N d → Right c → Right d → c ≡ d
    unfolding IsCodeword
    at_most_one_in_reach c d hc hd p q =
        ext_get_or 0 c d (hc.0 ∙ sym hd.0)
        (λ j l. at_most_one_codeword_in_reach K ℕ_discrete α N T order (marked marks) (symbol w) (symbol c) (symbol d) hc.1 hd.1 p.0 q.0 p.1 q.1 j
        (subst (λ (x : ℕ). j < x) hc.0 l))

    -- it is the answer
    pub answer_if : (c : List ℕ) → WordOf (2 ^ m) N c → Right c → outer_answer m g N T w marks ≡ Found c
    unfolding outer_answer
    answer_if c h p =
        only_one_is_found _ _ (words (2 ^ m) N) c (words_have_all (2 ^ m) N c h) p
        (λ d n q. at_most_one_in_reach d c (words_are_words (2 ^ m) N d n) h q p)

    pub answer_only_if : (c : List ℕ) → outer_answer m g N T w marks ≡ Found c → WordOf (2 ^ m) N c × Right c
    unfolding outer_answer
    answer_only_if c e = let r = first_has_it _ _ (words (2 ^ m) N) c e in (words_are_words (2 ^ m) N c r.1, r.0)

    pub answer_is_the_codeword_in_reach : (c : List ℕ) → outer_answer m g N T w marks ≡ Found c ↔ WordOf (2 ^ m) N c × Right c
    answer_is_the_codeword_in_reach c = (answer_only_if c, λ h. answer_if c h.0 h.1)

    pub none_if : ((c : List ℕ) → WordOf (2 ^ m) N c → Right c → ⊥) → outer_answer m g N T w marks ≡ NoneInReach
    unfolding outer_answer
    none_if h = nothing_is_found _ _ (words (2 ^ m) N) (λ c n p. h c (words_are_words (2 ^ m) N c n) p)

    pub none_only_if : outer_answer m g N T w marks ≡ NoneInReach → (c : List ℕ) → WordOf (2 ^ m) N c → Right c → ⊥
    unfolding outer_answer
    none_only_if e c h p = none_has_it _ _ (words (2 ^ m) N) e c (words_have_all (2 ^ m) N c h) p

    pub answer_is_none_where_none_is_in_reach : outer_answer m g N T w marks ≡ NoneInReach ↔ ((c : List ℕ) → WordOf (2 ^ m) N c → Right c → ⊥)
    answer_is_none_where_none_is_in_reach = (none_only_if, none_if)

  -- of data and roots as many as columns, the codeword with the data in front is the encoded row
  pub encoded_row_if : (d c : List ℕ) → T ≤ N → WordOf (2 ^ m) N c → IsCodeword m g N T c → HasInFront N T d c → encoded_row m g N T d ≡ c
  unfolding encoded_row word_of IsCodeword HasInFront
  encoded_row_if d c h_t hc code front =
      ap (word_of _) (only_one_is_found _ _ (words (2 ^ m) N) c (words_have_all (2 ^ m) N c hc) (code, front)
      (λ b n q. let hb = words_are_words (2 ^ m) N b n in only b hb q.0 q.1))
    where
      split : N - T + T ≡ N
      split = omega arith

      only : (b : List ℕ) → WordOf (2 ^ m) N b → Codeword add (mul m g) 0 1 α N T (symbol b) → ((j : ℕ) → j < N - T → symbol b j ≡ symbol d j) → b ≡ c
      only b hb cb fb =
          ext_get_or 0 b c (hb.0 ∙ sym hc.0)
          (λ j l. data_determine_the_codeword K ℕ_discrete α (N - T) T (subst (λ (x : ℕ). OrderAtLeast Within (mul m g) 0 1 x α) (sym split) order) (symbol b) (symbol c)
          (λ i u. hb.1 i (omega arith)) (λ i u. hc.1 i (omega arith))
          (subst (λ (x : ℕ). Codeword add (mul m g) 0 1 α x T (symbol b)) (sym split) cb) (subst (λ (x : ℕ). Codeword add (mul m g) 0 1 α x T (symbol c)) (sym split) code)
          (λ i u. fb i u ∙ sym (front i u)) j (omega (arith, hb.0)))
