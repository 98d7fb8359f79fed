-- The encoded row is the one codeword with the data in front: there is always one. Assumes nothing.
use mathlib.Core.Path.{◌≡◌, refl, sym, ap, ap₂, ◌∙◌, subst, fun_ext}
use mathlib.Core.Logic.{⊎_elim}
use mathlib.Core.List.{List, [], ◌∷◌, ◌++◌}
use Prim.Native.Nat.{ℕ, zero, suc, ◌+◌, ◌^◌, ◌≤◌, ◌<◌}
use native.Mathlib.Nat.{not-suc-le-zero, le_of_suc-le-suc}
use native.Mathlib.Omega.{arith}
use lib.ListN.{length, length-append, get_or-append, get_or-eq_default}
use lib.Seq.{get_or-append-add}
use Rattle.poly.specs.Polynomial.{add}
use Rattle.poly.proofs.Sum.{lt_or_le}
use Rattle.field.specs.Element.{mul, inverse, α, Primitive}
use Rattle.field.specs.Laws.{Field}
use Rattle.reedsolomon.specs.Encoding.{Divided}
use Rattle.reedsolomon.specs.Row.{symbol, Symbols, encoded_row}
use Rattle.reedsolomon.specs.Steps.{WrittenAt, IsRemainder}
use Rattle.reedsolomon.proofs.FieldFacts.{mul_zero}
use Rattle.reedsolomon.proofs.Encoding.{generator_of, is_generator, generator_ends, division_of_no_data, division_of_one_symbol_more}
use Rattle.reedsolomon.proofs.Answers.{K, encoded_row_if}
use Rattle.reedsolomon.proofs.Remainders.{RowOf, data_and_remainder, row_of_data_and_remainder}

-- the list of the first n values of f
abbrev list_of : ℕ → (ℕ → ℕ) → List ℕ
list_of zero f = []
list_of (suc n) f = f 0 ∷ list_of n (λ j. f (suc j))

length_list_of : (n : ℕ) (f : ℕ → ℕ) → length (list_of n f) ≡ n
length_list_of zero f = refl
length_list_of (suc n) f = ap suc (length_list_of n (λ j. f (suc j)))

list_of_at : (n : ℕ) (f : ℕ → ℕ) (j : ℕ) → j < n → symbol (list_of n f) j ≡ f j
list_of_at zero f j l = absurd (not-suc-le-zero l)
list_of_at (suc n) f zero l = refl
list_of_at (suc n) f (suc j) l = list_of_at n (λ i. f (suc i)) j (le_of_suc-le-suc l)

module _ (m g N T : ℕ) (t : Primitive m g) (few : N < 2 ^ m) (d : List ℕ) (whole : length d + T ≡ N) (hd : Symbols m d) where
  F : Field (λ a. a < 2 ^ m) add (mul m g) 0 1 (inverse m g)
  F = K m g N T t few

  abbrev a : ℕ → ℕ
  a = generator_of F α T

  -- the remainder of the first k data
  abbrev remainder : ℕ → ℕ → ℕ
  remainder zero i = 0
  remainder (suc k) i = add (remainder k (suc i)) (mul m g (add (symbol d k) (remainder k 0)) (a (suc i)))

  divided : (k : ℕ) → Divided add (mul m g) 0 1 (λ a. a < 2 ^ m) T a (symbol d) k (remainder k)
  divided zero = division_of_no_data F T a (is_generator F α T).monic (symbol d) (remainder zero) (λ j. refl)
  divided (suc k) = go (divided k)
    where
      go : Divided add (mul m g) 0 1 (λ a. a < 2 ^ m) T a (symbol d) k (remainder k)
          → Divided add (mul m g) 0 1 (λ a. a < 2 ^ m) T a (symbol d) (suc k) (remainder (suc k))
      go v =
          division_of_one_symbol_more F T a (is_generator F α T).monic (symbol d) (remainder k) (remainder (suc k)) k (hd k) v
          (record {
            written = λ i l. refl;
            kept = λ i l. ap₂ (λ (x y : ℕ). add x (mul m g (add (symbol d k) (remainder k 0)) y)) (v.ended (suc i) (omega arith)) (generator_ends F α T (suc i) (omega arith))
                ∙ ap (add 0) (mul_zero F (add (symbol d k) (remainder k 0))) ∙ F.sum_zero 0 ∙ sym (v.ended i l);
          })

  abbrev r : List ℕ
  r = list_of T (remainder (length d))

  same : symbol r ≡ remainder (length d)
  same =
      fun_ext (λ i. ⊎_elim (λ l. list_of_at T (remainder (length d)) i l)
      (λ l. get_or-eq_default r 0 (subst (λ (x : ℕ). x ≤ i) (sym (length_list_of T (remainder (length d)))) l) ∙ sym ((divided (length d)).ended i l)) (lt_or_le i T))

  is_remainder : IsRemainder m g T d (length d) r
  is_remainder =
      record {
        divisor = a;
        generator = is_generator F α T;
        divided = subst (Divided add (mul m g) 0 1 (λ a. a < 2 ^ m) T a (symbol d) (length d)) (sym same) (divided (length d));
      }

  abbrev row : List ℕ
  row = d ++ r

  front : WrittenAt 0 (length d) (symbol d) row row
  front =
      record {
        written = λ i l. let e : 0 + i ≡ i = omega arith in ap (symbol row) e ∙ get_or-append d r 0 i l;
        before = λ i l. refl;
        after = λ i l. refl;
      }

  back : WrittenAt (length d) T (symbol r) row row
  back = record { written = λ i l. get_or-append-add d r i 0; before = λ i l. refl; after = λ i l. refl }

  long : length row ≡ N
  long = length-append d r ∙ ap (λ (x : ℕ). length d + x) (length_list_of T (remainder (length d))) ∙ whole

  pub encoded_row_has_data_in_front : RowOf m g N T d (encoded_row m g N T d)
  encoded_row_has_data_in_front =
      subst (RowOf m g N T d) (row_of_data_and_remainder m g N T t few d r row row row whole hd long is_remainder front back)
      (data_and_remainder m g N T t few d r row row row whole hd long is_remainder front back)

  -- and no other row has
  pub encoded_row_is_the_only_one : (c : List ℕ) → RowOf m g N T d c → c ≡ encoded_row m g N T d
  encoded_row_is_the_only_one c h = sym (encoded_row_if m g N T t few d c (omega arith) h.0 h.1 h.2)
