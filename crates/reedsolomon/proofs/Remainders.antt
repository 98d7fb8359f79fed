-- The data and their remainder, as lists, are the encoded row. Assumes nothing.
use mathlib.Core.Path.{◌≡◌, refl, sym, ap, ◌∙◌, subst}
use mathlib.Core.Logic.{⊎_elim}
use mathlib.Core.List.{List}
use Prim.Native.Nat.{ℕ, zero, suc, ◌+◌, ◌-◌, ◌^◌, ◌<◌}
use native.Mathlib.Omega.{arith}
use lib.ListN.{length, replicate}
use Rattle.poly.specs.Polynomial.{add}
use Rattle.poly.proofs.Sum.{lt_or_le}
use Rattle.field.specs.Element.{mul, α, Primitive}
use Rattle.reedsolomon.specs.Words.{Codeword, syndrome}
use Rattle.reedsolomon.specs.Search.{WordOf}
use Rattle.reedsolomon.specs.Row.{symbol, Symbols, IsCodeword, HasInFront, encoded_row}
use Rattle.reedsolomon.specs.Steps.{WrittenAt, IsRemainder}
use Rattle.reedsolomon.proofs.Polynomials.{value_of_zeros}
use Rattle.reedsolomon.proofs.Encoding.{data_with_remainder_are_a_codeword}
use Rattle.reedsolomon.proofs.Answers.{K, encoded_row_if}

pub zeros_at : (n j : ℕ) → symbol (replicate n 0) j ≡ 0
zeros_at zero j = refl
zeros_at (suc n) zero = refl
zeros_at (suc n) (suc j) = zeros_at n j

-- zeros are a codeword
pub zeros_are_a_codeword : (m g N T : ℕ) → Primitive m g → N < 2 ^ m → (n : ℕ) → IsCodeword m g N T (replicate n 0)
unfolding IsCodeword syndrome
zeros_are_a_codeword m g N T t few n i l = value_of_zeros (K m g N T t few) N (symbol (replicate n 0)) _ (λ j u. zeros_at n j)

-- a codeword of N symbols with the data d in front
abbrev pub RowOf : (m g N T : ℕ) → List ℕ → List ℕ → Type 0
RowOf m g N T d c = WordOf (2 ^ m) N c × IsCodeword m g N T c × HasInFront N T d c

module _ (m g N T : ℕ) (t : Primitive m g) (few : N < 2 ^ m) (d r out once twice : List ℕ) (whole : length d + T ≡ N) (hd : Symbols m d) (long : length twice ≡ N)
    (rem : IsRemainder m g T d (length d) r) (front : WrittenAt 0 (length d) (symbol d) out once) (back : WrittenAt (length d) T (symbol r) once twice) where
  data_at : (j : ℕ) → j < length d → symbol twice j ≡ symbol d j
  data_at j l = let e : 0 + j ≡ j = omega arith in back.before j l ∙ ap (symbol once) (sym e) ∙ front.written j l

  inside : (j : ℕ) → j < N → symbol twice j < 2 ^ m
  inside j l =
      ⊎_elim (λ u. subst (λ (x : ℕ). x < 2 ^ m) (sym (data_at j u)) (hd j))
      (λ u. let e : length d + (j - length d) ≡ j = omega arith in
      subst (λ (x : ℕ). x < 2 ^ m) (sym (ap (symbol twice) (sym e) ∙ back.written (j - length d) (omega arith))) (rem.divided.inside (j - length d)))
      (lt_or_le j (length d))

  -- the data and their remainder, one behind the other, are a codeword
  pub data_and_remainder : RowOf m g N T d twice
  unfolding IsCodeword HasInFront
  data_and_remainder = (
    (long, inside),
    subst (λ (x : ℕ). Codeword add (mul m g) 0 1 α x T (symbol twice)) whole
        (data_with_remainder_are_a_codeword (K m g N T t few) α T rem.divisor rem.generator (symbol d) (symbol r) (symbol twice) (length d) rem.divided
        (λ j l. inside j (omega arith)) data_at back.written),
    λ j l. data_at j (omega arith),
  )

  -- and so the encoded row
  pub row_of_data_and_remainder : twice ≡ encoded_row m g N T d
  row_of_data_and_remainder =
      sym (encoded_row_if m g N T t few d twice (omega arith) data_and_remainder.0 data_and_remainder.1 data_and_remainder.2)
