-- Division by a generator in words: one data symbol more, and the remainder's symbols. Assumes nothing.
use mathlib.Core.Path.{◌≡◌, sym, ap, ap₂, ◌∙◌, subst, fun_ext}
use mathlib.Core.Logic.{⊎_elim}
use mathlib.Core.List.{List}
use Prim.Native.Nat.{ℕ, suc, ◌+◌, ◌*◌, ◌/◌, ◌%◌, ◌^◌, ◌≤◌, ◌<◌}
use native.Mathlib.Nat.{zero-div}
use native.Mathlib.Numerals.{add-one}
use native.Mathlib.Omega.{arith}
use lib.ListN.{length, replicate}
use Rattle.poly.specs.Polynomial.{add}
use Rattle.poly.proofs.Sum.{add_zero_l, lt_or_le}
use Rattle.field.specs.Element.{mul}
use Rattle.field.proofs.Short.{field64}
use Rattle.reedsolomon.specs.Encoding.{Divided}
use Rattle.reedsolomon.specs.Row.{symbol}
use Rattle.reedsolomon.specs.Steps.{Written, IsRemainder}
use Rattle.reedsolomon.proofs.FieldFacts.{mul_zero}
use Rattle.reedsolomon.proofs.Encoding.{division_of_no_data, division_of_one_symbol_more}
use Rattle.reedsolomon.proofs.Remainders.{zeros_at}
use Rattle.syndromes.specs.Packed.{symbol_in, coefficient_in, IsGenerator}
use Rattle.syndromes.proofs.Packed.{symbol_of_sum, first_symbol, symbol_behind}
use Rattle.syndromes.proofs.ThreeWords.{Each}

-- n has the symbols of the remainder of the first k data, by the generator g of T roots
abbrev pub DividedTo : ℕ → ℕ → List ℕ → ℕ → ℕ → Type 0
DividedTo T g d k n = Divided add (mul 6 67) 0 1 (λ a. a < 2 ^ 6) T (coefficient_in g) (symbol d) k (symbol_in n)

module _ (T g : ℕ) (h : IsGenerator T g) (d : List ℕ) where
  pub no_data : DividedTo T g d 0 0
  unfolding symbol_in
  no_data =
      division_of_no_data field64 T (coefficient_in g) h.generator.monic (symbol d) (symbol_in 0) (λ j. ap (λ (t : ℕ). t % 2 ^ 6) (zero-div (2 ^ (6 * j))))

  -- f times g has the symbols `times f`
  pub one_symbol_more : T ≤ 30 → (times : ℕ → ℕ) → ((f : ℕ) → Each (mul 6 67 f) 30 g (times f)) → (k n n' : ℕ) → symbol d k < 2 ^ 6 → ((i : ℕ) → 30 ≤ i → symbol_in n' i ≡ 0)
      → DividedTo T g d k n → n' ≡ add (n / 2 ^ 6) (times (add (symbol d k) (n % 2 ^ 6))) → DividedTo T g d (k + 1) n'
  one_symbol_more few times product k n n' hd ends v e =
      subst (λ (x : ℕ). DividedTo T g d x n') (sym (add-one k))
      (division_of_one_symbol_more field64 T (coefficient_in g) h.generator.monic (symbol d) (symbol_in n) (symbol_in n') k hd v
      (record {
        written = λ i l. ⊎_elim (stepped i) (λ u. absurd (omega arith)) (lt_or_le i 30);
        kept = λ i l. ⊎_elim
            (λ u. stepped i u ∙ ap₂ (λ (x y : ℕ). add x (mul 6 67 f y)) (v.ended (suc i) (omega arith)) (h.ended (suc i) (omega arith))
            ∙ ap (add 0) (mul_zero field64 f) ∙ add_zero_l 0)
            (ends i) (lt_or_le i 30) ∙ sym (v.ended i l);
      }))
    where
      f : ℕ
      f = add (symbol d k) (symbol_in n 0)

      stepped : (i : ℕ) → i < 30 → symbol_in n' i ≡ add (symbol_in n (suc i)) (mul 6 67 f (coefficient_in g (suc i)))
      stepped i l =
          unfold coefficient_in in
          ap (λ (x : ℕ). symbol_in x i) (e ∙ ap (λ (x : ℕ). add (n / 2 ^ 6) (times (add (symbol d k) x))) (sym (first_symbol n)))
          ∙ symbol_of_sum i (n / 2 ^ 6) (times f) ∙ ap₂ add (symbol_behind n i) (product f i l)

  -- the symbols of n are the remainder
  pub remainder_of_symbols : (k n : ℕ) (r : List ℕ) → k ≡ length d → DividedTo T g d k n → Written T (symbol_in n) (replicate 33 0) r → IsRemainder 6 67 T d (length d) r
  remainder_of_symbols k n r e v w =
      record {
        divisor = coefficient_in g;
        generator = h.generator;
        divided = subst (Divided add (mul 6 67) 0 1 (λ a. a < 2 ^ 6) T (coefficient_in g) (symbol d) (length d)) (fun_ext same) (subst (λ (j : ℕ). DividedTo T g d j n) e v);
      }
    where
      same : (i : ℕ) → symbol_in n i ≡ symbol r i
      same i = ⊎_elim (λ l. sym (w.written i l)) (λ l. v.ended i l ∙ sym (w.kept i l ∙ zeros_at 33 i)) (lt_or_le i T)
