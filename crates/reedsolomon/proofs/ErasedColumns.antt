-- At lists: the modified syndromes, and the error locations' polynomial. Assumes nothing.
use mathlib.Core.Path.{◌≡◌, refl, sym, ap, ◌∙◌, subst}
use mathlib.Core.Bool.{Bool, true, false}
use mathlib.Core.Logic.{⊎_elim}
use mathlib.Core.List.{List}
use Prim.Native.Nat.{ℕ, zero, suc, ◌+◌, ◌^◌, ◌<◌}
use native.Mathlib.Numerals.{add-one}
use native.Mathlib.Omega.{arith}
use lib.ListN.{set, replicate}
use lib.Seq.{get_or-set_same, get_or-set_other}
use Rattle.poly.specs.Polynomial.{add}
use Rattle.poly.proofs.Sum.{lt_or_le}
use Rattle.field.specs.Element.{mul, inverse}
use Rattle.field.specs.Laws.{Field}
use Rattle.reedsolomon.specs.Words.{count}
use Rattle.reedsolomon.specs.ModifiedSyndromes.{Left}
use Rattle.reedsolomon.specs.Product.{ProductPolynomial}
use Rattle.reedsolomon.specs.Row.{symbol, Symbols, marked}
use Rattle.reedsolomon.specs.Steps.{Written, locator_at}
use Rattle.reedsolomon.proofs.Counting.{count_of_all, count_of_marked, count_of_unmarked}
use Rattle.reedsolomon.proofs.ModifiedSyndromes.{modifying_begins, marked_locator_is_modified, unmarked_locator_is_passed}
use Rattle.reedsolomon.proofs.Product.{product_of_no_locators, product_with_marked_locator}
use Rattle.reedsolomon.proofs.Marks.{is_marked, is_unmarked}
use Rattle.reedsolomon.proofs.Remainders.{zeros_at}

module _ (m g : ℕ) (K : Field (λ a. a < 2 ^ m) add (mul m g) 0 1 (inverse m g)) where
  -- the locator y is taken out of the first n + 1 entries
  abbrev pub ModifiedBy : ℕ → ℕ → List ℕ → List ℕ → Type 0
  ModifiedBy n y s s' = Written n (λ i. add (symbol s (suc i)) (mul m g y (symbol s i))) s s'

  pub modified_inside : (n y : ℕ) (s s' : List ℕ) → Symbols m s → ModifiedBy n y s s' → Symbols m s'
  modified_inside n y s s' h f i =
      ⊎_elim (λ l. subst (λ (x : ℕ). x < 2 ^ m) (sym (f.written i l)) (K.in_sum (symbol s (suc i)) (mul m g y (symbol s i)) (h (suc i)) (K.in_mul y (symbol s i))))
      (λ l. subst (λ (x : ℕ). x < 2 ^ m) (sym (f.kept i l)) (h i)) (lt_or_le i n)

  module _ (N : ℕ) (marks s₀ : List ℕ) where
    abbrev LeftAt : ℕ → ℕ → List ℕ → Type 0
    LeftAt j n s = Left add (mul m g) (locator_at m g N) (marked marks) j (suc n) (symbol s₀) (symbol s)

    pub no_column_modified : (n : ℕ) → LeftAt 0 n s₀
    no_column_modified n = modifying_begins K (locator_at m g N) (marked marks) (symbol s₀) (suc n) (symbol s₀) (λ i l. refl)

    -- where no column is marked, nothing is taken out
    pub nothing_to_modify : (n j : ℕ) → count (marked marks) j ≡ 0 → LeftAt j n s₀
    nothing_to_modify n zero e = no_column_modified n
    nothing_to_modify n (suc j) e = go (marked marks j) refl (nothing_to_modify n j)
      where
        go : (b : Bool) → marked marks j ≡ b → (count (marked marks) j ≡ 0 → LeftAt j n s₀) → LeftAt (suc j) n s₀
        go true q before = absurd (omega (arith, e, count_of_marked (marked marks) j q))
        go false q before =
            unmarked_locator_is_passed K (locator_at m g N) (marked marks) (symbol s₀) (suc n) j (symbol s₀) q (before (sym (count_of_unmarked (marked marks) j q) ∙ e))

    pub marked_column_modified : (n j y : ℕ) (s s' : List ℕ) → symbol marks j ≡ 1 → y ≡ locator_at m g N j → LeftAt j n s → ModifiedBy n y s s' → LeftAt (j + 1) n s'
    marked_column_modified n j y s s' e ey f w =
        subst (λ (x : ℕ). LeftAt x n s') (sym (add-one j))
        (marked_locator_is_modified K (locator_at m g N) (marked marks) (symbol s₀) (suc n) j (symbol s) (symbol s') (is_marked marks j e) f
        (λ i l. let q : count (marked marks) (suc j) ≡ suc (count (marked marks) j) = count_of_marked (marked marks) j (is_marked marks j e) in
        w.written i (omega arith) ∙ ap (λ (x : ℕ). add (symbol s (suc i)) (mul m g x (symbol s i))) ey))

    pub unmarked_column_passed : (n j : ℕ) (s : List ℕ) → (symbol marks j ≡ 1 → ⊥) → LeftAt j n s → LeftAt (j + 1) n s
    unmarked_column_passed n j s e f =
        subst (λ (x : ℕ). LeftAt x n s) (sym (add-one j))
        (unmarked_locator_is_passed K (locator_at m g N) (marked marks) (symbol s₀) (suc n) j (symbol s) (is_unmarked marks j e) f)

  module _ (xs : List ℕ) where
    abbrev ProductAt : ℕ → ℕ → List ℕ → Type 0
    ProductAt k e s = ProductPolynomial (λ a. a < 2 ^ m) add (mul m g) 0 1 (symbol xs) (λ i. true) k e (symbol s)

    pub product_begins : (n e : ℕ) → e < n → ProductAt 0 e (set (replicate n 0) e 1)
    product_begins n e l =
        product_of_no_locators K (symbol xs) (λ i. true) e (symbol (set (replicate n 0) e 1))
        (get_or-set_same (replicate n 0) e 1 0 (omega (arith, lib.ListN.length-replicate {A = ℕ} n 0))) (λ i ne. get_or-set_other (replicate n 0) e i 1 0 ne ∙ zeros_at n i)

    pub product_goes_on : (e k y : ℕ) (s s' : List ℕ) → k < e → y ≡ symbol xs k → ProductAt k e s → ModifiedBy (suc e) y s s' → ProductAt (k + 1) e s'
    product_goes_on e k y s s' room ey f w =
        subst (λ (x : ℕ). ProductAt x e s') (sym (add-one k))
        (product_with_marked_locator K (symbol xs) (λ i. true) e k (symbol s) (symbol s') refl (omega (arith, count_of_all k)) f
        (record {
          written = λ i l. w.written i (omega arith) ∙ ap (λ (x : ℕ). add (symbol s (suc i)) (mul m g x (symbol s i))) ey;
          kept = λ i l. w.kept i l;
        }))
