-- Sixteen columns at a time: power sums, values of a polynomial, and what is to be added. Assumes nothing.
use mathlib.Core.Path.{◌≡◌, refl, sym, ap, ap₂, ◌∙◌}
use mathlib.Core.List.{List}
use Prim.Native.Nat.{ℕ, suc, ◌+◌, ◌-◌, ◌*◌, ◌^◌, ◌≤◌, ◌<◌}
use native.Mathlib.Numerals.{add-one}
use native.Mathlib.Omega.{arith}
use lib.Bits.{bit_xor}
use lib.ListN.{replicate}
use Rattle.poly.specs.Polynomial.{add}
use Rattle.field.specs.Element.{mul, inverse, α}
use Rattle.field.specs.Laws.{Field}
use Rattle.reedsolomon.specs.Sums.{sum, power, value}
use Rattle.reedsolomon.specs.Words.{Elements}
use Rattle.reedsolomon.specs.Quotient.{quotient, denominator, numerator, magnitude}
use Rattle.reedsolomon.specs.Row.{symbol}
use Rattle.reedsolomon.specs.Steps.{Entries, Written, Padded, locator_at, locator_sum, Summed, HasSyndromes}
use Rattle.reedsolomon.proofs.FieldFacts.{zero_sum, zero_mul}
use Rattle.reedsolomon.proofs.Sums.{sum_of_equals, sum_in_parts, sum_without_end}
use Rattle.reedsolomon.proofs.Syndromes.{syndrome_is_sum}
use Rattle.reedsolomon.proofs.Remainders.{zeros_at}

pub one_more_term : (f : ℕ → ℕ) (n a : ℕ) → a ≡ sum add 0 n f → bit_xor a (f n) ≡ sum add 0 (n + 1) f
unfolding sum add
one_more_term f n a e = ap (λ (t : ℕ). bit_xor t (f n)) e ∙ ap (λ (t : ℕ). sum add 0 t f) (sym (add-one n))

module _ (m g : ℕ) (K : Field (λ a. a < 2 ^ m) add (mul m g) 0 1 (inverse m g)) where
  -- ---- power sums: the weight w_l * X_l ^ i of entry l

  abbrev pub weight : List ℕ → List ℕ → ℕ → ℕ → ℕ
  weight w xs i l = mul m g (symbol w l) (power (mul m g) 1 (symbol xs l) i)

  pub weights_begin : (n : ℕ) (w xs : List ℕ) → Elements (λ a. a < 2 ^ m) n (symbol w) → Entries n (weight w xs 0) w
  unfolding power
  weights_begin n w xs h l u = sym (K.mul_one (symbol w l) (h l u))

  pub weights_go_on : (n : ℕ) (w xs c c' : List ℕ) (i : ℕ) → Entries n (weight w xs i) c → Entries n (λ l. mul m g (symbol xs l) (symbol c l)) c'
      → Entries n (weight w xs (i + 1)) c'
  unfolding power
  weights_go_on n w xs c c' i h h' l u =
      h' l u ∙ ap (mul m g (symbol xs l)) (h l u) ∙ exchange (symbol xs l) (symbol w l) (power (mul m g) 1 (symbol xs l) i) ∙ ap (λ (x : ℕ). weight w xs x l) (sym (add-one i))
    where
      exchange : (x w p : ℕ) → mul m g x (mul m g w p) ≡ mul m g w (mul m g x p)
      exchange x w p = sym (K.mul_assoc x w p) ∙ ap (λ (t : ℕ). mul m g t p) (K.mul_comm x w) ∙ K.mul_assoc w x p

  pub sum_of_weights : (n : ℕ) (w xs c : List ℕ) (i : ℕ) → Entries n (weight w xs (i + 1)) c → sum add 0 n (symbol c) ≡ locator_sum m g n (symbol w) (symbol xs) i
  unfolding locator_sum
  sum_of_weights n w xs c i h = sum_of_equals K n (symbol c) (weight w xs (suc i)) (λ l u. h l u ∙ ap (λ (x : ℕ). weight w xs x l) (add-one i))

  -- s with the power sums of the first n entries
  abbrev pub AddedTo : ℕ → ℕ → List ℕ → List ℕ → List ℕ → List ℕ → Type 0
  AddedTo n t w xs s r = Written t (λ i. add (symbol s i) (locator_sum m g n (symbol w) (symbol xs) i)) s r

  pub no_block : (t : ℕ) (w xs s : List ℕ) → AddedTo 0 t w xs s s
  unfolding locator_sum sum
  no_block t w xs s = record { written = λ i l. sym (K.sum_zero (symbol s i)); kept = λ i l. refl }

  pub one_more_block : (t b : ℕ) (w xs x y s r r' : List ℕ) → Entries 16 (λ i. symbol w (b * 16 + i)) x → Entries 16 (λ i. symbol xs (b * 16 + i)) y
      → AddedTo (b * 16) t w xs s r → AddedTo 16 t x y r r' → AddedTo ((b + 1) * 16) t w xs s r'
  unfolding locator_sum
  one_more_block t b w xs x y s r r' ex ey f f' =
      let e : b * 16 + 16 ≡ (b + 1) * 16 = omega arith in
      record {
        written = λ i l.
            f'.written i l
            ∙ ap₂ add (f.written i l) (sum_of_equals K 16 (weight x y (suc i)) (λ j. weight w xs (suc i) (b * 16 + j))
            (λ j u. ap₂ (λ (p q : ℕ). mul m g p (power (mul m g) 1 q (suc i))) (ex j u) (ey j u)))
            ∙ K.sum_assoc (symbol s i) (sum add 0 (b * 16) (weight w xs (suc i))) (sum add 0 16 (λ j. weight w xs (suc i) (b * 16 + j)))
            ∙ ap (add (symbol s i)) (sym (sum_in_parts K (b * 16) 16 (weight w xs (suc i))) ∙ ap (λ (n : ℕ). sum add 0 n (weight w xs (suc i))) e);
        kept = λ i l. f'.kept i l ∙ f.kept i l;
      }

  -- the sums over more columns than there are, in which 0 stands, are the syndromes
  pub syndromes_by_sums : (N k t n : ℕ) (w all s : List ℕ) → N ≤ k → Padded m N w → Entries N (locator_at m g N) all → Summed m g k t w all (replicate n 0) s → HasSyndromes m g N t w s
  unfolding locator_sum
  syndromes_by_sums N k t n w all s room p hall f =
      record {
        syndromes = λ i l.
            f.sums.written i l ∙ ap (λ (x : ℕ). add x (sum add 0 f.number (weight w all (suc i)))) (zeros_at n i) ∙ zero_sum K (sum add 0 f.number (weight w all (suc i)))
            ∙ ap (λ (x : ℕ). sum add 0 x (weight w all (suc i))) split
            ∙ sum_without_end K N (f.number - N) (weight w all (suc i))
            (λ j u v. ap (λ (x : ℕ). mul m g x (power (mul m g) 1 (symbol all j) (suc i))) (p.ended j u) ∙ zero_mul K (power (mul m g) 1 (symbol all j) (suc i)))
            ∙ sum_of_equals K N (weight w all (suc i)) (λ j. mul m g (symbol w j) (power (mul m g) 1 (locator_at m g N j) (suc i)))
            (λ j u. ap (λ (x : ℕ). mul m g (symbol w j) (power (mul m g) 1 x (suc i))) (hall j u))
            ∙ sym (syndrome_is_sum K α N (symbol w) i (λ j u. p.inside j));
        ended = λ i l. f.sums.kept i l ∙ zeros_at n i;
      }
    where
      split : f.number ≡ N + (f.number - N)
      split = omega (arith, f.enough)

  -- ---- values of a polynomial p, the highest coefficient first

  abbrev pub value_at : ℕ → (ℕ → ℕ) → List ℕ → ℕ → ℕ
  value_at k p xs i = value add (mul m g) 0 k p (symbol xs i)

  pub values_begin : (n : ℕ) (p : ℕ → ℕ) (xs : List ℕ) → Entries 16 (value_at 0 p xs) (replicate n 0)
  unfolding value
  values_begin n p xs i l = zeros_at n i

  pub values_go_on : (p : ℕ → ℕ) (xs v v' : List ℕ) (k c : ℕ) → c ≡ p k → Entries 16 (value_at k p xs) v
      → Entries 16 (λ i. add (mul m g (symbol xs i) (symbol v i)) c) v' → Entries 16 (value_at (k + 1) p xs) v'
  unfolding value
  values_go_on p xs v v' k c e h h' i l =
      h' i l ∙ ap₂ add (ap (mul m g (symbol xs i)) (h i l) ∙ K.mul_comm (symbol xs i) (value_at k p xs i)) e
      ∙ ap (λ (x : ℕ). value_at x p xs i) (sym (add-one k))

  -- ---- the recurrences of the magnitudes

  pub denominators_begin : (n : ℕ) (p : ℕ → ℕ) (xs : List ℕ) → Entries 16 (λ i. denominator add (mul m g) 0 p (symbol xs i) 0) (replicate n 0)
  unfolding denominator
  denominators_begin n p xs i l = zeros_at n i

  pub denominators_go_on : (p : ℕ → ℕ) (xs q d d' : List ℕ) (j : ℕ) → Entries 16 (value_at (j + 1) p xs) q
      → Entries 16 (λ i. denominator add (mul m g) 0 p (symbol xs i) j) d → Entries 16 (λ i. add (mul m g (symbol xs i) (symbol d i)) (symbol q i)) d'
      → Entries 16 (λ i. denominator add (mul m g) 0 p (symbol xs i) (j + 1)) d'
  unfolding denominator quotient
  denominators_go_on p xs q d d' j hq h h' i l =
      h' i l
      ∙ ap₂ add (ap (mul m g (symbol xs i)) (h i l) ∙ K.mul_comm (symbol xs i) (denominator add (mul m g) 0 p (symbol xs i) j)) (hq i l ∙ ap (λ (x : ℕ). value_at x p xs i) (add-one j))
      ∙ ap (denominator add (mul m g) 0 p (symbol xs i)) (sym (add-one j))

  pub numerators_begin : (n k : ℕ) (S p : ℕ → ℕ) (xs : List ℕ) → Entries 16 (λ i. numerator add (mul m g) 0 k S p (symbol xs i) 0) (replicate n 0)
  unfolding numerator
  numerators_begin n k S p xs i l = zeros_at n i

  pub numerators_go_on : (k : ℕ) (S p : ℕ → ℕ) (xs q a a' : List ℕ) (j e : ℕ) → e ≡ S (k - suc j) → Entries 16 (value_at (j + 1) p xs) q
      → Entries 16 (λ i. numerator add (mul m g) 0 k S p (symbol xs i) j) a → Entries 16 (λ i. add (symbol a i) (mul m g e (symbol q i))) a'
      → Entries 16 (λ i. numerator add (mul m g) 0 k S p (symbol xs i) (j + 1)) a'
  unfolding numerator quotient
  numerators_go_on k S p xs q a a' j e he hq h h' i l =
      h' i l ∙ ap₂ add (h i l) (ap₂ (mul m g) he (hq i l ∙ ap (λ (x : ℕ). value_at x p xs i) (add-one j)))
      ∙ ap (numerator add (mul m g) 0 k S p (symbol xs i)) (sym (add-one j))

  pub magnitudes_end : (k : ℕ) (S p : ℕ → ℕ) (xs a d x y r : List ℕ) → Entries 16 (λ i. numerator add (mul m g) 0 k S p (symbol xs i) k) a
      → Entries 16 (λ i. denominator add (mul m g) 0 p (symbol xs i) k) d → Entries 16 (λ i. mul m g (symbol d i) (symbol xs i)) x
      → Entries 16 (λ i. inverse m g (symbol x i)) y → Entries 16 (λ i. mul m g (symbol a i) (symbol y i)) r
      → Entries 16 (λ i. magnitude add (mul m g) 0 (inverse m g) k S p (symbol xs i)) r
  unfolding magnitude
  magnitudes_end k S p xs a d x y r ha hd hx hy hr i l =
      hr i l ∙ ap₂ (mul m g) (ha i l) (hy i l ∙ ap (inverse m g) (hx i l ∙ ap (λ (z : ℕ). mul m g z (symbol xs i)) (hd i l)))
