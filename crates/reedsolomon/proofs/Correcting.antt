-- From what the code's steps give to the correction of the theory. Assumes nothing.
use mathlib.Core.Path.{◌≡◌, refl, sym, ap, ap₂, ◌∙◌, subst}
use mathlib.Core.Bool.{Bool, true, false}
use mathlib.Core.Logic.{⊎_elim, inl, inr}
use mathlib.Core.List.{List}
use Prim.Native.Nat.{ℕ, zero, suc, ◌+◌, ◌-◌, ◌/◌, ◌^◌, ◌≤◌, ◌<◌}
use native.Mathlib.Nat.{le_trans, le-suc, lt-suc_self}
use native.Mathlib.Decide.{ℕ_discrete}
use native.Mathlib.Omega.{arith}
use Rattle.poly.specs.Polynomial.{add}
use Rattle.poly.proofs.Sum.{lt_or_le}
use Rattle.field.specs.Element.{mul, inverse, α, Primitive}
use Rattle.field.specs.Laws.{Field}
use Rattle.reedsolomon.specs.Sums.{sum, power, value, reversed}
use Rattle.reedsolomon.specs.Words.{syndrome, indicator, count}
use Rattle.reedsolomon.specs.Quotient.{magnitude}
use Rattle.reedsolomon.specs.Product.{ProductPolynomial}
use Rattle.reedsolomon.specs.Row.{symbol, Symbols, marked}
use Rattle.reedsolomon.specs.Steps.{Entries, Padded, locator_sum, Summed, HasSyndromes, HasModifiedSyndromes, RowAt, coefficient, row_value, locator_at, Flagged, LocatorsOf, Added, HasErrorLocations, IsCorrection}
use Rattle.reedsolomon.proofs.FieldFacts.{mul_zero, zero_mul}
use Rattle.reedsolomon.proofs.Sums.{sum_without_end}
use Rattle.reedsolomon.proofs.Syndromes.{syndrome_is_sum, syndrome_of_sum, syndrome_of_equals}
use Rattle.reedsolomon.proofs.Counting.{count_of_all, count_of_marked, count_of_unmarked, fewer_marks_before}
use Rattle.reedsolomon.proofs.Polynomials.{value_in}
use Rattle.reedsolomon.proofs.Powers.{position_in, positions_are_distinct}
use Rattle.reedsolomon.proofs.Product.{product_has_marked_roots}
use Rattle.reedsolomon.proofs.Roots.{reversed_is_not_zero}
use Rattle.reedsolomon.proofs.Locator.{locations_are_few}
use Rattle.reedsolomon.proofs.Elimination.{finished_row_is_not_zero, finished_row_combines_to_zero}
use Rattle.reedsolomon.proofs.Answers.{K, order}

module _ (m g : ℕ) (F : Field (λ a. a < 2 ^ m) add (mul m g) 0 1 (inverse m g)) where
  -- the marks of the error locations, from the row that finished
  pub locations_by_locator : (N T t : ℕ) (marks s M row values flags : List ℕ) (n d : ℕ) → n ≡ (T - count (marked marks) N) / 2 → T ≤ t → HasModifiedSyndromes m g N t marks s M → d ≤ n
      → RowAt m g n M row d n → Entries N (λ j. row_value m g row d (locator_at m g N j)) values → Flagged m g N marks values flags → HasErrorLocations m g N T marks s flags
  unfolding row_value
  locations_by_locator N T t marks s M row values flags n d en h_t st hd r hv f =
      record {
        rest = symbol M;
        degree = d;
        locator = coefficient m g row;
        left = λ i l. st.left i (omega arith);
        locator_in = λ j l. let h = r.degree in r.inside j (omega arith);
        locator_not_zero = finished_row_is_not_zero F 16 n (symbol M) (coefficient m g row) (symbol row) d n r;
        locator_short = subst (λ (x : ℕ). d ≤ x) en hd;
        locator_meets = λ i l. finished_row_combines_to_zero F 16 n (symbol M) (coefficient m g row) (symbol row) d r i (subst (λ (x : ℕ). i < x) (sym en) l);
        locations = λ j l e. ⊎_elim (λ q. inl q) (λ q. inr (sym (hv j l) ∙ q)) (f.only j l e);
        erased_is_location = f.erased;
        root_is_location = λ j l e. f.zero j l (hv j l ∙ e);
      }

  -- the magnitudes added at the error locations make the corrected word
  pub correction_by_magnitudes : (N T e : ℕ) (marks w s flags xs a ys v : List ℕ) (k : ℕ) → Padded m N w → HasSyndromes m g N T w s → HasErrorLocations m g N T marks s flags
      → LocatorsOf m g N flags xs k → k ≤ e → ProductPolynomial (λ a. a < 2 ^ m) add (mul m g) 0 1 (symbol xs) (λ i. true) k e (symbol a)
      → Entries k (λ i. magnitude add (mul m g) 0 (inverse m g) k (symbol s) (λ j. symbol a (e - k + j)) (symbol xs i)) ys → Added m g N flags ys w v
      → IsCorrection m g N T marks w v
  correction_by_magnitudes N T e marks w s flags xs a ys v k hw hs su pl hk pp hy ad =
      record {
        syndromes = symbol s;
        rest = su.rest;
        size = suc su.degree;
        locator = su.locator;
        locations = marked flags;
        number = k;
        polynomial = λ j. symbol a (e - k + j);
        correction = record {
          syndromes = hs.syndromes;
          left = su.left;
          locator_in = su.locator_in;
          locator_not_zero = su.locator_not_zero;
          locator_short = let h = su.locator_short in omega arith;
          locator_meets = su.locator_meets;
          locations = su.locations;
          erased_is_location = su.erased_is_location;
          root_is_location = su.root_is_location;
          number = sym pl.number;
          polynomial_in = λ j l. pp.inside (e - k + j);
          polynomial_monic = pp.leading (e - k + 0) (omega (arith, count_of_all k));
          polynomial_roots = roots;
          corrected = λ j l u. ad.location j l u ∙ ap (add (symbol w j)) (magnitude_at j l u);
          kept = ad.other;
        };
        padded = record {
          inside = λ j. ⊎_elim (λ l. in_row j l (marked flags j) refl) (λ l. subst (λ (x : ℕ). x < 2 ^ m) (sym (ad.after j l)) (hw.inside j)) (lt_or_le j N);
          ended = λ j l. ad.after j l ∙ hw.ended j l;
        };
      }
    where
      below : (j : ℕ) → j < N → marked flags j ≡ true → count (marked flags) j < k
      below j l u = subst (λ (x : ℕ). count (marked flags) j < x) (sym pl.number) (fewer_marks_before (marked flags) N j l u)

      roots : (j : ℕ) → j < N → marked flags j ≡ true → value add (mul m g) 0 (suc k) (λ i. symbol a (e - k + i)) (locator_at m g N j) ≡ 0
      roots j l u =
          subst (λ (x : ℕ). value add (mul m g) 0 (suc k) (λ i. symbol a (e - k + i)) x ≡ 0) (pl.locators j l u)
          (subst (λ (x : ℕ). value add (mul m g) 0 (suc x) (λ i. symbol a (e - k + i)) (symbol xs (count (marked flags) j)) ≡ 0) (count_of_all k)
          (product_has_marked_roots F (symbol xs) (λ i. true) e k (symbol a) pp (e - k) (omega (arith, count_of_all k)) (count (marked flags) j) (below j l u) refl))

      magnitude_at : (j : ℕ) → j < N → marked flags j ≡ true
          → symbol ys (count (marked flags) j) ≡ magnitude add (mul m g) 0 (inverse m g) k (symbol s) (λ i. symbol a (e - k + i)) (locator_at m g N j)
      magnitude_at j l u =
          hy (count (marked flags) j) (below j l u)
          ∙ ap (magnitude add (mul m g) 0 (inverse m g) k (symbol s) (λ i. symbol a (e - k + i))) (pl.locators j l u)

      in_row : (j : ℕ) → j < N → (b : Bool) → marked flags j ≡ b → symbol v j < 2 ^ m
      in_row j l true u =
          subst (λ (x : ℕ). x < 2 ^ m) (sym (ad.location j l u ∙ ap (add (symbol w j)) (magnitude_at j l u)))
          (F.in_sum (symbol w j) _ (hw.inside j) (unfold magnitude in F.in_mul _ _))
      in_row j l false u = subst (λ (x : ℕ). x < 2 ^ m) (sym (ad.other j l u)) (hw.inside j)

  pub magnitude_inside : (k : ℕ) (S p : ℕ → ℕ) (x : ℕ) → magnitude add (mul m g) 0 (inverse m g) k S p x < 2 ^ m
  unfolding magnitude
  magnitude_inside k S p x = F.in_mul _ _

  -- a sum over the marked columns is one over all, where the others have 0
  sum_over_marks : (U : ℕ → Bool) (h f : ℕ → ℕ) (n : ℕ) → ((j : ℕ) → j < n → U j ≡ true → f j ≡ h (count U j)) → ((j : ℕ) → j < n → U j ≡ false → f j ≡ 0)
      → sum add 0 (count U n) h ≡ sum add 0 n f
  unfolding count sum
  sum_over_marks U h f zero t z = refl
  sum_over_marks U h f (suc n) t z =
      last (sum_over_marks U h f n (λ j l. t j (le_trans l (le-suc n))) (λ j l. z j (le_trans l (le-suc n)))) (U n) refl
    where
      last : sum add 0 (count U n) h ≡ sum add 0 n f → (b : Bool) → U n ≡ b → sum add 0 (count U n + indicator (U n)) h ≡ add (sum add 0 n f) (f n)
      last before true q =
          ap (λ (x : ℕ). sum add 0 x h) (count_of_marked U n q) ∙ ap₂ add before (sym (t n (lt-suc_self n) q))
      last before false q =
          ap (λ (x : ℕ). sum add 0 x h) (count_of_unmarked U n q) ∙ before ∙ sym (F.sum_zero (sum add 0 n f)) ∙ ap (add (sum add 0 n f)) (sym (z n (lt-suc_self n) q))

  -- the syndromes of the corrected word: those of the word, and the power sums of what was added
  pub syndromes_of_corrected : (N T k : ℕ) (w v flags ys xs s c : List ℕ) → HasSyndromes m g N T w s → LocatorsOf m g N flags xs k → Added m g N flags ys w v → Symbols m ys
      → Summed m g k T ys xs s c → HasSyndromes m g N T v c
  unfolding locator_sum
  syndromes_of_corrected N T k w v flags ys xs s c hs pl ad hy f =
      record {
        syndromes = λ i l.
            f.sums.written i l ∙ ap₂ add (hs.syndromes i l) (added_sum i)
            ∙ sym (syndrome_of_equals F α N (symbol v) (λ j. add (symbol w j) (change j)) i changed ∙ syndrome_of_sum F α N (symbol w) change i);
        ended = λ i l. f.sums.kept i l ∙ hs.ended i l;
      }
    where
      change_if : Bool → ℕ → ℕ
      change_if true y = y
      change_if false y = 0

      change : ℕ → ℕ
      change j = change_if (marked flags j) (symbol ys (count (marked flags) j))

      change_at : (j : ℕ) → marked flags j ≡ true → change j ≡ symbol ys (count (marked flags) j)
      change_at j q = ap (λ (b : Bool). change_if b (symbol ys (count (marked flags) j))) q

      no_change_at : (j : ℕ) → marked flags j ≡ false → change j ≡ 0
      no_change_at j q = ap (λ (b : Bool). change_if b (symbol ys (count (marked flags) j))) q

      changed : (j : ℕ) → j < N → symbol v j ≡ add (symbol w j) (change j)
      changed j l = go (marked flags j) refl
        where
          go : (b : Bool) → marked flags j ≡ b → symbol v j ≡ add (symbol w j) (change j)
          go true q = ad.location j l q ∙ ap (add (symbol w j)) (sym (change_at j q))
          go false q = ad.other j l q ∙ sym (F.sum_zero (symbol w j)) ∙ ap (add (symbol w j)) (sym (no_change_at j q))

      change_inside : (j : ℕ) → change j < 2 ^ m
      change_inside j = go (marked flags j) refl
        where
          go : (b : Bool) → marked flags j ≡ b → change j < 2 ^ m
          go true q = subst (λ (x : ℕ). x < 2 ^ m) (sym (change_at j q)) (hy (count (marked flags) j))
          go false q = subst (λ (x : ℕ). x < 2 ^ m) (sym (no_change_at j q)) F.in_zero

      term : ℕ → ℕ → ℕ
      term i l = mul m g (symbol ys l) (power (mul m g) 1 (symbol xs l) (suc i))

      behind : (i l : ℕ) → k ≤ l → term i l ≡ 0
      behind i l u =
          unfold power in
          ap (λ (x : ℕ). mul m g (symbol ys l) (mul m g x (power (mul m g) 1 x i))) (pl.ended l u) ∙ ap (mul m g (symbol ys l)) (zero_mul F (power (mul m g) 1 0 i))
          ∙ mul_zero F (symbol ys l)

      split : f.number ≡ k + (f.number - k)
      split = omega (arith, f.enough)

      added_sum : (i : ℕ) → sum add 0 f.number (term i) ≡ syndrome add (mul m g) 0 1 α N change i
      added_sum i =
          ap (λ (x : ℕ). sum add 0 x (term i)) split ∙ sum_without_end F k (f.number - k) (term i) (λ l u v. behind i l u)
          ∙ ap (λ (x : ℕ). sum add 0 x (term i)) pl.number
          ∙ sum_over_marks (marked flags) (term i) (λ j. mul m g (change j) (power (mul m g) 1 (locator_at m g N j) (suc i))) N
          (λ j l q. ap₂ (λ (x y : ℕ). mul m g x (power (mul m g) 1 y (suc i))) (change_at j q) (sym (pl.locators j l q)))
          (λ j l q. ap (λ (x : ℕ). mul m g x (power (mul m g) 1 (locator_at m g N j) (suc i))) (no_change_at j q) ∙ zero_mul F (power (mul m g) 1 (locator_at m g N j) (suc i)))
          ∙ sym (syndrome_is_sum F α N change i (λ j l. change_inside j))

-- there are at most T error locations
pub locations_bounded : (m g N T : ℕ) → Primitive m g → N < 2 ^ m → (marks s flags : List ℕ) → count (marked marks) N ≤ T → HasErrorLocations m g N T marks s flags
    → count (marked flags) N ≤ T
locations_bounded m g N T t few marks s flags he su =
    let short : su.degree ≤ (T - count (marked marks) N) / 2 = su.locator_short in
    let fewer : count (marked flags) N < count (marked marks) N + suc su.degree =
    locations_are_few F ℕ_discrete N (suc su.degree) (reversed (suc su.degree) su.locator) (locator_at m g N) (marked marks) (marked flags)
    (λ j l. su.locator_in (suc su.degree - suc j) (omega arith)) (λ i u. position_in F α N i) (positions_are_distinct F N α (order m g N T t few))
    (reversed_is_not_zero F (suc su.degree) su.locator su.locator_not_zero) su.locations in
    omega arith
  where
    F : Field (λ a. a < 2 ^ m) add (mul m g) 0 1 (inverse m g)
    F = K m g N T t few

pub syndromes_inside : (m g N T : ℕ) → Field (λ a. a < 2 ^ m) add (mul m g) 0 1 (inverse m g) → (w s : List ℕ) → Padded m N w → HasSyndromes m g N T w s → (i : ℕ) → symbol s i < 2 ^ m
syndromes_inside m g N T F w s hw hs i =
    ⊎_elim (λ l. subst (λ (x : ℕ). x < 2 ^ m) (sym (hs.syndromes i l)) (unfold syndrome in value_in F N (symbol w) _ (λ j u. hw.inside j)))
    (λ l. subst (λ (x : ℕ). x < 2 ^ m) (sym (hs.ended i l)) F.in_zero) (lt_or_le i T)
