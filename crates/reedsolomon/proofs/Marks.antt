-- Marks in a list: whether a column is marked, and how many are. Assumes nothing.
use mathlib.Core.Path.{◌≡◌, refl, sym, ap, ap₂, ◌∙◌, subst}
use mathlib.Core.Bool.{Bool, true, false}
use mathlib.Core.Logic.{◌⊎◌, inl, inr, ⊎_elim}
use mathlib.Core.List.{List}
use Prim.Native.Nat.{ℕ, zero, suc, ◌+◌, ◌≤◌, ◌<◌}
use native.Mathlib.Nat.{le_refl, le-suc, lt_irrefl, not-suc-le-zero, eq-or-lt_of_le}
use native.Mathlib.Numerals.{add-one}
use native.Mathlib.Decide.{ℕ_discrete}
use native.Mathlib.Omega.{arith}
use borrow.Author.Tests.{eq-eqb, ne_eqb, eqb-true}
use lib.Bits.{bit_xor}
use lib.Dec.{eqb}
use lib.ListN.{length, set}
use lib.Seq.{get_or-set_same, get_or-set_other}
use Rattle.poly.specs.Polynomial.{add}
use Rattle.reedsolomon.specs.Words.{indicator, count, errors, wrong}
use Rattle.reedsolomon.specs.Row.{symbol, marked}
use Rattle.reedsolomon.specs.Steps.{locator_at, Flagged, LocatorsOf, Added}
use Rattle.reedsolomon.proofs.Counting.{true_is_not_false, count_of_marked, count_of_unmarked, fewer_marks_before, unequal_at_most_one, unequal_of_equal}

module _ (marks : List ℕ) (j : ℕ) where
  pub is_marked : symbol marks j ≡ 1 → marked marks j ≡ true
  unfolding marked
  is_marked e = eq-eqb _ 1 e

  pub is_unmarked : (symbol marks j ≡ 1 → ⊥) → marked marks j ≡ false
  unfolding marked
  is_unmarked e = ne_eqb _ 1 e

  pub mark_is_one : marked marks j ≡ true → symbol marks j ≡ 1
  unfolding marked
  mark_is_one e = eqb-true _ 1 e

  pub one_more_marked : symbol marks j ≡ 1 → count (marked marks) (j + 1) ≡ count (marked marks) j + 1
  one_more_marked e = ap (count (marked marks)) (add-one j) ∙ count_of_marked (marked marks) j (is_marked e) ∙ sym (add-one (count (marked marks) j))

  pub one_more_unmarked : (symbol marks j ≡ 1 → ⊥) → count (marked marks) (j + 1) ≡ count (marked marks) j
  one_more_unmarked e = ap (count (marked marks)) (add-one j) ∙ count_of_unmarked (marked marks) j (is_unmarked e)

  pub one_more_counted : (n r : ℕ) → n ≡ count (marked marks) j → r ≡ indicator (eqb (symbol marks j) 1) → n + r ≡ count (marked marks) (j + 1)
  unfolding count marked
  one_more_counted n r hn hr = ap₂ ◌+◌ hn hr ∙ ap (count (marked marks)) (sym (add-one j))

pub none_counted : (E : ℕ → Bool) → 0 ≡ count E 0
unfolding count
none_counted E = refl

-- ---- columns that differ
module _ (marks w v : List ℕ) where
  abbrev wrongs : ℕ → ℕ
  wrongs j = errors ℕ_discrete (marked marks) j (symbol w) (symbol v)

  pub none_wrong : 0 ≡ wrongs 0
  unfolding errors
  none_wrong = refl

  pub wrongs_at_most : (j : ℕ) → wrongs j ≤ j
  unfolding errors
  wrongs_at_most zero = le_refl 0
  wrongs_at_most (suc j) = omega (arith, wrongs_at_most j, one (marked marks j) (ℕ_discrete (symbol w j) (symbol v j)))
    where
      one : (b : Bool) {A : Type 0} (d : Dec A) → wrong b d ≤ 1
      one true d = unfold wrong in le-suc 0
      one false d = unfold wrong in unequal_at_most_one d

  pub equal_is_not_wrong : (j : ℕ) → symbol w j ≡ symbol v j → wrongs (j + 1) ≡ wrongs j
  unfolding errors
  equal_is_not_wrong j e =
      ap wrongs (add-one j) ∙ ap (λ (x : ℕ). wrongs j + x) (none (marked marks j) (ℕ_discrete (symbol w j) (symbol v j)) e) ∙ native.Mathlib.Nat.add-zero (wrongs j)
    where
      none : (b : Bool) {A : Type 0} (d : Dec A) → A → wrong b d ≡ 0
      none true d a = unfold wrong in refl
      none false d a = unfold wrong in unequal_of_equal d a

  pub one_more_compared : (j e r : ℕ) → e ≡ wrongs j → r ≡ wrong (eqb (symbol marks j) 1) (ℕ_discrete (symbol w j) (symbol v j)) → e + r ≡ wrongs (j + 1)
  unfolding errors marked
  one_more_compared j e r he hr = ap₂ ◌+◌ he hr ∙ ap wrongs (sym (add-one j))

pub wrongs_of_itself : (marks w : List ℕ) (j : ℕ) → errors ℕ_discrete (marked marks) j (symbol w) (symbol w) ≡ 0
unfolding errors
wrongs_of_itself marks w zero = refl
wrongs_of_itself marks w (suc j) =
    ap (λ (x : ℕ). errors ℕ_discrete (marked marks) x (symbol w) (symbol w)) (sym (add-one j)) ∙ equal_is_not_wrong marks w w j refl ∙ wrongs_of_itself marks w j

-- ---- lists that are written as far as column j
up_to : (j i : ℕ) → i < j + 1 → (i ≡ j) ⊎ (i < j)
up_to j i l = ⊎_elim (λ e. inl (omega arith)) (λ u. inr (omega arith)) (eq-or-lt_of_le l)

module _ (m g : ℕ) where
  pub none_flagged : (marks values flags : List ℕ) → Flagged m g 0 marks values flags
  none_flagged marks values flags =
      record { only = λ j l. absurd (not-suc-le-zero l); erased = λ j l. absurd (not-suc-le-zero l); zero = λ j l. absurd (not-suc-le-zero l) }

  pub one_more_flagged : (marks values flags : List ℕ) (j v : ℕ) → j < length flags → Flagged m g j marks values flags
      → ((symbol marks j ≡ 1) ⊎ (symbol values j ≡ 0) → v ≡ 1) → (v ≡ 1 → (symbol marks j ≡ 1) ⊎ (symbol values j ≡ 0)) → Flagged m g (j + 1) marks values (set flags j v)
  one_more_flagged marks values flags j v h f if only_if =
      record {
        only = λ i l e. ⊎_elim
            (λ q. subst (λ (x : ℕ). (marked marks x ≡ true) ⊎ (symbol values x ≡ 0)) (sym q)
            (⊎_elim (λ y. inl (is_marked marks j y)) (λ y. inr y) (only_if (sym here ∙ mark_is_one (set flags j v) j (ap (marked (set flags j v)) (sym q) ∙ e)))))
            (λ u. f.only i u (sym (there i u) ∙ e)) (up_to j i l);
        erased = λ i l e. ⊎_elim
            (λ q. ap (marked (set flags j v)) q ∙ is_marked (set flags j v) j (here ∙ if (inl (mark_is_one marks j (ap (marked marks) (sym q) ∙ e)))))
            (λ u. there i u ∙ f.erased i u e) (up_to j i l);
        zero = λ i l e. ⊎_elim (λ q. ap (marked (set flags j v)) q ∙ is_marked (set flags j v) j (here ∙ if (inr (ap (symbol values) (sym q) ∙ e))))
            (λ u. there i u ∙ f.zero i u e) (up_to j i l);
      }
    where
      here : symbol (set flags j v) j ≡ v
      here = get_or-set_same flags j v 0 h

      there : (i : ℕ) → i < j → marked (set flags j v) i ≡ marked flags i
      there i u = unfold marked in ap (λ (x : ℕ). eqb x 1) (get_or-set_other flags j i v 0 (λ q. lt_irrefl i (omega arith)))

  -- the locators of the marked columns: the next locator is written behind those before, marked or not
  pub one_more_locator : (N : ℕ) (flags xs : List ℕ) (j k : ℕ) → k ≡ count (marked flags) j → k < length xs
      → ((i : ℕ) → i < j → marked flags i ≡ true → symbol xs (count (marked flags) i) ≡ locator_at m g N i)
      → (i : ℕ) → i < j + 1 → marked flags i ≡ true → symbol (set xs k (locator_at m g N j)) (count (marked flags) i) ≡ locator_at m g N i
  one_more_locator N flags xs j k e h f i l q =
      ⊎_elim
      (λ z. ap (symbol (set xs k (locator_at m g N j))) (ap (count (marked flags)) z ∙ sym e) ∙ get_or-set_same xs k (locator_at m g N j) 0 h ∙ ap (locator_at m g N) (sym z))
      (λ u. let less : count (marked flags) i < count (marked flags) j = fewer_marks_before (marked flags) j i u q in
      get_or-set_other xs k (count (marked flags) i) (locator_at m g N j) 0 (λ y. lt_irrefl k (omega arith)) ∙ f i u q)
      (up_to j i l)

  -- what the last column left behind the locators is cleared
  pub locators_end : (N : ℕ) (flags xs : List ℕ) (k : ℕ) → k ≡ count (marked flags) N → k < length xs
      → ((i : ℕ) → i < N → marked flags i ≡ true → symbol xs (count (marked flags) i) ≡ locator_at m g N i) → ((i : ℕ) → k < i → symbol xs i ≡ 0) → LocatorsOf m g N flags (set xs k 0) k
  locators_end N flags xs k e h f z =
      record {
        number = e;
        locators = λ j l q. let less : count (marked flags) j < count (marked flags) N = fewer_marks_before (marked flags) N j l q in
            get_or-set_other xs k (count (marked flags) j) 0 0 (λ y. lt_irrefl k (omega arith)) ∙ f j l q;
        ended = λ i l. ⊎_elim (λ q. ap (symbol (set xs k 0)) (sym q) ∙ get_or-set_same xs k 0 0 h) (λ u. get_or-set_other xs k i 0 0 (λ y. lt_irrefl k (omega arith)) ∙ z i u)
            (eq-or-lt_of_le l);
      }

  pub none_added : (flags ys w : List ℕ) → Added m g 0 flags ys w w
  none_added flags ys w = record { location = λ j l. absurd (not-suc-le-zero l); other = λ j l. absurd (not-suc-le-zero l); after = λ j l. refl }

  pub one_more_added : (flags ys w v : List ℕ) (j k : ℕ) → j < length v → k ≡ count (marked flags) j → symbol flags j ≡ 1 → Added m g j flags ys w v
      → Added m g (j + 1) flags ys w (set v j (bit_xor (symbol v j) (symbol ys k)))
  unfolding add
  one_more_added flags ys w v j k h e q f =
      record {
        location = λ i l y. ⊎_elim
            (λ z. ap (symbol new) z ∙ get_or-set_same v j _ 0 h ∙ ap₂ bit_xor (f.after j (le_refl j)) (ap (symbol ys) e)
            ∙ ap (λ (x : ℕ). bit_xor (symbol w x) (symbol ys (count (marked flags) x))) (sym z))
            (λ u. there i (λ z. lt_irrefl i (omega arith)) ∙ f.location i u y) (up_to j i l);
        other = λ i l y. ⊎_elim (λ z. absurd (true_is_not_false (sym (is_marked flags j q) ∙ ap (marked flags) (sym z) ∙ y)))
            (λ u. there i (λ z. lt_irrefl i (omega arith)) ∙ f.other i u y) (up_to j i l);
        after = λ i l. there i (λ z. lt_irrefl i (omega arith)) ∙ f.after i (omega arith);
      }
    where
      new : List ℕ
      new = set v j (bit_xor (symbol v j) (symbol ys k))

      there : (i : ℕ) → (i ≡ j → ⊥) → symbol new i ≡ symbol v i
      there i ne = get_or-set_other v j i _ 0 ne

  pub one_more_passed : (flags ys w v : List ℕ) (j : ℕ) → (symbol flags j ≡ 1 → ⊥) → Added m g j flags ys w v → Added m g (j + 1) flags ys w v
  one_more_passed flags ys w v j q f =
      record {
        location = λ i l y. ⊎_elim (λ z. absurd (q (mark_is_one flags j (ap (marked flags) (sym z) ∙ y)))) (λ u. f.location i u y) (up_to j i l);
        other = λ i l y. ⊎_elim (λ z. f.after i (omega arith)) (λ u. f.other i u y) (up_to j i l);
        after = λ i l. f.after i (omega arith);
      }
