-- Counts of marks and of entries other than 0. Assumes nothing.
use mathlib.Core.Path.{◌≡◌, refl, sym, ap, ap₂, ◌∙◌, subst}
use mathlib.Core.Bool.{Bool, true, false}
use mathlib.Core.Logic.{⊎_elim}
use Prim.Native.Nat.{ℕ, zero, suc, ◌+◌, ◌≤◌, ◌<◌}
use native.Mathlib.Nat.{not-suc-le-zero, lt_irrefl, le_refl, le_trans, le-suc, lt-suc_self, suc_inj, eq-or-lt_of_le, le_of_suc-le-suc}
use native.Mathlib.Omega.{arith}
use lib.Dec.{T}
use Rattle.reedsolomon.specs.Words.{indicator, count, unequal, nonzeros}

pub true_is_not_false : true ≡ false → ⊥
true_is_not_false e = subst (λ (b : Bool). T b) e tt

pub indicator_at_most_one : (b : Bool) → indicator b ≤ 1
unfolding indicator
indicator_at_most_one true = le_refl 1
indicator_at_most_one false = le-suc 0

pub unequal_at_most_one : {A : Type 0} (d : Dec A) → unequal d ≤ 1
unfolding unequal
unequal_at_most_one (yes p) = le-suc 0
unequal_at_most_one (no p) = le_refl 1

pub unequal_of_equal : {A : Type 0} (d : Dec A) → A → unequal d ≡ 0
unfolding unequal
unequal_of_equal (yes p) a = refl
unequal_of_equal (no p) a = absurd (p a)

pub unequal_of_different : {A : Type 0} (d : Dec A) → (A → ⊥) → unequal d ≡ 1
unfolding unequal
unequal_of_different (yes p) a = absurd (a p)
unequal_of_different (no p) a = refl

pub count_at_most : (E : ℕ → Bool) (n : ℕ) → count E n ≤ n
unfolding count
count_at_most E zero = le_refl 0
count_at_most E (suc n) = omega (arith, count_at_most E n, indicator_at_most_one (E n))

pub count_of_marked : (E : ℕ → Bool) (n : ℕ) → E n ≡ true → count E (suc n) ≡ suc (count E n)
unfolding count indicator
count_of_marked E n e = ap (λ (b : Bool). count E n + indicator b) e ∙ native.Mathlib.Numerals.add-one (count E n)

pub count_of_unmarked : (E : ℕ → Bool) (n : ℕ) → E n ≡ false → count E (suc n) ≡ count E n
unfolding count indicator
count_of_unmarked E n e = ap (λ (b : Bool). count E n + indicator b) e ∙ native.Mathlib.Nat.add-zero (count E n)

-- there are fewer marks before a marked column than after it
pub fewer_marks_before : (U : ℕ → Bool) (n j : ℕ) → j < n → U j ≡ true → count U j < count U n
unfolding count indicator
fewer_marks_before U zero j l e = absurd (not-suc-le-zero l)
fewer_marks_before U (suc n) j l e =
    ⊎_elim
    (λ q.
    let a : count U j ≡ count U n = ap (count U) (suc_inj q) in
    let b : indicator (U n) ≡ 1 = ap indicator (ap U (sym (suc_inj q)) ∙ e) in
    omega arith)
    (λ q. omega (arith, fewer_marks_before U n j (le_of_suc-le-suc q) e))
    (eq-or-lt_of_le l)

pub count_positive : (E : ℕ → Bool) (n l : ℕ) → l < n → E l ≡ true → 0 < count E n
count_positive E n l h e = omega (arith, fewer_marks_before E n l h e)

pub count_of_all : (n : ℕ) → count (λ j. true) n ≡ n
unfolding count indicator
count_of_all zero = refl
count_of_all (suc n) = omega (arith, count_of_all n)

module _ {F : Type 0} (same : (a b : F) → Dec (a ≡ b)) (z : F) where
  pub nonzeros_at_most : (n : ℕ) (c : ℕ → F) → nonzeros same z n c ≤ n
  unfolding nonzeros
  nonzeros_at_most zero c = le_refl 0
  nonzeros_at_most (suc n) c = omega (arith, nonzeros_at_most n c, unequal_at_most_one (same (c n) z))

  pub nonzeros_fewer : (n : ℕ) (c d : ℕ → F) → ((j : ℕ) → j < n → c j ≡ z → d j ≡ z) → nonzeros same z n d ≤ nonzeros same z n c
  unfolding nonzeros unequal
  nonzeros_fewer zero c d h = le_refl 0
  nonzeros_fewer (suc n) c d h =
      let a : nonzeros same z n d ≤ nonzeros same z n c = nonzeros_fewer n c d (λ j l. h j (le_trans l (le-suc n))) in
      let b : unequal (same (d n) z) ≤ unequal (same (c n) z) = one_column (same (c n) z) (same (d n) z) (h n (lt-suc_self n)) in
      omega arith
    where
      one_column : {A B : Type 0} (p : Dec A) (q : Dec B) → (A → B) → unequal q ≤ unequal p
      one_column (yes p) (yes q) f = le_refl 0
      one_column (yes p) (no q) f = absurd (q (f p))
      one_column (no p) (yes q) f = le-suc 0
      one_column (no p) (no q) f = le_refl 1

  pub nonzeros_of_equals : (n : ℕ) (c d : ℕ → F) → ((j : ℕ) → j < n → d j ≡ c j) → nonzeros same z n d ≡ nonzeros same z n c
  unfolding nonzeros
  nonzeros_of_equals zero c d h = refl
  nonzeros_of_equals (suc n) c d h =
      ap₂ (λ (x : ℕ) (y : F). x + unequal (same y z)) (nonzeros_of_equals n c d (λ j l. h j (le_trans l (le-suc n)))) (h n (lt-suc_self n))

  -- one entry more is not 0
  pub one_more_nonzero : (n i : ℕ) (c d : ℕ → F) → i < n → c i ≡ z → (d i ≡ z → ⊥) → ((j : ℕ) → j < n → (j ≡ i → ⊥) → d j ≡ c j)
      → nonzeros same z n d ≡ suc (nonzeros same z n c)
  unfolding nonzeros
  one_more_nonzero zero i c d l e ne o = absurd (not-suc-le-zero l)
  one_more_nonzero (suc n) i c d l e ne o =
      ⊎_elim
      (λ q.
      let p : i ≡ n = suc_inj q in
      let a : nonzeros same z n d ≡ nonzeros same z n c = nonzeros_of_equals n c d (λ j u. o j (le_trans u (le-suc n)) (λ y. lt_irrefl j (omega arith))) in
      let b : unequal (same (d n) z) ≡ 1 = unequal_of_different (same (d n) z) (λ y. ne (ap d p ∙ y)) in
      let f : unequal (same (c n) z) ≡ 0 = unequal_of_equal (same (c n) z) (ap c (sym p) ∙ e) in
      omega arith)
      (λ q.
      let a : nonzeros same z n d ≡ suc (nonzeros same z n c) = one_more_nonzero n i c d (le_of_suc-le-suc q) e ne (λ j u. o j (le_trans u (le-suc n))) in
      let b : unequal (same (d n) z) ≡ unequal (same (c n) z) = ap (λ (x : F). unequal (same x z))
      (o n (lt-suc_self n) (λ y. lt_irrefl n (subst (λ (x : ℕ). x < n) (sym y) (le_of_suc-le-suc q)))) in
      omega arith)
      (eq-or-lt_of_le l)

  -- where n of n are not 0, none is
  pub all_nonzero : (n : ℕ) (c : ℕ → F) → n ≤ nonzeros same z n c → (i : ℕ) → i < n → c i ≡ z → ⊥
  unfolding nonzeros
  all_nonzero zero c h i l e = not-suc-le-zero l
  all_nonzero (suc n) c h i l e =
      ⊎_elim
      (λ q.
      let b : unequal (same (c n) z) ≡ 0 = unequal_of_equal (same (c n) z) (ap c (sym (suc_inj q)) ∙ e) in
      let a : nonzeros same z n c ≤ n = nonzeros_at_most n c in
      absurd (omega arith))
      (λ q. all_nonzero n c (omega (arith, unequal_at_most_one (same (c n) z))) i (le_of_suc-le-suc q) e)
      (eq-or-lt_of_le l)

  pub nonzeros_of_zeros : (n : ℕ) (c : ℕ → F) → ((j : ℕ) → j < n → c j ≡ z) → nonzeros same z n c ≡ 0
  unfolding nonzeros
  nonzeros_of_zeros zero c h = refl
  nonzeros_of_zeros (suc n) c h =
      omega (arith, nonzeros_of_zeros n c (λ j l. h j (le_trans l (le-suc n))), unequal_of_equal (same (c n) z) (h n (lt-suc_self n)))

  -- where the first m are 0, at most the t others are not
  pub nonzeros_of_end : (m t : ℕ) (c : ℕ → F) → ((j : ℕ) → j < m → c j ≡ z) → nonzeros same z (m + t) c ≤ t
  unfolding nonzeros
  nonzeros_of_end m zero c h = rw (native.Mathlib.Nat.add-zero m, nonzeros_of_zeros m c h) (le_refl 0)
  nonzeros_of_end m (suc t) c h =
      rw (native.Mathlib.Nat.add-suc m t) (omega (arith, nonzeros_of_end m t c h, unequal_at_most_one (same (c (m + t)) z)))

  -- the marked entries that are 0 and the entries that are not are all of them at most
  pub marked_zeros_and_nonzeros : (U : ℕ → Bool) (c : ℕ → F) (n : ℕ) → ((j : ℕ) → j < n → U j ≡ true → c j ≡ z)
      → count U n + nonzeros same z n c ≤ n
  unfolding count nonzeros
  marked_zeros_and_nonzeros U c zero h = le_refl 0
  marked_zeros_and_nonzeros U c (suc n) h =
      let a : count U n + nonzeros same z n c ≤ n = marked_zeros_and_nonzeros U c n (λ j l. h j (le_trans l (le-suc n))) in
      let b : indicator (U n) + unequal (same (c n) z) ≤ 1 = one_column (U n) (same (c n) z) (h n (lt-suc_self n)) in
      omega arith
    where
      one_column : (u : Bool) {A : Type 0} (d : Dec A) → (u ≡ true → A) → indicator u + unequal d ≤ 1
      one_column true d h = unfold indicator in omega (arith, unequal_of_equal d (h refl))
      one_column false d h = unfold indicator in omega (arith, unequal_at_most_one d)
