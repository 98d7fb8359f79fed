-- The steps of the elimination. A row that meets all equations is found at the latest when every slot is used. Assumes nothing.
use mathlib.Core.Path.{◌≡◌, sym, ap, ap₂, ◌∙◌, subst}
use mathlib.Core.Logic.{⊎_elim}
use Prim.Native.Nat.{ℕ, suc, ◌+◌, ◌-◌, ◌≤◌, ◌<◌}
use native.Mathlib.Nat.{not-suc-le-zero, le_refl, le_of_lt, eq-or-lt_of_le, lt_irrefl, lt-suc_self, le_trans, le-suc, le_of_suc-le-suc, suc_inj}
use native.Mathlib.Decide.{ℕ_discrete}
use native.Mathlib.Omega.{arith}
use Rattle.field.specs.Laws.{Field}
use Rattle.reedsolomon.specs.Sums.{sum}
use Rattle.reedsolomon.specs.Words.{NonZero, nonzeros}
use Rattle.reedsolomon.specs.Elimination.{combination, Reduced, Slot, Slots, Stopped}
use Rattle.reedsolomon.proofs.FieldFacts.{mul_zero, zero_mul, one_mul, sum_mul, zero_sum, inverse_not_zero}
use Rattle.reedsolomon.proofs.Sums.{sum_of_sums, sum_of_multiples, sum_of_equals, sum_of_one_term, sum_without_end, sum_in}
use Rattle.reedsolomon.proofs.Counting.{one_more_nonzero, all_nonzero}

module _ {F : Type 0} {In : F → Type 0} {◌⊕◌ ◌⊗◌ : F → F → F} {𝟘 𝟙 : F} {inv : F → F} (K : Field In ◌⊕◌ ◌⊗◌ 𝟘 𝟙 inv) where
  infixl 20 ◌⊕◌
  infixl 30 ◌⊗◌
  open K use {sum_zero, sum_self, mul_assoc, mul_comm, mul_one, mul_inv, in_zero, in_one, in_sum, in_mul, one_not_zero}

  abbrev combination_of : ℕ → (ℕ → F) → (ℕ → F) → ℕ → F
  combination_of k p M i = combination ◌⊕◌ ◌⊗◌ 𝟘 k p M i

  pub combination_in : (k : ℕ) (p M : ℕ → F) (i : ℕ) → In (combination_of k p M i)
  unfolding combination
  combination_in k p M i = sum_in K k (λ j. p j ⊗ M (i + j)) (λ j l. in_mul (p j) (M (i + j)))

  pub combination_of_equals : (k : ℕ) (p q M : ℕ → F) → ((j : ℕ) → j < k → p j ≡ q j) → (i : ℕ) → combination_of k p M i ≡ combination_of k q M i
  unfolding combination
  combination_of_equals k p q M h i =
      sum_of_equals K k (λ j. p j ⊗ M (i + j)) (λ j. q j ⊗ M (i + j)) (λ j l. ap (λ (x : F). x ⊗ M (i + j)) (h j l))

  -- combinations are linear in the coefficients
  pub combination_of_rows : (k : ℕ) (p q r M : ℕ → F) (t : F) → ((j : ℕ) → j < k → r j ≡ p j ⊕ t ⊗ q j) → (i : ℕ)
      → combination_of k r M i ≡ combination_of k p M i ⊕ t ⊗ combination_of k q M i
  unfolding combination
  combination_of_rows k p q r M t h i =
      sum_of_equals K k (λ j. r j ⊗ M (i + j)) (λ j. p j ⊗ M (i + j) ⊕ t ⊗ (q j ⊗ M (i + j)))
      (λ j l. ap (λ (x : F). x ⊗ M (i + j)) (h j l) ∙ sum_mul K (p j) (t ⊗ q j) (M (i + j))
      ∙ ap (λ (x : F). p j ⊗ M (i + j) ⊕ x) (mul_assoc t (q j) (M (i + j))))
      ∙ sum_of_sums K k (λ j. p j ⊗ M (i + j)) (λ j. t ⊗ (q j ⊗ M (i + j)))
      ∙ ap (λ (x : F). sum ◌⊕◌ 𝟘 k (λ j. p j ⊗ M (i + j)) ⊕ x) (sum_of_multiples K k t (λ j. q j ⊗ M (i + j)))

  -- a 1 at b alone combines to the entry of M that is b further on
  pub combination_of_unit : (k b : ℕ) (p M : ℕ → F) → b < k → p b ≡ 𝟙 → ((j : ℕ) → j < k → (j ≡ b → ⊥) → p j ≡ 𝟘)
      → (i : ℕ) → In (M (i + b)) → combination_of k p M i ≡ M (i + b)
  unfolding combination
  combination_of_unit k b p M l one none i h_m =
      sum_of_one_term K k b (λ j. p j ⊗ M (i + j)) l (λ j u ne. ap (λ (x : F). x ⊗ M (i + j)) (none j u ne) ∙ zero_mul K (M (i + j)))
      ∙ ap (λ (x : F). x ⊗ M (i + b)) one ∙ one_mul K (M (i + b)) h_m

  -- coefficients past the last that is not 0 may be left out
  pub combination_without_end : (k b : ℕ) (p M : ℕ → F) → b < k → ((j : ℕ) → b < j → j < k → p j ≡ 𝟘) → (i : ℕ)
      → combination_of k p M i ≡ combination_of (suc b) p M i
  unfolding combination
  combination_without_end k b p M l ends i =
      let e : k ≡ suc b + (k - suc b) = omega arith in
      ap (λ (x : ℕ). sum ◌⊕◌ 𝟘 x (λ j. p j ⊗ M (i + j))) e
      ∙ sum_without_end K (suc b) (k - suc b) (λ j. p j ⊗ M (i + j))
      (λ j u w. ap (λ (x : F). x ⊗ M (i + j)) (ends j u (omega arith)) ∙ zero_mul K (M (i + j)))

  module _ (k n : ℕ) (M : ℕ → F) where
    abbrev InWork : (ℕ → F) → (ℕ → F) → ℕ → ℕ → Type 0
    InWork p v b i = Reduced In ◌⊕◌ ◌⊗◌ 𝟘 𝟙 k n M p v b i

    abbrev Kept : (ℕ → F) → (ℕ → F) → F → ℕ → ℕ → Type 0
    Kept p v q i b = Slot In ◌⊕◌ ◌⊗◌ 𝟘 𝟙 k n M p v q i b

    -- the row of degree b begins as a 1 at b alone
    pub row_begins : (b : ℕ) (p v : ℕ → F) → b < k → ((h : ℕ) → h < n → In (M (h + b))) → p b ≡ 𝟙 → ((j : ℕ) → j < k → (j ≡ b → ⊥) → p j ≡ 𝟘)
        → ((h : ℕ) → h < n → v h ≡ M (h + b)) → InWork p v b 0
    row_begins b p v l h_m one none hv =
        record {
          degree = l;
          inside = λ j u. elim (ℕ_discrete j b) [ yes e ↦ subst In (sym (ap p e ∙ one)) in_one | no e ↦ subst In (sym (none j u e)) in_zero ];
          carried = λ h u. hv h u ∙ sym (combination_of_unit k b p M l one none h (h_m h u));
          last = one;
          ends = λ j u w. none j w (λ e. lt_irrefl b (omega arith));
          zeros = λ h u. absurd (not-suc-le-zero u);
        }

    -- equation i is met as it is
    pub equation_is_met : (p v : ℕ → F) (b i : ℕ) → InWork p v b i → v i ≡ 𝟘 → InWork p v b (suc i)
    equation_is_met p v b i f e =
        record {
          degree = f.degree;
          inside = f.inside;
          carried = f.carried;
          last = f.last;
          ends = f.ends;
          zeros = λ h l. ⊎_elim (λ q. ap v (suc_inj q) ∙ e) (λ q. f.zeros h (le_of_suc-le-suc q)) (eq-or-lt_of_le l);
        }

    -- the row kept for equation i, times what is to be taken off, is added: equation i is met, and those before still are
    pub kept_row_is_added : (p v P W p' v' : ℕ → F) (q t : F) (b i : ℕ) → i < n → InWork p v b i → Kept P W q i b → t ≡ v i ⊗ q
        → ((j : ℕ) → j < k → p' j ≡ p j ⊕ t ⊗ P j) → ((h : ℕ) → h < n → v' h ≡ v h ⊕ t ⊗ W h) → InWork p' v' b (suc i)
    kept_row_is_added p v P W p' v' q t b i below f s et hp hv =
        record {
          degree = f.degree;
          inside = λ j l. subst In (sym (hp j l)) (in_sum (p j) (t ⊗ P j) (f.inside j l) (in_mul t (P j)));
          carried =
              λ h l. hv h l ∙ ap₂ (λ (x y : F). x ⊕ t ⊗ y) (f.carried h l) (s.carried h l) ∙ sym (combination_of_rows k p P p' M t hp h);
          last = unchanged b f.degree (s.ends b (le_refl b) f.degree) ∙ f.last;
          ends = λ j l u. unchanged j u (s.ends j (le_of_lt l) u) ∙ f.ends j l u;
          zeros = λ h l. ⊎_elim
              (λ e. ap v' (suc_inj e) ∙ at_i)
              (λ u. let w : h < n = omega arith in
              hv h w ∙ ap₂ (λ (x y : F). x ⊕ t ⊗ y) (f.zeros h (le_of_suc-le-suc u)) (s.zeros h (le_of_suc-le-suc u)) ∙ zero_sum K (t ⊗ 𝟘)
              ∙ mul_zero K t)
              (eq-or-lt_of_le l);
        }
      where
        unchanged : (j : ℕ) → j < k → P j ≡ 𝟘 → p' j ≡ p j
        unchanged j l e = hp j l ∙ ap (λ (x : F). p j ⊕ t ⊗ x) e ∙ ap (λ (x : F). p j ⊕ x) (mul_zero K t) ∙ sum_zero (p j)

        at_i : v' i ≡ 𝟘
        at_i =
            hv i below
            ∙ ap (λ (x : F). v i ⊕ x)
            (ap (λ (x : F). x ⊗ W i) et ∙ mul_assoc (v i) q (W i) ∙ ap (λ (x : F). v i ⊗ x) (mul_comm q (W i) ∙ s.unit)
            ∙ mul_one (v i) (subst In (sym (f.carried i below)) (combination_in k p M i)))
            ∙ sum_self (v i)

    -- only the first k coefficients and n combinations of a kept row count, and its bound may rise
    pub kept_row_of_equals : (p v p' v' : ℕ → F) (q q' : F) (i b c : ℕ) → i < n → b ≤ c → ((j : ℕ) → j < k → p' j ≡ p j) → ((h : ℕ) → h < n → v' h ≡ v h)
        → q' ≡ q → Kept p v q i b → Kept p' v' q' i c
    kept_row_of_equals p v p' v' q q' i b c below up ep ev eq s =
        record {
          inside = λ j l. subst In (sym (ep j l)) (s.inside j l);
          carried = λ h l. ev h l ∙ s.carried h l ∙ sym (combination_of_equals k p' p M ep h);
          ends = λ j l u. ep j u ∙ s.ends j (le_trans up l) u;
          zeros = λ h l. let u : h < n = omega arith in ev h u ∙ s.zeros h l;
          unit = ap₂ ◌⊗◌ (ev i below) eq ∙ s.unit;
        }

    -- the row that does not meet equation i is kept for it; the other slots stay
    pub row_is_kept : (ps vs ps' vs' : ℕ → ℕ → F) (qs qs' p v : ℕ → F) (b i : ℕ) → i < n → Slots In ◌⊕◌ ◌⊗◌ 𝟘 𝟙 k n M ps vs qs b
        → InWork p v b i → (v i ≡ 𝟘 → ⊥)
        → ((j : ℕ) → j < k → ps' i j ≡ p j) → ((h : ℕ) → h < n → vs' i h ≡ v h) → qs' i ≡ inv (v i)
        → ((m : ℕ) → m < n → (m ≡ i → ⊥) → (j : ℕ) → j < k → ps' m j ≡ ps m j)
        → ((m : ℕ) → m < n → (m ≡ i → ⊥) → (h : ℕ) → h < n → vs' m h ≡ vs m h)
        → ((m : ℕ) → m < n → (m ≡ i → ⊥) → qs' m ≡ qs m)
        → Slots In ◌⊕◌ ◌⊗◌ 𝟘 𝟙 k n M ps' vs' qs' (suc b)
    row_is_kept ps vs ps' vs' qs qs' p v b i below f w nz ep ev eq op ov oq m l used =
        elim (ℕ_discrete m i) [
          | yes e ↦ rw e (kept_row_of_equals p v (ps' i) (vs' i) (inv (v i)) (qs' i) i (suc b) (suc b) below (le_refl (suc b)) ep ev eq new)
          | no e ↦ kept_row_of_equals (ps m) (vs m) (ps' m) (vs' m) (qs m) (qs' m) m b (suc b) l (le-suc b) (op m l e) (ov m l e) (oq m l e)
              (f m l (λ z. used (oq m l e ∙ z)))
        ]
      where
        new : Kept p v (inv (v i)) i (suc b)
        new =
            record {
              inside = w.inside;
              carried = w.carried;
              ends = λ j l u. w.ends j l u;
              zeros = w.zeros;
              unit = mul_inv (v i) (subst In (sym (w.carried i below)) (combination_in k p M i)) nz;
            }

    -- the row stops at an equation that it does not meet and whose slot is free, or at the end
    pub row_stops_at_free_slot : (qs p v : ℕ → F) (b i : ℕ) → i < n → InWork p v b i → qs i ≡ 𝟘 → (v i ≡ 𝟘 → ⊥)
        → Stopped In ◌⊕◌ ◌⊗◌ 𝟘 𝟙 k n M qs p v b i
    row_stops_at_free_slot qs p v b i l f e nz = record { row = f; within = le_of_lt l; free = λ u. e; unmet = λ u. nz }

    pub row_reaches_the_end : (qs p v : ℕ → F) (b : ℕ) → InWork p v b n → Stopped In ◌⊕◌ ◌⊗◌ 𝟘 𝟙 k n M qs p v b n
    row_reaches_the_end qs p v b f =
        record { row = f; within = le_refl n; free = λ u. absurd (lt_irrefl n u); unmet = λ u. absurd (lt_irrefl n u) }

    -- with each row kept one slot more is used
    pub kept_row_uses_a_slot : (same : (a b : F) → Dec (a ≡ b)) (qs qs' p v : ℕ → F) (b i : ℕ) → i < n
        → Stopped In ◌⊕◌ ◌⊗◌ 𝟘 𝟙 k n M qs p v b i
        → qs' i ≡ inv (v i) → ((m : ℕ) → m < n → (m ≡ i → ⊥) → qs' m ≡ qs m) → nonzeros same 𝟘 n qs' ≡ suc (nonzeros same 𝟘 n qs)
    kept_row_uses_a_slot same qs qs' p v b i l s e o =
        one_more_nonzero same 𝟘 n i qs qs' l (s.free l)
        (λ z. inverse_not_zero K (v i) (subst In (sym (s.row.carried i l)) (combination_in k p M i)) (s.unmet l) (sym e ∙ z)) o

    -- when all n slots are used, the next row meets all equations
    pub row_finishes_when_slots_are_used : (same : (a b : F) → Dec (a ≡ b)) (qs p v : ℕ → F) (b stop : ℕ) → n ≤ nonzeros same 𝟘 n qs
        → Stopped In ◌⊕◌ ◌⊗◌ 𝟘 𝟙 k n M qs p v b stop → stop ≡ n
    row_finishes_when_slots_are_used same qs p v b stop full s =
        ⊎_elim (λ e. e) (λ l. absurd (all_nonzero same 𝟘 n qs full stop l (s.free l))) (eq-or-lt_of_le s.within)

    -- a row that meets all equations is a locator: its b + 1 coefficients are not all 0, and combine M to 0
    pub finished_row_is_not_zero : (p v : ℕ → F) (b i : ℕ) → InWork p v b i → NonZero 𝟘 (suc b) p
    finished_row_is_not_zero p v b i f z = one_not_zero (sym f.last ∙ z b (lt-suc_self b))

    pub finished_row_combines_to_zero : (p v : ℕ → F) (b : ℕ) → InWork p v b n → (i : ℕ) → i < n → sum ◌⊕◌ 𝟘 (suc b) (λ j. p j ⊗ M (i + j)) ≡ 𝟘
    unfolding combination
    finished_row_combines_to_zero p v b f i u = sym (combination_without_end k b p M f.degree f.ends i) ∙ sym (f.carried i u) ∙ f.zeros i u
