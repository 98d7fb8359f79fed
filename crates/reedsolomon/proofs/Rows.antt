-- The elimination's rows at lists. Assumes nothing.
use mathlib.Core.Path.{◌≡◌, sym, ◌∙◌, subst}
use mathlib.Core.Logic.{⊎_elim}
use mathlib.Core.List.{List}
use Prim.Native.Nat.{ℕ, ◌+◌, ◌*◌, ◌^◌, ◌≤◌, ◌<◌}
use native.Mathlib.Nat.{lt_irrefl, eq-or-lt_of_le}
use native.Mathlib.Numerals.{add-one}
use native.Mathlib.Decide.{ℕ_discrete}
use native.Mathlib.Omega.{arith}
use lib.ListN.{length, set, replicate}
use lib.Seq.{get_or-set_same, get_or-set_other}
use Rattle.poly.specs.Polynomial.{add}
use Rattle.poly.proofs.Sum.{lt_or_le}
use Rattle.field.specs.Element.{mul, inverse}
use Rattle.field.specs.Laws.{Field}
use Rattle.reedsolomon.specs.Words.{nonzeros}
use Rattle.reedsolomon.specs.Row.{symbol, Symbols}
use Rattle.reedsolomon.specs.Steps.{Entries, Written, WrittenAt, coefficient, RowAt, SlotsAt, StoppedAt, Begun}
use Rattle.reedsolomon.proofs.Counting.{nonzeros_of_zeros}
use Rattle.reedsolomon.proofs.Elimination.{row_begins, equation_is_met, kept_row_is_added, row_is_kept, kept_row_uses_a_slot, row_finishes_when_slots_are_used}
use Rattle.reedsolomon.proofs.Remainders.{zeros_at}

pub row_as_it_begins : (m g : ℕ) (M : List ℕ) (b : ℕ) (row : List ℕ) → b ≤ 15 → length row ≡ 32 → Written 16 (λ h. symbol M (h + b)) (replicate 32 0) row
    → Begun m g M b (set row (16 + b) 1)
row_as_it_begins m g M b row hb long w =
    record {
      combinations = λ h l. get_or-set_other row (16 + b) h 1 0 (λ e. lt_irrefl h (omega arith)) ∙ w.written h l;
      last = get_or-set_same row (16 + b) 1 0 (omega arith);
      others = λ j l ne. get_or-set_other row (16 + b) (16 + j) 1 0 (λ e. ne (omega arith)) ∙ w.kept (16 + j) (omega arith) ∙ zeros_at 32 (16 + j);
    }

module _ (m g : ℕ) (K : Field (λ a. a < 2 ^ m) add (mul m g) 0 1 (inverse m g)) (n : ℕ) (M : List ℕ) where
  abbrev At : List ℕ → ℕ → ℕ → Type 0
  At row b i = RowAt m g n M row b i

  pub row_begins_at : (b : ℕ) (row : List ℕ) → b ≤ n → n ≤ 15 → Symbols m M → Begun m g M b row → At row b 0
  row_begins_at b row hb hn h_m r =
      row_begins K 16 n (symbol M) b (coefficient m g row) (symbol row) (omega arith) (λ h l. h_m (h + b)) r.last r.others (λ h l. r.combinations h (omega arith))

  pub row_meets_equation : (row : List ℕ) (b i : ℕ) → At row b i → symbol row i ≡ 0 → At row b (i + 1)
  row_meets_equation row b i r e =
      subst (At row b) (sym (add-one i)) (equation_is_met K 16 n (symbol M) (coefficient m g row) (symbol row) b i r e)

  pub slot_is_added : (slots qs row row' : List ℕ) (t b i : ℕ) → i < n → n ≤ 15 → SlotsAt m g n M slots qs b → (symbol qs i ≡ 0 → ⊥) → At row b i
      → t ≡ mul m g (symbol row i) (symbol qs i) → Entries 32 (λ j. add (symbol row j) (mul m g t (symbol slots (i * 32 + j)))) row' → At row' b (i + 1)
  slot_is_added slots qs row row' t b i l hn f used r et h =
      subst (At row' b) (sym (add-one i))
      (kept_row_is_added K 16 n (symbol M) (coefficient m g row) (symbol row) (λ j. symbol slots (i * 32 + (16 + j))) (λ h. symbol slots (i * 32 + h))
      (coefficient m g row') (symbol row') (symbol qs i) t b i l r (f i l used) et (λ j u. h (16 + j) (omega arith)) (λ j u. h j (omega arith)))

  -- slots and inverses as they begin
  pub slots_begin_at : (slots : List ℕ) (c : ℕ) → SlotsAt m g n M slots (replicate c 0) 0
  slots_begin_at slots c i l used = absurd (used (zeros_at c i))

  -- the slots in use
  abbrev pub used : List ℕ → ℕ
  used qs = nonzeros ℕ_discrete 0 n (symbol qs)

  pub none_used : (c : ℕ) → used (replicate c 0) ≡ 0
  none_used c = nonzeros_of_zeros ℕ_discrete 0 n (symbol (replicate c 0)) (λ j l. zeros_at c j)

  module _ (slots slots' qs row : List ℕ) (q b stop : ℕ) (l : stop < n) (hn : n ≤ 15) (long : length qs ≡ 16) (s : StoppedAt m g n M qs row b stop)
      (eq : q ≡ inverse m g (symbol row stop)) where
    new_inverse : symbol (set qs stop q) stop ≡ inverse m g (symbol row stop)
    new_inverse = get_or-set_same qs stop q 0 (omega arith) ∙ eq

    -- the row that stopped is put into its slot
    pub row_is_kept_at : SlotsAt m g n M slots qs b → WrittenAt (stop * 32) 32 (symbol row) slots slots' → SlotsAt m g n M slots' (set qs stop q) (b + 1)
    row_is_kept_at f w =
        subst (SlotsAt m g n M slots' (set qs stop q)) (sym (add-one b))
        (row_is_kept K 16 n (symbol M) (λ i j. symbol slots (i * 32 + (16 + j))) (λ i h. symbol slots (i * 32 + h)) (λ i j. symbol slots' (i * 32 + (16 + j)))
        (λ i h. symbol slots' (i * 32 + h)) (symbol qs) (symbol (set qs stop q)) (coefficient m g row) (symbol row) b stop l f s.row (s.unmet l)
        (λ j u. w.written (16 + j) (omega arith)) (λ h u. w.written h (omega arith)) new_inverse
        (λ i u ne j v. other i ne (16 + j) (omega arith)) (λ i u ne h v. other i ne h (omega arith)) (λ i u ne. get_or-set_other qs stop i q 0 ne))
      where
        other : (i : ℕ) → (i ≡ stop → ⊥) → (j : ℕ) → j < 32 → symbol slots' (i * 32 + j) ≡ symbol slots (i * 32 + j)
        other i ne j u = ⊎_elim (λ v. w.before (i * 32 + j) (omega arith)) (λ v. w.after (i * 32 + j) (omega (arith, beyond v))) (lt_or_le i stop)
          where
            beyond : stop ≤ i → stop < i
            beyond v = ⊎_elim (λ e. absurd (ne (sym e))) (λ y. y) (eq-or-lt_of_le v)

    pub one_more_used : used (set qs stop q) ≡ used qs + 1
    one_more_used =
        kept_row_uses_a_slot K 16 n (symbol M) ℕ_discrete (symbol qs) (symbol (set qs stop q)) (coefficient m g row) (symbol row) b stop l s new_inverse
        (λ i u ne. get_or-set_other qs stop i q 0 ne)
        ∙ sym (add-one (used qs))

  -- when every slot is used, the next row finishes
  pub row_finishes : (qs row : List ℕ) (b stop : ℕ) → n ≤ used qs → StoppedAt m g n M qs row b stop → stop ≡ n
  row_finishes qs row b stop full s =
      row_finishes_when_slots_are_used K 16 n (symbol M) ℕ_discrete (symbol qs) (coefficient m g row) (symbol row) b stop full s
