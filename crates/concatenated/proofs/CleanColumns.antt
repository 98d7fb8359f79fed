-- A column that reads as a codeword: this codeword is ahead of all others, so both searches find it, at any sureness; list of two takes it unsearched. Assumes nothing.
use mathlib.Core.Bool.{Bool, true, false, cond}
use mathlib.Core.List.{List, [], ◌∷◌}
use mathlib.Core.Logic.{◌⊎◌, inl, inr, ⊎_elim}
use mathlib.Core.Path.{◌≡◌, refl, sym, ap, ap₂, ◌∙◌, subst, subst⁻¹}
use Prim.Native.Nat.{ℕ, zero, suc, ◌≤◌, ◌<◌}
use native.Mathlib.Decide.{dec_le}
use native.Mathlib.Omega.{arith}
use lib.Dec.{eqb, ltb}
use lib.IntN.{ℤ, pos, ◌+ℤ◌}
use lib.ListN.{length, get_or}
use lib.Signed.{lt_z}
use borrow.Author.Tests.{eq-eqb, ne_eqb}
use Rattle.column.specs.Shape.{Shape, levels}
use Rattle.paths.specs.Paths.{Path}
use Rattle.paths.specs.Order.{Ahead}
use Rattle.paths.proofs.Prefixes.{Prefix, prefix_some, prefix_length, prefix_whole, prefix_shorter}
use Rattle.paths.proofs.Ahead.{last_apart, is_ahead, last_apart_in, last_apart_last}
use Rattle.trellis.specs.Values.{Values, reading, doubt, branch}
use Rattle.trellis.specs.Order.{bit, sum, zero_first, first_by, before}
use Rattle.trellis.specs.Trellis.{WordFound}
use Rattle.trellis.specs.Demand.{Search as Kind, Codeword, AheadOfAll}
use Rattle.trellis.specs.TwoWords.{Choice, off, on, hard_path}
use Rattle.trellis.proofs.Values.{doubt_lt}
use Rattle.trellis.proofs.Order.{order}
use Rattle.trellis.proofs.Demand.{Searchable}
use Rattle.trellis.proofs.HardPath.{read_bit, read_bit_is_reading, hard_path_length}
use Rattle.concatenated.specs.Readers.{reader_of}
use Rattle.concatenated.specs.Clean.{AgreeingIsAbove, FindsTheReading, TakesTheReading}
use Rattle.concatenated.proofs.HardReading.{reading_is_a_codeword}
use Rattle.paths.proofs.Integers.{same_before}
use Rattle.concatenated.proofs.Integers.{sum_smaller}
use Rattle.concatenated.proofs.Searches.{found_is_ahead_of_all}
use Rattle.concatenated.proofs.TwoWords.{hard_reading_is_found}
use Rattle.concatenated.proofs.CleanPages.{taking_is_finding}

module _ (vs : Values) (above : AgreeingIsAbove vs) (c : List ℕ) where
  -- ---- sums of paths

  branch_by_test : (q : ℕ) (x : ℕ) (t : Bool) → eqb (reading q) x ≡ t → branch vs x q ≡ cond t (get_or vs.agree (doubt q) (pos 0)) (get_or vs.disagree (doubt q) (pos 0))
  unfolding branch
  branch_by_test q x t e = ap (λ (s : Bool). cond s (get_or vs.agree (doubt q) (pos 0)) (get_or vs.disagree (doubt q) (pos 0))) e

  bits_apart : (b d : Bool) → (b ≡ d) ⊎ (bit d ≡ bit b → ⊥)
  bits_apart true true = inl refl
  bits_apart true false = inr (λ e. absurd (omega arith))
  bits_apart false true = inr (λ e. absurd (omega arith))
  bits_apart false false = inl refl

  -- another bit than the one read has a smaller branch value
  other_bit_is_worse : (q : ℕ) (b : Bool) → (b ≡ read_bit q) ⊎ (lt_z (branch vs (bit b) q) (branch vs (bit (read_bit q)) q) ≡ true)
  other_bit_is_worse q b =
      ⊎_elim (λ e. inl e)
      (λ ne.
      let worse = branch_by_test q (bit b) false (ne_eqb (reading q) (bit b) (λ e. ne (read_bit_is_reading q ∙ e))) in
      let better = branch_by_test q (bit (read_bit q)) true (eq-eqb (reading q) (bit (read_bit q)) (sym (read_bit_is_reading q))) in
      inr (ap₂ lt_z worse better ∙ above (doubt q) (doubt_lt q)))
      (bits_apart b (read_bit q))

  -- each bit of the path is the one read
  abbrev pub Reads : Path → Type 0
  Reads [] = Unit {0}
  Reads (b ∷ p) = (b ≡ read_bit (get_or c (length p) 0)) × Reads p

  sum_of_other : (b d : Bool) (p q : Path) → length q ≡ length p → (q ≡ p) ⊎ (lt_z (sum vs c q) (sum vs c p) ≡ true)
      → (d ≡ b) ⊎ (lt_z (branch vs (bit d) (get_or c (length p) 0)) (branch vs (bit b) (get_or c (length p) 0)) ≡ true) → (d ∷ q ≡ b ∷ p) ⊎ (lt_z (sum vs c (d ∷ q)) (sum vs c (b ∷ p)) ≡ true)
  unfolding sum
  sum_of_other b d p q l (inl e) (inl k) = inl (ap₂ (λ (x : Bool) (y : Path). x ∷ y) k e)
  sum_of_other b d p q l (inl e) (inr k) =
      inr (subst⁻¹ (λ (y : Path). lt_z (sum vs c y +ℤ branch vs (bit d) (get_or c (length y) 0)) (sum vs c p +ℤ branch vs (bit b) (get_or c (length p) 0)) ≡ true) e
      (same_before (sum vs c p) (branch vs (bit d) (get_or c (length p) 0)) (branch vs (bit b) (get_or c (length p) 0)) ∙ k))
  sum_of_other b d p q l (inr e) k =
      inr (subst⁻¹ (λ (n : ℕ). lt_z (sum vs c q +ℤ branch vs (bit d) (get_or c n 0)) (sum vs c p +ℤ branch vs (bit b) (get_or c (length p) 0)) ≡ true) l
      (sum_smaller (sum vs c q) (sum vs c p) (branch vs (bit d) (get_or c (length p) 0)) (branch vs (bit b) (get_or c (length p) 0)) e
      (⊎_elim (λ (s : d ≡ b). inl (ap (λ (x : Bool). branch vs (bit x) (get_or c (length p) 0)) s)) (λ s. inr s) k)))

  -- of all paths of its length the path that was read has the largest sum
  other_path_is_worse : (p q : Path) → Reads p → length q ≡ length p → (q ≡ p) ⊎ (lt_z (sum vs c q) (sum vs c p) ≡ true)
  other_path_is_worse [] [] h l = inl refl
  other_path_is_worse [] (d ∷ q) h l = absurd (omega arith)
  other_path_is_worse (b ∷ p) [] h l = absurd (omega arith)
  other_path_is_worse (b ∷ p) (d ∷ q) h l =
      sum_of_other b d p q (omega arith) (other_path_is_worse p q h.1 (omega arith))
      (subst⁻¹ (λ (x : Bool). (d ≡ x) ⊎ (lt_z (branch vs (bit d) (get_or c (length p) 0)) (branch vs (bit x) (get_or c (length p) 0)) ≡ true)) h.0 (other_bit_is_worse (get_or c (length p) 0) d))

  before_by_sum : (p q : Path) → lt_z (sum vs c q) (sum vs c p) ≡ true → before vs c p q ≡ true
  unfolding before
  before_by_sum p q e =
      ap (λ (t : Bool). first_by t (lt_z (sum vs c p) (sum vs c q)) (first_by (ltb (length q) (length p)) (ltb (length p) (length q)) (zero_first p q))) e

  -- ---- ahead

  reads_prefix : (x w : Path) → Prefix x w → Reads w → Reads x
  reads_prefix x [] k h = absurd k
  reads_prefix x (b ∷ w) (inl e) h = subst⁻¹ Reads e h
  reads_prefix x (b ∷ w) (inr k) h = reads_prefix x w k h.1

  prefix_of_length : (v : Path) (k : ℕ) → 0 < k → k ≤ length v → (y : Path) × Prefix y v × (length y ≡ k)
  prefix_of_length [] k h l = absurd (omega arith)
  prefix_of_length (b ∷ v) k h l = go (dec_le k (length v)) (prefix_of_length v k h)
    where
      go : Dec (k ≤ length v) → (k ≤ length v → (y : Path) × Prefix y v × (length y ≡ k)) → (y : Path) × Prefix y (b ∷ v) × (length y ≡ k)
      go (yes u) f = let r = f u in (r.0, inr r.1, r.2)
      go (no u) f = (b ∷ v, inl refl, omega arith)

  -- the word read is ahead of every other word of its length
  reading_is_ahead : (w v : Path) → Reads w → 0 < length w → length v ≡ length w → (v ≡ w → ⊥) → Ahead (before vs c) w v
  reading_is_ahead w v reads some long ne =
      let none : Prefix w v → ⊥ = λ k. ne (sym (prefix_whole w v k (omega arith))) in
      let x : Path = last_apart (before vs c) w v in
      let x_in = last_apart_in (before vs c) (order vs c) w v some none in
      let y = prefix_of_length v (length x) (prefix_some x w x_in.0) (omega (arith, prefix_length x w x_in.0, long)) in
      let other : y.0 ≡ x → ⊥ = λ e. x_in.1 (subst (λ (t : Path). Prefix t v) e y.1) in
      let y_apart : Prefix y.0 w → ⊥ = λ k. other (prefix_whole y.0 x (prefix_shorter y.0 x w k x_in.0 (omega (arith, y.2))) (omega (arith, y.2))) in
      let first : before vs c x y.0 ≡ true =
      before_by_sum x y.0 (⊎_elim (λ e. absurd (other e)) (λ k. k) (other_path_is_worse x y.0 (reads_prefix x w x_in.0 reads) y.2)) in
      is_ahead (before vs c) w v none
      (⊎_elim (λ e. subst (λ (t : Path). before vs c x t ≡ true) e first) (λ k. (order vs c).transitive x y.0 (last_apart (before vs c) v w) first k)
      (last_apart_last (before vs c) (order vs c) v w y.0 y.1 y_apart))

  pub codeword_read_is_ahead_of_all : (S : Shape) (i : ℕ) (w : Path) → 0 < S.bits → Codeword S i w → Reads w → AheadOfAll S vs c i w
  codeword_read_is_ahead_of_all S i w some word reads = record {
    codeword = word;
    ahead_of = λ v other ne. reading_is_ahead w v reads (subst⁻¹ (λ (k : ℕ). 0 < k) word.long some) (other.long ∙ sym word.long) ne;
  }

  -- ---- the hard reading as a path

  hard_path_reads : (k : ℕ) → Reads (hard_path c k)
  unfolding hard_path
  hard_path_reads zero = tt
  hard_path_reads (suc k) = (ap (λ (t : ℕ). read_bit (get_or c t 0)) (sym (hard_path_length c k)), hard_path_reads k)

module _ (S : Shape) (searchable : (i : ℕ) → i < levels S → Searchable S i) (vs : ℕ → Values) (limit : ℕ) (kind : Kind) where
  -- both searches find the reading of a column that reads as a codeword, if they are not spent
  searches_find_the_reading : ((i : ℕ) → AgreeingIsAbove (vs i)) → FindsTheReading S (reader_of off kind S vs limit)
  searches_find_the_reading above i h c x n word e =
      let code = reading_is_a_codeword S i c word.0 word.1 in
      let hard : Path = hard_path c S.bits in
      let best = codeword_read_is_ahead_of_all (vs i) (above i) c S i hard (searchable i h).some_bits code.1 (hard_path_reads (vs i) (above i) c S.bits) in
      ap (λ (y : WordFound). y.column) (found_is_ahead_of_all S i (searchable i h) vs limit c kind hard best x n e).0 ∙ code.0

  module _ (some_symbol : 0 < S.symbol) where
    -- with list of two it is taken as it reads
    pub lists_take_the_reading : (threshold : ℤ) → TakesTheReading S (reader_of (on threshold) kind S vs limit)
    lists_take_the_reading threshold i h c word =
        let r = hard_reading_is_found S i (searchable i h) some_symbol vs limit c threshold kind word.0 word.1 in (_, r.1, r.0)

    pub readers_find_the_reading : (choice : Choice) → ((i : ℕ) → AgreeingIsAbove (vs i)) → FindsTheReading S (reader_of choice kind S vs limit)
    readers_find_the_reading off above = searches_find_the_reading above
    readers_find_the_reading (on threshold) above = taking_is_finding S _ (lists_take_the_reading threshold)
