-- The census of columns that begin alike: by the next bit, and where nothing is left to flip. Assumes nothing.
use mathlib.Core.Bool.{true, false, cond}
use mathlib.Core.List.{List, [], ◌∷◌, ◌++◌, map, append_assoc}
use mathlib.Core.Path.{◌≡◌, refl, sym, ap, ap₂, ◌∙◌, fun_ext}
use Prim.Native.Nat.{ℕ, zero, suc, ◌+◌, ◌-◌, ◌^◌, ◌<◌, ◌≤◌}
use native.Mathlib.Decide.{ℕ_discrete}
use native.Mathlib.Nat.{pow-le-pow_right}
use native.Mathlib.Numerals.{add-one}
use native.Mathlib.Omega.{arith}
use lib.ListN.{length, get_or, set, length-set, take, drop, replicate, take-append-drop, length-drop, length-replicate, get_or-replicate}
use lib.Seq.{ext_get_or, get_or-drop, get_or-set_same, get_or-set_other, take-suc, take-suc-set}
use Rattle.paths.specs.Lists.{filter}
use Rattle.paths.proofs.Lists.{map_replicate}
use Rattle.census.specs.Patterns.{Pattern, patterns}
use Rattle.census.specs.Census.{soft_column, ends_in, number_of, totals, together, census, census_behind, UnflippedFrom}
use Rattle.census.specs.declared.Totals.{Totals}
use Rattle.census.proofs.Patterns.{as_many_as_n_over_k, at_most_all}
use Rattle.census.proofs.Counting.{totals_append, totals_map, totals_add_up}

-- the patterns whose first bit gives the soft value q are behind one value more
one_more : (level : ℕ) (values : List ℕ) (q : ℕ) (f : Pattern → Pattern) → ((p : Pattern) → soft_column (f p) ≡ q ∷ soft_column p) → (ps : List Pattern)
    → totals (λ p. ends_in level (values ++ soft_column p)) (map f ps) ≡ totals (λ p. ends_in level ((values ++ (q ∷ [])) ++ soft_column p)) ps
one_more level values q f is ps =
    totals_map (λ p. ends_in level (values ++ soft_column p)) f ps
    ∙ ap (λ (g : Pattern → List ℕ). totals (λ p. ends_in level (g p)) ps) (fun_ext (λ p. ap (λ (l : List ℕ). values ++ l) (is p) ∙ sym (append_assoc values (q ∷ []) (soft_column p))))

module _ (level : ℕ) (values : List ℕ) where
  -- a one next, or a zero
  pub behind_more : (n k : ℕ) → census_behind level values (suc n) (suc k) ≡ together (census_behind level (values ++ (7 ∷ [])) n k) (census_behind level (values ++ (0 ∷ [])) n (suc k))
  unfolding census_behind patterns soft_column
  behind_more n k =
      totals_append (λ p. ends_in level (values ++ soft_column p)) (map (λ p. true ∷ p) (patterns n k)) (map (λ p. false ∷ p) (patterns n (suc k)))
      ∙ ap₂ together (one_more level values 7 (λ p. true ∷ p) (λ p. refl) (patterns n k)) (one_more level values 0 (λ p. false ∷ p) (λ p. refl) (patterns n (suc k)))

  -- no ones are left: zeros alone
  pub behind_none : (n : ℕ) → census_behind level values n 0 ≡ totals (ends_in level) ((values ++ replicate n 0) ∷ [])
  unfolding census_behind patterns soft_column
  behind_none n =
      sym (totals_map (ends_in level) (λ p. values ++ soft_column p) (replicate n false ∷ []))
      ∙ ap (λ (l : List ℕ). totals (ends_in level) ((values ++ l) ∷ [])) (map_replicate (λ b. cond b 7 0) n false)

  -- no bits are left for ones
  pub behind_end : (k : ℕ) → (k ≡ 0 → ⊥) → census_behind level values 0 k ≡ record { zero = 0; other = 0; spent = 0 }
  unfolding census_behind patterns totals number_of filter
  behind_end zero h = absurd (h refl)
  behind_end (suc k) h = refl

  few : (n k : ℕ) → n ≤ 30 → let t = census_behind level values n k in t.zero + t.other + t.spent ≤ 2 ^ 30
  unfolding census_behind
  few n k h =
      let sum = totals_add_up (λ p. ends_in level (values ++ soft_column p)) (patterns n k) in
      let all : 2 ^ n ≤ 2 ^ 30 = pow-le-pow_right {n = 2} (omega arith) {i = n} {j = 30} h in
      omega (arith, sum, as_many_as_n_over_k n k, at_most_all n k, all)

  -- no total is above the number of all patterns
  pub at_most_2^30 : (n k : ℕ) → n ≤ 30 → {t : Totals} → t ≡ census_behind level values n k → (t.zero ≤ 2 ^ 30) × (t.other ≤ 2 ^ 30) × (t.spent ≤ 2 ^ 30)
  at_most_2^30 n k h e = rw e (omega (arith, few n k h), omega (arith, few n k h), omega (arith, few n k h))

-- ---- of a column that has no flips from a position on

module _ (level : ℕ) (column : List ℕ) (from : ℕ) (unflipped : UnflippedFrom level column from) where
  full : length column ≡ 30
  full = unflipped.allowed.full

  -- it is its beginning with zeros behind
  zeros_behind : take from column ++ replicate (30 - from) 0 ≡ column
  zeros_behind =
      ap (λ (l : List ℕ). take from column ++ l)
      (ext_get_or 0 (replicate (30 - from) 0) (drop from column) (simp (length-replicate, length-drop) (omega (arith, full)))
      (λ i l. get_or-replicate (30 - from) i 0 0 (rw length-replicate at l) ∙ sym (unflipped.rest (from + i) (omega arith)) ∙ sym (get_or-drop from column i 0)))
      ∙ take-append-drop from column

  -- no flips are left: the column as it is
  pub none_left : (ones : ℕ) → ones ≡ 0 → totals (ends_in level) (column ∷ []) ≡ census_behind level (take from column) (30 - from) ones
  none_left ones e = ap (λ (l : List ℕ). totals (ends_in level) (l ∷ [])) (sym zeros_behind) ∙ sym (behind_none level (take from column) (30 - from)) ∙ ap (census_behind level (take from column) (30 - from)) (sym e)

  -- flips are left and no position
  pub no_room : (ones : ℕ) → (ones ≡ 0 → ⊥) → 30 ≤ from → record { zero = 0; other = 0; spent = 0 } ≡ census_behind level (take from column) (30 - from) ones
  no_room ones some end = let none : 30 - from ≡ 0 = omega arith in rw none (sym (behind_end level (take from column) ones some))

  -- a position is left
  module _ (more : from < 30) where
    -- the columns with a flip there, and those without
    pub by_the_next : (ones : ℕ) → (ones ≡ 0 → ⊥)
        → together (census_behind level (take (from + 1) (set column from 7)) (30 - (from + 1)) (ones - 1)) (census_behind level (take (from + 1) column) (30 - (from + 1)) ones) ≡ census_behind level (take from column) (30 - from) ones
    by_the_next zero some = absurd (some refl)
    by_the_next (suc k) some =
        let flip : take (from + 1) (set column from 7) ≡ take from column ++ (7 ∷ []) = rw (add-one from) (take-suc-set column from 7 (omega (arith, full))) in
        let none : take (from + 1) column ≡ take from column ++ (0 ∷ []) =
        rw (add-one from) (take-suc column from 0 (omega (arith, full)) ∙ ap (λ (q : ℕ). take from column ++ (q ∷ [])) (unflipped.rest from (omega arith))) in
        let one_less : suc k - 1 ≡ k = omega arith in
        let bits : 30 - from ≡ suc (30 - (from + 1)) = omega arith in
        rw (flip, none, one_less, bits) (sym (behind_more level (take from column) (30 - (from + 1)) k))

    -- the column without a flip there
    pub passed : UnflippedFrom level column (from + 1)
    passed = record { allowed = unflipped.allowed; rest = λ k l. unflipped.rest k (omega arith) }

    -- and with one
    pub flipped : UnflippedFrom level (set column from 7) (from + 1)
    flipped = record {
      allowed = record {
        full = length-set column from 7 ∙ full;
        level = unflipped.allowed.level;
        some = unflipped.allowed.some;
        most = unflipped.allowed.most;
        range = λ k l. in_range k l (ℕ_discrete k from);
      };
      rest = λ k l. get_or-set_other column from k 7 0 (λ e. omega arith) ∙ unflipped.rest k (omega arith);
    }
      where
        in_range : (k : ℕ) → k < 30 → Dec (k ≡ from) → get_or (set column from 7) k 0 ≤ 7
        in_range k l (yes e) = omega (arith, ap (λ (j : ℕ). get_or (set column from 7) j 0) e ∙ get_or-set_same column from 7 0 (omega (arith, full)))
        in_range k l (no n) = omega (arith, get_or-set_other column from k 7 0 n, unflipped.allowed.range k l)

-- ---- the column without flips

no_flips : (n k : ℕ) → ◌≡◌ {A = ℕ} (get_or (replicate n 0) k 0) 0
no_flips zero k = refl
no_flips (suc n) zero = refl
no_flips (suc n) (suc k) = no_flips n k

pub unflipped : (level : ℕ) → level < 4 → UnflippedFrom level (replicate 30 0) 0
unflipped level l = record {
  allowed = record { full = refl; level = l; some = omega arith; most = omega arith; range = λ k _. omega (arith, no_flips 30 k) };
  rest = λ k _. no_flips 30 k;
}

pub from_the_start : (level k : ℕ) → census_behind level (take 0 (replicate 30 0)) (30 - 0) k ≡ census level k
unfolding census_behind census
from_the_start level k = refl
