-- Two decoders whose column searches agree give the same answer, and their steps differ by what the searches differ. Assumes nothing.
use mathlib.Core.Bool.{Bool}
use mathlib.Core.List.{List, [], ◌∷◌, ◌++◌, map}
use mathlib.Core.Path.{◌≡◌, refl, ap, ap₂, ◌∙◌, subst, subst⁻¹}
use Prim.Native.Nat.{ℕ, zero, suc, ◌+◌, ◌≤◌, ◌<◌}
use native.Mathlib.Omega.{arith}
use lib.IntN.{ℤ}
use Rattle.column.specs.Shape.{Shape, levels}
use Rattle.column.specs.Level.{reimaged}
use Rattle.trellis.specs.Trellis.{WordFound}
use Rattle.reedsolomon.specs.Search.{OuterAnswer, Found, NoneInReach}
use Rattle.concatenated.specs.Lists.{All, sum}
use Rattle.concatenated.specs.Outer.{RowDecoder}
use Rattle.concatenated.specs.Decode.{Reading, found, spent, Reader, mark, marks, symbol, symbols, lows, count, steps, changed, Level, level, State, going, stopped, decoded_row, settle, onward, run, Reaches, AtEveryLevel, outcome, decoded}
use Rattle.concatenated.specs.Readers.{Apart, Agree, sum_over, sum_below}

-- two readings of a level with the same symbols, marks and low points, the second with d more steps
pub record SameReadings (S : Shape) (i d : ℕ) (rs ss : List Reading) : Type 0 where
  pub same_symbols : symbols S i rs ≡ symbols S i ss
  pub same_marks : marks rs ≡ marks ss
  pub same_lows : lows rs ≡ lows ss
  pub more_steps : steps ss ≡ steps rs + d

-- two states with the same columns and levels, the second with d more steps; or stopped at the same level
abbrev pub SameStates : ℕ → State → State → Type 0
SameStates d (going cs ls m) (going ds ks n) = (cs ≡ ds) × (ls ≡ ks) × (n ≡ m + d)
SameStates d (going cs ls m) (stopped l) = ⊥
SameStates d (stopped l) (going ds ks n) = ⊥
SameStates d (stopped l) (stopped k) = l ≡ k

one_search : (S : Shape) (i d : ℕ) (r s : Reading) → Apart d r s → (symbol S i r ≡ symbol S i s) × (mark r ≡ mark s) × (count s ≡ count r + d)
unfolding symbol mark count
one_search S i d (found w m) (found v n) h = (ap (λ (x : WordFound). reimaged S i x.column) h.0, refl, h.1)
one_search S i d (found w m) (spent n) h = absurd h
one_search S i d (spent m) (found v n) h = absurd h
one_search S i d (spent m) (spent n) h = (refl, refl, h)

lows_of_one_more : (d : ℕ) (r s : Reading) (rs ss : List Reading) → Apart d r s → lows rs ≡ lows ss → lows (r ∷ rs) ≡ lows (s ∷ ss)
unfolding lows
lows_of_one_more d (found w m) (found v n) rs ss h e = ap₂ (λ (x : WordFound) (zs : List ℤ). x.low ∷ zs) h.0 e
lows_of_one_more d (found w m) (spent n) rs ss h e = absurd h
lows_of_one_more d (spent m) (found v n) rs ss h e = absurd h
lows_of_one_more d (spent m) (spent n) rs ss h e = e

-- the readings of columns whose searches are apart
same_readings : (S : Shape) (i : ℕ) (f g : List ℕ → Reading) (dead : List ℕ → ℕ) (cs : List (List ℕ)) → All (λ c. Apart (dead c) (f c) (g c)) cs
    → SameReadings S i (sum (map dead cs)) (map f cs) (map g cs)
unfolding sum
same_readings S i f g dead [] h = record { same_symbols = refl; same_marks = refl; same_lows = refl; more_steps = refl }
same_readings S i f g dead (c ∷ cs) h =
    let one = one_search S i (dead c) (f c) (g c) h.0 in
    let others = same_readings S i f g dead cs h.1 in
    record {
      same_symbols = ap₂ (λ x y. x ∷ y) one.0 others.same_symbols;
      same_marks = ap₂ (λ x y. x ∷ y) one.1 others.same_marks;
      same_lows = lows_of_one_more (dead c) (f c) (g c) (map f cs) (map g cs) h.0 others.same_lows;
      more_steps = omega (arith, one.2, others.more_steps);
    }

same_level : (S : Shape) (i d : ℕ) (rs ss : List Reading) (r : List ℕ) → SameReadings S i d rs ss → level S i rs r ≡ level S i ss r
unfolding level
same_level S i d rs ss r a =
    ap₂ (λ (xs : List ℕ) (ms : List Bool). record { symbols = r; changed = changed xs ms r; erased = ms; lows = lows rs }) a.same_symbols a.same_marks
    ∙ ap (λ (zs : List ℤ). record { symbols = r; changed = changed (symbols S i ss) (marks ss) r; erased = marks ss; lows = zs }) a.same_lows

module _ (S : Shape) (outer : RowDecoder) where
  same_settling : (i d e : ℕ) (cs : List (List ℕ)) (ls : List Level) (m n : ℕ) (rs ss : List Reading) → n ≡ m + d → SameReadings S i e rs ss → (o : OuterAnswer)
      → SameStates (d + e) (settle S outer i cs rs ls m o) (settle S outer i cs ss ls n o)
  unfolding settle
  same_settling i d e cs ls m n rs ss h a NoneInReach = refl
  same_settling i d e cs ls m n rs ss h a (Found r) = (refl, ap (λ (l : Level). ls ++ (l ∷ [])) (same_level S i e rs ss r a), omega (arith, a.more_steps))

  same_step : (f g : Reader) (i d e : ℕ) (cs : List (List ℕ)) (ls : List Level) (m n : ℕ) → n ≡ m + d → SameReadings S i e (map (f i) cs) (map (g i) cs)
      → SameStates (d + e) (onward S outer f i (going cs ls m)) (onward S outer g i (going cs ls n))
  unfolding onward decoded_row
  same_step f g i d e cs ls m n h a =
      let rs = map (f i) cs in
      let ss = map (g i) cs in
      let o : decoded_row S outer i rs ≡ decoded_row S outer i ss = ap₂ (outer i) a.same_symbols a.same_marks in
      subst (λ (x : OuterAnswer). SameStates (d + e) (settle S outer i cs rs ls m (decoded_row S outer i rs)) (settle S outer i cs ss ls n x)) o
      (same_settling i d e cs ls m n rs ss h a (decoded_row S outer i rs))

-- what is known of a state's columns
abbrev OnColumns : (List (List ℕ) → Type 0) → State → Type 0
OnColumns P (going cs ls n) = P cs
OnColumns P (stopped l) = Unit {0}

next_state : (S : Shape) (outer : RowDecoder) (f g : Reader) (dead : ℕ → List ℕ → ℕ) (i d : ℕ) (x y : State) → SameStates d x y
    → OnColumns (λ cs. All (λ c. Apart (dead i c) (f i c) (g i c)) cs) y → SameStates (d + sum_over (dead i) y) (onward S outer f i x) (onward S outer g i y)
unfolding sum_over onward
next_state S outer f g dead i d (going cs ls m) (going ds ks n) h a =
    subst⁻¹ (λ (z : List (List ℕ)). SameStates (d + sum (map (dead i) ds)) (onward S outer f i (going z ls m)) (onward S outer g i (going ds ks n))) h.0
    (subst⁻¹ (λ (z : List Level). SameStates (d + sum (map (dead i) ds)) (onward S outer f i (going ds z m)) (onward S outer g i (going ds ks n))) h.1
    (same_step S outer f g i d (sum (map (dead i) ds)) ds ks m n h.2 (same_readings S i (f i) (g i) (dead i) ds a)))
next_state S outer f g dead i d (going cs ls m) (stopped l) h a = absurd h
next_state S outer f g dead i d (stopped l) (going ds ks n) h a = absurd h
next_state S outer f g dead i d (stopped l) (stopped k) h a = h

first_columns : (z x : State) (d : ℕ) (cs : List (List ℕ)) (ls : List Level) (n : ℕ) → z ≡ x → SameStates d x (going cs ls n) → (ks : List Level) × (m : ℕ) × (z ≡ going cs ks m)
first_columns z (going ds ks m) d cs ls n e a = (ks, m, e ∙ ap (λ (t : List (List ℕ)). going t ks m) a.0)
first_columns z (stopped l) d cs ls n e a = absurd a

same_outcome : (d : ℕ) (x y : State) → SameStates d x y → Agree d (outcome x) (outcome y)
unfolding outcome
same_outcome d (going cs ls m) (going ds ks n) h = (h.1, h.2)
same_outcome d (going cs ls m) (stopped l) h = h
same_outcome d (stopped l) (going ds ks n) h = h
same_outcome d (stopped l) (stopped k) h = h

-- `first` and `second` read each column of the second decoder's run alike, the second with `dead` more paths
module _ (S : Shape) (outer : RowDecoder) (first second : Reader) (dead : ℕ → List ℕ → ℕ) (page : List (List ℕ))
    (apart : AtEveryLevel S outer second page (λ i. All (λ c. Apart (dead i c) (first i c) (second i c)))) where
  apart_at : (i : ℕ) → i < levels S → (y : State) → run S outer second page i ≡ y → OnColumns (λ cs. All (λ c. Apart (dead i c) (first i c) (second i c)) cs) y
  apart_at i l (stopped k) e = tt
  apart_at i l (going cs ls n) e = apart i l cs (ls, n, e)

  pub runs_agree : (i : ℕ) → i ≤ levels S → SameStates (sum_below S outer second page dead i) (run S outer first page i) (run S outer second page i)
  unfolding run sum_below
  runs_agree zero h = (refl, refl, refl)
  runs_agree (suc i) h =
      next_state S outer first second dead i (sum_below S outer second page dead i) (run S outer first page i) (run S outer second page i) (runs_agree i (omega arith))
      (apart_at i (omega arith) (run S outer second page i) refl)

  pub answers_agree : Agree (sum_below S outer second page dead (levels S)) (decoded S outer first page) (decoded S outer second page)
  unfolding decoded
  answers_agree = same_outcome (sum_below S outer second page dead (levels S)) (run S outer first page (levels S)) (run S outer second page (levels S)) (runs_agree (levels S) (omega arith))

  -- at each level both have the same columns
  pub same_columns : (i : ℕ) → i ≤ levels S → (cs : List (List ℕ)) → Reaches S outer second page i cs → Reaches S outer first page i cs
  same_columns i h cs at =
      first_columns (run S outer first page i) (run S outer first page i) (sum_below S outer second page dead i) cs at.0 at.1 refl
      (subst (λ (y : State). SameStates (sum_below S outer second page dead i) (run S outer first page i) y) at.2 (runs_agree i h))
