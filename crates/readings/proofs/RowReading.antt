-- The reading of a level: a column's search as its reading, and the columns read so far. Assumes nothing.
use mathlib.Core.Bool.{Bool, ◌||◌}
use mathlib.Core.List.{List, [], ◌∷◌, ◌++◌, map}
use mathlib.Core.Path.{◌≡◌, refl, sym, ap, ap₂, ◌∙◌}
use Prim.Native.Nat.{ℕ, zero, suc, ◌+◌, ◌*◌, ◌≤◌, ◌<◌}
use native.Mathlib.Numerals.{add-one}
use native.Mathlib.Omega.{arith}
use lib.IntN.{ℤ}
use lib.ListN.{length, length-map, get_or, take, set}
use lib.Seq.{take-suc, take_all}
use Rattle.column.specs.Shape.{short}
use Rattle.paths.specs.Search.{SearchResult, answer}
use Rattle.paths.specs.Search
use Rattle.paths.specs.Low.{lowest_from}
use Rattle.trellis.specs.Values.{level_values}
use Rattle.trellis.specs.Demand.{Search as Kind}
use Rattle.trellis.specs.Trellis.{WordFound}
use Rattle.trellis.specs.TwoWords.{Choice, searched_by}
use Rattle.search.specs.Outcomes.{code_outcome}
use Rattle.search.specs.declared.Found.{Found}
use Rattle.std.specs.Prelude.{Option, Result, Ok, Err}
use Rattle.std.specs.Option.{ok_or}
use Rattle.trellis.proofs.Short.{searchable}
use Rattle.concatenated.specs.Lists.{sum}
use Rattle.concatenated.specs.SoftPage.{Soft}
use Rattle.concatenated.specs.Decode.{Reading, Reader, spent, symbol, symbols, mark, marks, lows, count, steps}
use Rattle.concatenated.specs.Readers.{reading_of, reader_of, short_reader}
use Rattle.concatenated.specs.Flags.{flag}
use Rattle.concatenated.specs.Chip.{some_column}
use Rattle.readings.specs.Steps.{as_reading, WordInRange, RowRead}
use Rattle.concatenated.proofs.Lists.{all_at, map_append}
use Rattle.paths.proofs.Low.{lowest_from_append}
use Rattle.paths.proofs.Booleans.{or_assoc, or_false}
use Rattle.concatenated.proofs.Readings.{ShortReadsWords, found_is_a_word}
use Rattle.concatenated.proofs.Readings
use Rattle.concatenated.proofs.Lows.{lows_append}
use Rattle.concatenated.proofs.Filling.{Front, front_none, front_more, front_all}
use Rattle.column.proofs.Tabulated.{map_at}

by_code : (limit : ℕ) (o : SearchResult WordFound) → as_reading (ok_or (code_outcome o) limit) ≡ reading_of limit o
unfolding code_outcome reading_of
by_code limit (answer w n) = refl
by_code limit (Search.spent n) = refl

-- the word that a reading gives is in range
pub word_is_in_range : (limit i : ℕ) → i < 4 → (read : Reader) → ShortReadsWords limit read → (c : List ℕ) (r : Result Found ℕ) → as_reading r ≡ read i c → WordInRange r
word_is_in_range limit i h read reads c (Ok f) e = (found_is_a_word short i (searchable i h) level_values limit read (reads i h) c (record { column = f.word; low = f.low }) f.count (sym e)).0
word_is_in_range limit i h read reads c (Err n) e = tt

-- and its count at most the limit
pub count_within_the_limit : (limit i : ℕ) → i < 4 → (read : Reader) → ShortReadsWords limit read → (c : List ℕ) → count (read i c) ≤ limit
count_within_the_limit limit i h read reads c = Readings.count_within_the_limit short i (searchable i h) level_values limit read (reads i h) c

-- the code's search in a way is the reading
pub reads_it : (choice : Choice) (kind : Kind) (limit i : ℕ) (c : List ℕ) (r : Option Found) → r ≡ code_outcome (searched_by choice kind short (level_values i) limit c i) → as_reading (ok_or r limit) ≡ short_reader choice kind limit i c
unfolding reader_of
reads_it choice kind limit i c r e = ap (λ (x : Option Found). as_reading (ok_or x limit)) e ∙ by_code limit (searched_by choice kind short (level_values i) limit c i)

-- a column of the page as the search takes it
pub soft_column_lem : (c : List ℕ) → (length c ≡ 30) × Soft c → (k : ℕ) → k < 30 → get_or c k 0 ≤ 7
soft_column_lem c soft k l = let inside : k < length c = omega (arith, soft.0, l) in all_at (λ q. q ≤ 7) c k 0 soft.1 inside

sum_append : (xs : List ℕ) (n : ℕ) → sum (xs ++ (n ∷ [])) ≡ sum xs + n
unfolding sum
sum_append [] n = omega arith
sum_append (x ∷ xs) n = omega (arith, sum_append xs n)

-- one column more is read
read_more : (read : List ℕ → Reading) (work : List (List ℕ)) (j : ℕ) → j < length work → map read (take (j + 1) work) ≡ map read (take j work) ++ (read (get_or work j []) ∷ [])
read_more read work j h =
    ap (λ (k : ℕ). map read (take k work)) (add-one j) ∙ ap (map read) (take-suc work j [] h) ∙ map_append read (take j work) (get_or work j [] ∷ [])

steps_more : (read : List ℕ → Reading) (work : List (List ℕ)) (j : ℕ) → j < length work
    → steps (map read (take (j + 1) work)) ≡ steps (map read (take j work)) + count (read (get_or work j []))
steps_more read work j h =
    ap steps (read_more read work j h) ∙ ap sum (map_append count (map read (take j work)) (read (get_or work j []) ∷ []))
    ∙ sum_append (map count (map read (take j work))) (count (read (get_or work j [])))

lows_more : (read : List ℕ → Reading) (z₀ : ℤ) (work : List (List ℕ)) (j : ℕ) → j < length work
    → lowest_from z₀ (lows (map read (take (j + 1) work))) ≡ lowest_from (lowest_from z₀ (lows (map read (take j work)))) (lows (read (get_or work j []) ∷ []))
lows_more read z₀ work j h =
    ap (λ (t : List Reading). lowest_from z₀ (lows t)) (read_more read work j h) ∙ ap (lowest_from z₀) (lows_append (map read (take j work)) (read (get_or work j []) ∷ []))
    ∙ lowest_from_append z₀ (lows (map read (take j work))) (lows (read (get_or work j []) ∷ []))

-- j columns are read
pub record RowFilling (i : ℕ) (read : List ℕ → Reading) (work : List (List ℕ)) (z₀ : ℤ) (xs ms : List ℕ) (n : ℕ) (z : ℤ) (j : ℕ) : Type 0 where
  pub long_work : length work ≡ 63
  pub symbols_so : Front (symbols short i (map read work)) xs 63 j
  pub marks_so : Front (map flag (marks (map read work))) ms 63 j
  pub steps_so : n ≡ steps (map read (take j work))
  pub low_so : z ≡ lowest_from z₀ (lows (map read (take j work)))
  pub few : n ≤ 2000 * j

pub nothing_read : (i : ℕ) (read : List ℕ → Reading) (work : List (List ℕ)) (z₀ : ℤ) (xs ms : List ℕ) (z : ℤ) → length work ≡ 63 → length xs ≡ 63 → length ms ≡ 63 → z ≡ z₀ → RowFilling i read work z₀ xs ms 0 z 0
unfolding sum lows lowest_from
nothing_read i read work z₀ xs ms z lw lx lm start =
    record {
      long_work = lw;
      symbols_so = front_none _ xs 63 (length-map (map read work) (symbol short i) ∙ length-map work read ∙ lw) lx;
      marks_so = front_none _ ms 63 (length-map (marks (map read work)) flag ∙ length-map (map read work) mark ∙ length-map work read ∙ lw) lm;
      steps_so = refl;
      low_so = start;
      few = omega arith;
    }

pub one_more_read : (i : ℕ) (read : List ℕ → Reading) (work : List (List ℕ)) (z₀ : ℤ) (xs ms : List ℕ) (n : ℕ) (z : ℤ) (j : ℕ) (r : Reading) (x m k : ℕ) (y : ℤ) → RowFilling i read work z₀ xs ms n z j → j < 63
    → r ≡ read (get_or work j []) → x ≡ symbol short i r → m ≡ flag (mark r) → k ≡ count r → y ≡ lowest_from z (lows (r ∷ [])) → k ≤ 2000 → RowFilling i read work z₀ (set xs j x) (set ms j m) (n + k) y (j + 1)
one_more_read i read work z₀ xs ms n z j r x m k y f h er ex em ek ey few =
    let inside : j < length work = omega (arith, f.long_work, h) in
    let rs = map read work in
    let long_rs : length rs ≡ 63 = length-map work read ∙ f.long_work in
    let inside_rs : j < length rs = omega (arith, long_rs, h) in
    let inside_marks : j < length (marks rs) = omega (arith, length-map rs mark, long_rs, h) in
    let at : r ≡ get_or rs j (spent 0) = er ∙ sym (map_at read work j [] (spent 0) inside) in
    record {
      long_work = f.long_work;
      symbols_so = front_more _ xs 63 j x 0 f.symbols_so h (ex ∙ ap (symbol short i) at ∙ sym (map_at (symbol short i) rs j (spent 0) 0 inside_rs));
      marks_so = front_more _ ms 63 j m 0 f.marks_so h (em ∙ ap (λ (t : Reading). flag (mark t)) at ∙ ap flag (sym (map_at mark rs j (spent 0) (mark (spent 0)) inside_rs)) ∙ sym (map_at flag (marks rs) j (mark (spent 0)) 0 inside_marks));
      steps_so = omega (arith, f.steps_so, steps_more read work j inside, ek ∙ ap count er);
      low_so = ey ∙ ap₂ (λ (t : ℤ) (s : Reading). lowest_from t (lows (s ∷ []))) f.low_so er ∙ sym (lows_more read z₀ work j inside);
      few = omega (arith, f.few, few);
    }

pub all_read : (i : ℕ) (read : List ℕ → Reading) (work : List (List ℕ)) (z₀ : ℤ) (xs ms : List ℕ) (n : ℕ) (z : ℤ) (j : ℕ) (y : ℤ) → RowFilling i read work z₀ xs ms n z j → 63 ≤ j → z₀ ≡ y → RowRead i (map read work) y xs ms n z
all_read i read work z₀ xs ms n z j y f h start =
    let last : j ≡ 63 = omega (arith, f.symbols_so.within, h) in
    record {
      symbols_are = front_all _ xs 63 j f.symbols_so h;
      marks_are = front_all _ ms 63 j f.marks_so h;
      steps_are = f.steps_so ∙ ap (λ (t : List (List ℕ)). steps (map read t)) (take_all j work (omega (arith, f.long_work, h)));
      low_is = f.low_so ∙ ap₂ (λ (x : ℤ) (t : List (List ℕ)). lowest_from x (lows (map read t))) start (take_all j work (omega (arith, f.long_work, h)));
      few = omega (arith, f.few, last);
    }

-- ---- whether a column passes a test

module _ (test : List ℕ → Bool) where
  one_more_after : (work : List (List ℕ)) (j : ℕ) → j < length work → some_column test (take (suc j) work) ≡ (some_column test (take j work) || test (get_or work j []))
  unfolding some_column
  one_more_after [] j h = absurd (omega arith)
  one_more_after (c ∷ cs) zero h = or_false (test c)
  one_more_after (c ∷ cs) (suc j) h = ap (λ (b : Bool). test c || b) (one_more_after cs j (omega arith)) ∙ sym (or_assoc (test c) (some_column test (take j cs)) (test (get_or cs j [])))

  one_more : (work : List (List ℕ)) (j : ℕ) → j < length work → some_column test (take (j + 1) work) ≡ (some_column test (take j work) || test (get_or work j []))
  one_more work j h = ap (λ (k : ℕ). some_column test (take k work)) (add-one j) ∙ one_more_after work j h

  -- what was noted before, and of the first j columns
  pub none_noted : (was : Bool) (work : List (List ℕ)) → was ≡ (was || some_column test (take 0 work))
  unfolding some_column
  none_noted was work = sym (or_false was)

  pub one_more_noted : (was now next : Bool) (work : List (List ℕ)) (j : ℕ) → j < length work → now ≡ (was || some_column test (take j work)) → next ≡ (now || test (get_or work j [])) → next ≡ (was || some_column test (take (j + 1) work))
  one_more_noted was now next work j h e n =
      n ∙ ap (λ (b : Bool). b || test (get_or work j [])) e ∙ or_assoc was (some_column test (take j work)) (test (get_or work j [])) ∙ ap (λ (b : Bool). was || b) (sym (one_more work j h))

  pub all_noted : (was now : Bool) (work : List (List ℕ)) (j : ℕ) → length work ≤ j → now ≡ (was || some_column test (take j work)) → now ≡ (was || some_column test work)
  all_noted was now work j h e = e ∙ ap (λ (t : List (List ℕ)). was || some_column test t) (take_all j work h)
