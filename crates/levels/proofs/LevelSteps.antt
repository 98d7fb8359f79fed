-- One level put together: what is read, the row, the changed columns, the words taken off. Assumes nothing.
use mathlib.Core.Bool.{Bool, true, false, true≢false}
use mathlib.Core.List.{List, map}
use mathlib.Core.Path.{◌≡◌, refl, sym, ap, ap₂, ◌∙◌, subst, subst⁻¹}
use Prim.Native.Nat.{ℕ, ◌<◌}
use lib.IntN.{ℤ}
use lib.ListN.{length, length-map}
use Rattle.column.specs.Shape.{short}
use Rattle.paths.specs.Low.{lowest_from}
use Rattle.trellis.specs.Values.{level_values}
use Rattle.trellis.proofs.Short.{searchable}
use Rattle.reedsolomon.specs.Search.{WordOf, OuterAnswer, Found, NoneInReach}
use Rattle.reedsolomon.specs.Row.{Symbols, outer_answer, word_of, is_found, RowDecoded}
use Rattle.concatenated.specs.Format.{short_roots}
use Rattle.concatenated.specs.SoftPage.{Soft}
use Rattle.concatenated.specs.Decode.{Reading, Reader, symbol, symbols, mark, marks, lows, changed, row_off, decoded_row}
use Rattle.concatenated.specs.Flags.{flag, is_one}
use Rattle.concatenated.specs.Marks.{mark_of}
use Rattle.concatenated.specs.Arrays.{SoftColumns}
use Rattle.readings.specs.Steps.{RowRead}
use Rattle.concatenated.specs.OuterCode.{short_outer}
use Rattle.levels.specs.Levels.{Ended, LevelDone}
use Rattle.levels.specs.declared.LevelOut.{LevelOut}
use Rattle.std.specs.Prelude.{Option, Some, None}
use Rattle.reedsolomon.proofs.Answers.{word_is_of_symbols}
use Rattle.concatenated.proofs.Digits.{below_is_word}
use Rattle.concatenated.proofs.Columns.{row_off_length, row_off_all}
use Rattle.concatenated.proofs.TakingOff.{off_length, column_stays_soft}
use Rattle.concatenated.proofs.Readings.{ShortReadsWords, symbols_in_range}
use Rattle.concatenated.proofs.OuterJoint.{flags_back, outer_laws}

-- a level's symbols and flags are as many as its columns
pub as_many : (i : ℕ) (rs : List Reading) (z₀ : ℤ) (xs ms : List ℕ) (n : ℕ) (z : ℤ) → length rs ≡ 63 → RowRead i rs z₀ xs ms n z → (length xs ≡ 63) × (length ms ≡ 63)
as_many i rs z₀ xs ms n z long given = (
  ap length given.symbols_are ∙ length-map rs (symbol short i) ∙ long,
  ap length given.marks_are ∙ length-map (marks rs) flag ∙ length-map rs mark ∙ long,
)

-- they are symbols
pub read_symbols : (limit : ℕ) (read : Reader) → ShortReadsWords limit read → (i : ℕ) → i < 4 → (work : List (List ℕ)) (z₀ : ℤ) (xs ms : List ℕ) (n : ℕ) (z : ℤ) → RowRead i (map (read i) work) z₀ xs ms n z → Symbols 6 xs
read_symbols limit read reads i h work z₀ xs ms n z given =
    let ys = symbols short i (map (read i) work) in
    subst⁻¹ (Symbols 6) given.symbols_are (word_is_of_symbols 6 (length ys) ys (below_is_word 64 ys (symbols_in_range short i (searchable i h) level_values limit read (reads i h) work)))

-- the row of a level is a word of 63 symbols
pub row_is_a_word : (i : ℕ) → i < 4 → (rs : List Reading) → length rs ≡ 63 → (r : List ℕ) → decoded_row short short_outer i rs ≡ Found r → WordOf 64 63 r
unfolding decoded_row
row_is_a_word i h rs long r e =
    (outer_laws.given i (symbols short i rs) (marks rs) r h (length-map rs (symbol short i) ∙ long) (length-map rs mark ∙ long) e).0.word

-- taking a row's words off keeps columns soft
pub soft_off : (i : ℕ) (r : List ℕ) (work after : List (List ℕ)) → length r ≡ 63 → SoftColumns work → after ≡ row_off short i r work → SoftColumns after
soft_off i r work after long s e =
    subst⁻¹ SoftColumns e
    (record {
      many = row_off_length short i r work (long ∙ sym s.many) ∙ s.many;
      soft = row_off_all short (λ c. (length c ≡ 30) × Soft c) (λ w c h. (off_length w c ∙ h.0, column_stays_soft w c h.1)) i r work s.soft;
    })

module _ (i : ℕ) (h : i < 4) (rs : List Reading) (long : length rs ≡ 63) (z₀ : ℤ) (xs ms : List ℕ) (n : ℕ) (z : ℤ) (read : RowRead i rs z₀ xs ms n z) (t : ℕ) (et : t ≡ short_roots i) (settled : Bool) (old new : List ℕ)
    (given : RowDecoded (outer_answer 6 67 63 t xs ms) settled old new) where
  -- the row of a level is the outer code's answer on what was read
  row_is : decoded_row short short_outer i rs ≡ outer_answer 6 67 63 t xs ms
  unfolding decoded_row short_outer
  row_is =
      ap₂ (λ (x m : List ℕ). outer_answer 6 67 63 (short_roots i) x m) (sym read.symbols_are) (sym read.marks_are)
      ∙ ap (λ (k : ℕ). outer_answer 6 67 63 k xs ms) (sym et)

  pub no_row : settled ≡ false → decoded_row short short_outer i rs ≡ NoneInReach
  unfolding is_found
  no_row e = row_is ∙ go (outer_answer 6 67 63 t xs ms) (sym e ∙ given.told)
    where
      go : (a : OuterAnswer) → false ≡ is_found a → a ≡ NoneInReach
      go (Found c) f = absurd (true≢false (sym f))
      go NoneInReach f = refl

  pub is_row : settled ≡ true → decoded_row short short_outer i rs ≡ Found new
  unfolding is_found word_of
  is_row e = row_is ∙ go (outer_answer 6 67 63 t xs ms) (sym e ∙ given.told) given.written
    where
      go : (a : OuterAnswer) → true ≡ is_found a → new ≡ word_of old a → a ≡ Found new
      go (Found c) f w = ap Found (sym w)
      go NoneInReach f w = absurd (true≢false f)

  pub settled_row_is_a_word : settled ≡ true → WordOf 64 63 new
  settled_row_is_a_word e = row_is_a_word i h rs long new (is_row e)

  -- a level with no row, and one with a row; y is the lowest low point before it
  pub level_refused : settled ≡ false → (y : ℤ) (work after : List (List ℕ)) → Ended (decoded_row short short_outer i rs) i rs y work None after
  level_refused e y work after = subst⁻¹ (λ (o : OuterAnswer). Ended o i rs y work None after) (no_row e) refl

  pub level_settled : settled ≡ true → (y : ℤ) → z₀ ≡ y → (work after : List (List ℕ)) (cs es : ℕ) (low : ℤ) → cs ≡ mark_of (changed xs (map is_one ms) new) → es ≡ mark_of (map is_one ms) → low ≡ z
      → after ≡ row_off short i new work → Ended (decoded_row short short_outer i rs) i rs y work (Some (record { row = new; changed = cs; erased = es; totals = record { steps = n; low = low } })) after
  level_settled e y start work after cs es low ec ee el off =
      let marked : map is_one ms ≡ marks rs = ap (map is_one) read.marks_are ∙ flags_back (marks rs) in
      subst⁻¹ (λ (o : OuterAnswer). Ended o i rs y work (Some (out_of cs es n low)) after) (is_row e) (
        ap₂ (λ (c m : ℕ). Some (out_of c m n low)) (ec ∙ ap₂ (λ (x : List ℕ) (m : List Bool). mark_of (changed x m new)) read.symbols_are marked) (ee ∙ ap mark_of marked)
            ∙ ap₂ (λ (k : ℕ) (y : ℤ). Some (out_of (mark_of (changed (symbols short i rs) (marks rs) new)) (mark_of (marks rs)) k y)) read.steps_are (el ∙ read.low_is ∙ ap (λ (x : ℤ). lowest_from x (lows rs)) start),
        off,
      )
    where
      out_of : ℕ → ℕ → ℕ → ℤ → LevelOut
      out_of cs es n low = record { row = new; changed = cs; erased = es; totals = record { steps = n; low = low } }

-- a level is done, by the lowest low point before it as the caller has it
pub level_done : (read : Reader) (i : ℕ) (z y : ℤ) (work after : List (List ℕ)) (out : Option LevelOut) → z ≡ y → Ended (decoded_row short short_outer i (map (read i) work)) i (map (read i) work) z work out after → LevelDone read i y work out after
unfolding LevelDone
level_done read i z y work after out e = subst (λ (x : ℤ). Ended (decoded_row short short_outer i (map (read i) work)) i (map (read i) work) x work out after) e
