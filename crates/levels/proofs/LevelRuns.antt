-- The loop over levels: the arrays hold what the run has given so far. Assumes nothing.
use mathlib.Core.Bool.{Bool, ◌||◌}
use mathlib.Core.List.{List, [], ◌∷◌, ◌++◌, map, flat_map}
use mathlib.Core.Logic.{⊎_elim}
use mathlib.Core.Path.{◌≡◌, refl, sym, ap, ap₂, ◌∙◌, subst, subst⁻¹}
use Prim.Native.Nat.{ℕ, zero, suc, ◌+◌, ◌-◌, ◌*◌, ◌≤◌, ◌<◌}
use native.Mathlib.Nat.{eq-or-lt_of_le, lt_irrefl, not-suc-le-zero}
use native.Mathlib.Numerals.{add-one}
use native.Mathlib.Omega.{arith}
use lib.IntN.{ℤ}
use lib.ListN.{length, length-set, length-map, get_or, take, set}
use lib.Seq.{take-suc-set, take_all, get_or-set_same, get_or-set_other}
use Rattle.column.specs.Shape.{short}
use Rattle.paths.specs.Low.{lowest_from}
use Rattle.paths.proofs.Low.{lowest_from_append}
use Rattle.paths.proofs.Booleans.{or_assoc, or_false}
use Rattle.trellis.specs.Keys.{none_taken}
use Rattle.reedsolomon.specs.Search.{WordOf, OuterAnswer, Found, NoneInReach}
use Rattle.concatenated.specs.Decode.{Reader, steps, decoded_row, Level, level, State, going, stopped, settle, onward, run, answered, outcome, decoded, all_lows, page_low, rows}
use Rattle.concatenated.specs.Marks.{mark_of, changed_marks, erased_marks}
use Rattle.concatenated.specs.Arrays.{SoftColumns}
use Rattle.concatenated.specs.OuterCode.{short_outer}
use Rattle.concatenated.specs.Chip.{some_column, some_of, some_below}
use Rattle.levels.specs.Levels.{holding, Ended, LevelDone, Ends, ColumnsDone}
use Rattle.levels.specs.declared.LevelOut.{LevelOut}
use Rattle.levels.specs.declared.Levels.{Levels}
use Rattle.questions.specs.declared.refusal.Question.TheVariants.{Reach}
use Rattle.questions.specs.Answer.{refused as refused_by}
use Rattle.std.specs.Prelude.{Option, Some, None, Ok}
use Rattle.concatenated.proofs.Lists.{map_append}
use Rattle.concatenated.proofs.Lows.{all_lows_more}
use Rattle.levels.proofs.LevelSteps.{row_is_a_word}

pub some_is_not_none : {x : LevelOut} → ◌≡◌ {A = Option LevelOut} (Some x) None → ⊥
some_is_not_none e = cc e

pub the_one : {x y : LevelOut} → ◌≡◌ {A = Option LevelOut} (Some x) (Some y) → x ≡ y
the_one e = cc e

-- what is held of the levels below i
pub record Decoding (read : Reader) (page work : List (List ℕ)) (held : Levels) (sum : ℕ) (z : ℤ) (i : ℕ) : Type 0 where
  pub within : i ≤ 4
  pub soft : SoftColumns work
  pub long_held : length held.rows ≡ 4
  pub long_changed : length held.changed ≡ 4
  pub long_erased : length held.erased ≡ 4
  pub levels : List Level
  pub so_far : run short short_outer read page i ≡ going work levels sum
  pub rows_so : take i held.rows ≡ map (λ l. l.symbols) levels
  pub changed_so : take i held.changed ≡ changed_marks levels
  pub erased_so : take i held.erased ≡ erased_marks levels
  pub words : (k : ℕ) → k < i → WordOf 64 63 (get_or held.rows k [])
  pub few : sum ≤ 126000 * i
  pub low_so : z ≡ lowest_from none_taken (all_lows levels)

held_more : {A B : Type 0} (f : A → B) (xs : List B) (ls : List A) (i : ℕ) (v : B) (l : A) → i < length xs → take i xs ≡ map f ls → v ≡ f l
    → take (i + 1) (set xs i v) ≡ map f (ls ++ (l ∷ []))
held_more f xs ls i v l h e w =
    ap (λ (k : ℕ). take k (set xs i v)) (add-one i) ∙ take-suc-set xs i v h ∙ ap₂ (λ (t : List _) (x : _). t ++ (x ∷ [])) e w ∙ sym (map_append f ls (l ∷ []))

each_more : (P : List ℕ → Type 0) (xs : List (List ℕ)) (i : ℕ) (v : List ℕ) → i < length xs → ((k : ℕ) → k < i → P (get_or xs k [])) → P v → (k : ℕ) → k < i + 1 → P (get_or (set xs i v) k [])
each_more P xs i v h each w k l =
    ⊎_elim
    (λ e. let z : k ≡ i = omega arith in subst⁻¹ (λ (t : ℕ). P (get_or (set xs i v) t [])) z (subst⁻¹ P (get_or-set_same xs i v [] h) w))
    (λ u. let z : k < i = omega arith in subst⁻¹ P (get_or-set_other xs i k v [] (λ y. lt_irrefl i (subst (λ (t : ℕ). t < i) y z))) (each k z))
    (eq-or-lt_of_le l)

-- a run that has stopped stays so
pub stays : (read : Reader) (page : List (List ℕ)) (i l : ℕ) → run short short_outer read page i ≡ stopped l → (k : ℕ) → run short short_outer read page (i + k) ≡ stopped l
unfolding run onward
stays read page i l e zero = let z : i + 0 ≡ i = omega arith in ap (run short short_outer read page) z ∙ e
stays read page i l e (suc k) =
    let z : i + suc k ≡ suc (i + k) = omega arith in
    ap (run short short_outer read page) z ∙ ap (onward short short_outer read (i + k)) (stays read page i l e k)

module _ (read : Reader) (page work : List (List ℕ)) (held : Levels) (sum : ℕ) (z : ℤ) (i : ℕ) (f : Decoding read page work held sum z i) (h : i < 4) (after : List (List ℕ)) where
  onwards : (o : OuterAnswer) → decoded_row short short_outer i (map (read i) work) ≡ o → run short short_outer read page (suc i) ≡ settle short short_outer i work (map (read i) work) f.levels sum o
  unfolding run onward
  onwards o e = ap (onward short short_outer read i) f.so_far ∙ ap (settle short short_outer i work (map (read i) work) f.levels sum) e

  word : (r : List ℕ) → decoded_row short short_outer i (map (read i) work) ≡ Found r → WordOf 64 63 r
  word r e = row_is_a_word i h (map (read i) work) (length-map work (read i) ∙ f.soft.many) r e

  -- one level more, whose steps are added
  pub decoding_more : (out : LevelOut) → LevelDone read i z work (Some out) after → out.totals.steps ≤ 126000 → SoftColumns after → (total : ℕ) → total ≡ sum + out.totals.steps → (low : ℤ) → low ≡ out.totals.low
      → (next : Levels) → next ≡ holding held i out → Decoding read page after next total low (i + 1)
  unfolding LevelDone level settle
  decoding_more out done few soft total et low el next is = subst⁻¹ (λ (x : Levels). Decoding read page after x total low (i + 1)) is (go (decoded_row short short_outer i (map (read i) work)) refl done)
    where
      go : (o : OuterAnswer) → decoded_row short short_outer i (map (read i) work) ≡ o → Ended o i (map (read i) work) z work (Some out) after
          → Decoding read page after (holding held i out) total low (i + 1)
      go NoneInReach e d = absurd (some_is_not_none d)
      go (Found r) e d =
          let l = level short i (map (read i) work) r in
          let is : out ≡ record { row = r; changed = mark_of l.changed; erased = mark_of l.erased; totals = record { steps = steps (map (read i) work); low = lowest_from z l.lows } } = the_one d.0 in
          record {
            within = omega arith;
            soft = soft;
            long_held = length-set held.rows i out.row ∙ f.long_held;
            long_changed = length-set held.changed i out.changed ∙ f.long_changed;
            long_erased = length-set held.erased i out.erased ∙ f.long_erased;
            levels = f.levels ++ (l ∷ []);
            so_far =
                ap (run short short_outer read page) (add-one i) ∙ onwards (Found r) e
                ∙ ap₂ (λ (cs : List (List ℕ)) (n : ℕ). going cs (f.levels ++ (l ∷ [])) n) (sym d.1) (omega (arith, ap (λ (x : LevelOut). x.totals.steps) is, et));
            rows_so = held_more (λ x. x.symbols) held.rows f.levels i out.row l (omega (arith, f.long_held)) f.rows_so (ap (λ (x : LevelOut). x.row) is);
            changed_so = held_more (λ x. mark_of x.changed) held.changed f.levels i out.changed l (omega (arith, f.long_changed)) f.changed_so (ap (λ (x : LevelOut). x.changed) is);
            erased_so = held_more (λ x. mark_of x.erased) held.erased f.levels i out.erased l (omega (arith, f.long_erased)) f.erased_so (ap (λ (x : LevelOut). x.erased) is);
            words = each_more (WordOf 64 63) held.rows i out.row (omega (arith, f.long_held)) f.words (subst⁻¹ (WordOf 64 63) (ap (λ (x : LevelOut). x.row) is) (word r e));
            few = omega (arith, f.few, few, et);
            low_so =
                el ∙ ap (λ (x : LevelOut). x.totals.low) is ∙ ap (λ (y : ℤ). lowest_from y l.lows) f.low_so ∙ sym (lowest_from_append none_taken (all_lows f.levels) l.lows) ∙ ap (lowest_from none_taken) (sym (all_lows_more f.levels l));
          }

  pub stop : LevelDone read i z work None after → run short short_outer read page (suc i) ≡ stopped i
  unfolding LevelDone settle
  stop done = go (decoded_row short short_outer i (map (read i) work)) refl done
    where
      go : (o : OuterAnswer) → decoded_row short short_outer i (map (read i) work) ≡ o → Ended o i (map (read i) work) z work None after → run short short_outer read page (suc i) ≡ stopped i
      go NoneInReach e d = onwards NoneInReach e
      go (Found r) e d = absurd (some_is_not_none (sym d.0))

  pub decoding_refused : LevelDone read i z work None after → (held' : Levels) → ColumnsDone read page (refused_by Reach i) held'
  unfolding ColumnsDone decoded outcome
  decoding_refused done held' =
      let k : suc i + (3 - i) ≡ 4 = omega arith in
      let e : run short short_outer read page 4 ≡ stopped i = sym (ap (run short short_outer read page) k) ∙ stays read page (suc i) i (stop done) (3 - i) in
      subst⁻¹ (λ (x : State). Ends (outcome x) (refused_by Reach i) held') e refl

-- an answer, whose lowest low point is the page's
pub decoding_answered : (read : Reader) (page work : List (List ℕ)) (held : Levels) (sum : ℕ) (z : ℤ) (i : ℕ) → Decoding read page work held sum z i → 4 ≤ i
    → ((ls : List Level) (n : ℕ) → decoded short short_outer read page ≡ answered ls n → lowest_from none_taken (all_lows ls) ≡ page_low ls) → ColumnsDone read page (Ok (record { steps = sum; low = z })) held
unfolding ColumnsDone decoded outcome rows
decoding_answered read page work held sum z i f h low =
    let four : i ≡ 4 = omega (arith, f.within, h) in
    let ran : run short short_outer read page 4 ≡ going work f.levels sum = ap (run short short_outer read page) (sym four) ∙ f.so_far in
    subst⁻¹ (λ (x : State). Ends (outcome x) (Ok (record { steps = sum; low = z })) held) ran (
      ap (λ (y : ℤ). Ok (record { steps = sum; low = y })) (f.low_so ∙ low f.levels sum (ap outcome ran)),
      sym (take_all i held.rows (omega (arith, f.long_held))) ∙ f.rows_so,
      sym (take_all i held.changed (omega (arith, f.long_changed))) ∙ f.changed_so,
      sym (take_all i held.erased (omega (arith, f.long_erased))) ∙ f.erased_so,
      record { four = f.long_held; words = λ k l. f.words k (omega (arith, four, l)) },
      f.long_changed,
      f.long_erased,
    )

pub decoding_none : (read : Reader) (page : List (List ℕ)) (held : Levels) → SoftColumns page → length held.rows ≡ 4 → length held.changed ≡ 4 → length held.erased ≡ 4
    → Decoding read page page held 0 none_taken 0
unfolding run all_lows flat_map lowest_from
decoding_none read page held s a b c =
    record {
      within = omega arith;
      soft = s;
      long_held = a;
      long_changed = b;
      long_erased = c;
      levels = [];
      so_far = refl;
      rows_so = refl;
      changed_so = refl;
      erased_so = refl;
      words = λ k l. absurd (not-suc-le-zero l);
      few = omega arith;
      low_so = refl;
    }

-- ---- what is noted of the searches so far

module _ (read : Reader) (page : List (List ℕ)) (test : ℕ → List ℕ → Bool) where
  abbrev below : ℕ → Bool
  below = some_below short short_outer read page test

  pub none_noted_below : (was : Bool) → was ≡ (was || below 0)
  unfolding some_below
  none_noted_below was = sym (or_false was)

  -- one level more is read
  pub level_noted : (work : List (List ℕ)) (held : Levels) (sum : ℕ) (z : ℤ) (i : ℕ) → Decoding read page work held sum z i
      → (was now next : Bool) → now ≡ (was || below i) → next ≡ (now || some_column (test i) work) → next ≡ (was || below (i + 1))
  unfolding some_below some_of
  level_noted work held sum z i f was now next e n =
      n ∙ ap₂ ◌||◌ e (sym (ap (some_of (test i)) f.so_far)) ∙ or_assoc was (below i) (some_of (test i) (run short short_outer read page i)) ∙ ap (λ (k : ℕ). was || below k) (sym (add-one i))

  -- levels that are not come to have no searches
  after_a_stop : (i l : ℕ) → run short short_outer read page i ≡ stopped l → (k : ℕ) → below (i + k) ≡ below i
  unfolding some_below some_of
  after_a_stop i l e zero = let z : i + 0 ≡ i = omega arith in ap below z
  after_a_stop i l e (suc k) =
      let z : i + suc k ≡ suc (i + k) = omega arith in
      ap below z ∙ ap (λ (s : State). below (i + k) || some_of (test (i + k)) s) (stays read page i l e k) ∙ or_false (below (i + k)) ∙ after_a_stop i l e k

  pub all_noted_of_a_stop : (i : ℕ) → i < 4 → run short short_outer read page (suc i) ≡ stopped i → (was now : Bool) → now ≡ (was || below (i + 1)) → now ≡ (was || below 4)
  all_noted_of_a_stop i h e was now n =
      let z : suc i + (3 - i) ≡ 4 = omega arith in
      n ∙ ap (λ (b : Bool). was || b) (ap below (add-one i) ∙ sym (after_a_stop (suc i) i e (3 - i)) ∙ ap below z)

  pub all_noted_of_an_answer : (i : ℕ) → i ≤ 4 → 4 ≤ i → (was now : Bool) → now ≡ (was || below i) → now ≡ (was || below 4)
  all_noted_of_an_answer i within h was now n =
      let four : i ≡ 4 = omega arith in
      n ∙ ap (λ (k : ℕ). was || below k) four
