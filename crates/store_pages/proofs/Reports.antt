-- The report of every page decoder, and of asking, for every input: its totals are the ones of its marks, its marks are of 63 columns, and its low point is that of its lowest column. Assumes nothing.
use mathlib.Core.Bool.{Bool, true, false}
use mathlib.Core.List.{List, [], map}
use mathlib.Core.Path.{◌≡◌, refl, sym, ap, ◌∙◌, subst, subst⁻¹}
use Prim.Native.Nat.{ℕ, ◌^◌, ◌≤◌, ◌<◌}
use native.Mathlib.Omega.{arith}
use lib.Count.{ones}
use lib.Dec.{eqb}
use lib.IntN.{pos, nat_abs}
use lib.ListN.{length, length-map, get_or, get_or-replicate, replicate}
use Rattle.column.specs.Shape.{short}
use Rattle.column.proofs.Tabulated.{map_at}
use Rattle.trellis.specs.TwoWords.{Choice}
use Rattle.concatenated.specs.Flags.{flag}
use Rattle.concatenated.specs.Format.{short_page}
use Rattle.concatenated.specs.SoftPage.{soft_columns}
use Rattle.concatenated.specs.Outer.{is_in}
use Rattle.concatenated.specs.Marks.{mark_of, bit_of}
use Rattle.concatenated.specs.Decode.{Reader, Level, PageAnswer, answered, refused, decoded}
use Rattle.concatenated.specs.OuterCode.{short_outer, short_encoder, ShortCodeword}
use Rattle.concatenated.proofs.Marks.{bit_is_membership, no_bit_above, mark_is_small, ones_of_marks}
use Rattle.concatenated.proofs.Answers.{no_level, LevelSets, answer_is_of_levels, sets_of_levels}
use Rattle.concatenated.proofs.OuterJoint.{outer_laws}
use Rattle.concatenated.proofs.Readings.{ShortReadsWords}
use Rattle.concatenated.proofs.Lows.{short_levels_have_an_unerased_column, short_page_low_is_lowest, short_page_low_is_near}
use Rattle.concatenated.proofs.SoftPages.{as_many_columns}
use Rattle.page.specs.Outcomes.{report_of, refusal_report, outcome_of, Buffer, PageOutcome, report}
use Rattle.store_pages.specs.Pages.{FilledBy}
use Rattle.store_pages.specs.Reports.{bit_at, Marked, MarksOf, LowestColumn}
use Rattle.store_pages.proofs.Asked.{every_way}
use Rattle.questions.specs.Answer.{number, refused as refused_by}

-- no column
none : (i : ℕ) → i < 4 → get_or {A = ℕ} (replicate 4 0) i 0 ≡ 0
none i h = get_or-replicate 4 i 0 0 h

nowhere : (i j : ℕ) → i < 4 → bit_at (replicate 4 0) i j ≡ 0
unfolding mark_of
nowhere i j h = ap (λ (mark : ℕ). bit_of mark j) (none i h) ∙ bit_is_membership [] j

pub refusals_are_marked : Marked refusal_report
unfolding ones
refusals_are_marked =
    record {
      four = (refl, refl);
      changed = refl;
      erased = refl;
      small = λ i h. (omega (arith, none i h), omega (arith, none i h));
      no_column_63 = λ i h. (nowhere i 63 h, nowhere i 63 h);
      apart = λ i j h e. nowhere i j h;
    }

one_is_in : (b : Bool) → flag b ≡ 1 → b ≡ true
one_is_in true e = refl
one_is_in false e = absurd (omega (arith, e))

-- of every call that decodes by a reader of words
module _ (limit : ℕ) (read : Reader) (reads : ShortReadsWords limit read) (soft : List ℕ) where
  abbrev D : PageAnswer
  D = decoded short short_outer read (soft_columns short_page soft)

  -- an answered page: four levels with sets of 63 columns, and the marks of its report are theirs
  module _ (ls : List Level) (n : ℕ) (e : D ≡ answered ls n) where
    four_levels : length ls ≡ 4
    four_levels = (answer_is_of_levels short short_outer read (soft_columns short_page soft) ls n e).as_many

    sets : (i : ℕ) → i < 4 → LevelSets short_page short_outer short_encoder ShortCodeword outer_laws read (soft_columns short_page soft) (as_many_columns short_page soft) (get_or ls i no_level)
    sets i h = sets_of_levels short_page short_outer short_encoder ShortCodeword outer_laws read (soft_columns short_page soft) (as_many_columns short_page soft) ls n e i h no_level

    module _ (f : Level → List Bool) where
      mark : (i : ℕ) (d : Level) → i < 4 → get_or (map (λ l. mark_of (f l)) ls) i 0 ≡ mark_of (f (get_or ls i d))
      mark i d h = map_at (λ l. mark_of (f l)) ls i d 0 (omega (arith, four_levels, h))

      bit : (i j : ℕ) (d : Level) → i < 4 → bit_at (map (λ l. mark_of (f l)) ls) i j ≡ flag (is_in (f (get_or ls i d)) j)
      bit i j d h = ap (λ (m : ℕ). bit_of m j) (mark i d h) ∙ bit_is_membership (f (get_or ls i d)) j

      below_63 : (i : ℕ) → i < 4 → length (f (get_or ls i no_level)) ≡ 63 → get_or (map (λ l. mark_of (f l)) ls) i 0 < 2 ^ 63
      below_63 i h long = subst⁻¹ (λ (m : ℕ). m < 2 ^ 63) (mark i no_level h) (subst (λ (k : ℕ). mark_of (f (get_or ls i no_level)) < 2 ^ k) long (mark_is_small (f (get_or ls i no_level))))

      bit_63 : (i : ℕ) → i < 4 → length (f (get_or ls i no_level)) ≡ 63 → bit_at (map (λ l. mark_of (f l)) ls) i 63 ≡ 0
      bit_63 i h long = ap (λ (m : ℕ). bit_of m 63) (mark i no_level h) ∙ no_bit_above (f (get_or ls i no_level)) 63 (omega (arith, long))

    answered_is_marked : Marked (report_of ls n)
    answered_is_marked =
        record {
          four = (length-map ls _ ∙ four_levels, length-map ls _ ∙ four_levels);
          changed = sym (ones_of_marks (λ l. l.changed) ls);
          erased = sym (ones_of_marks (λ l. l.erased) ls);
          small = λ i h. (below_63 (λ l. l.changed) i h (sets i h).changed_long, below_63 (λ l. l.erased) i h (sets i h).erased_long);
          no_column_63 = λ i h. (bit_63 (λ l. l.changed) i h (sets i h).changed_long, bit_63 (λ l. l.erased) i h (sets i h).erased_long);
          apart = λ i j h is.
              bit (λ l. l.changed) i j no_level h ∙ ap flag ((sets i h).apart j (one_is_in _ (sym (bit (λ l. l.erased) i j no_level h) ∙ is)));
        }

  pub answers_are_marked : (d : PageAnswer) → D ≡ d → Marked (report (outcome_of d))
  unfolding outcome_of
  answers_are_marked (refused l) e = refusals_are_marked
  answers_are_marked (answered ls n) e = answered_is_marked ls n e

  -- every input
  pub reports_are_marked : (choice : Choice) (B : Buffer) (old : List ℕ) (r : PageOutcome) (new : List ℕ) → FilledBy D B choice soft limit old r new → Marked (report r)
  reports_are_marked choice B old r new call =
      subst⁻¹ (λ (o : PageOutcome). Marked (report o)) call.answer
      (every_way choice soft limit (eqb (length old) B.places) (λ (o : PageOutcome). Marked (report o)) refused_by (outcome_of D) (λ n p some few near. refusals_are_marked) (λ most. answers_are_marked D refl))

  answers_have_their_marks : (d : PageAnswer) → D ≡ d → number (outcome_of d) ≡ 0 → MarksOf d (report (outcome_of d))
  unfolding outcome_of
  answers_have_their_marks (refused l) e z = absurd (omega (arith, z))
  answers_have_their_marks (answered ls n) e z = record { levels = ls; is = refl; changed_bit = bit ls n e (λ l. l.changed); erased_bit = bit ls n e (λ l. l.erased) }

  -- each of them, where it answers: the bits of its marks are the columns of the levels' sets
  pub bits_are_the_columns : (choice : Choice) (B : Buffer) (old : List ℕ) (r : PageOutcome) (new : List ℕ) → FilledBy D B choice soft limit old r new → number r ≡ 0 → MarksOf D (report r)
  bits_are_the_columns choice B old r new call =
      subst⁻¹ HasMarks call.answer
      (every_way choice soft limit (eqb (length old) B.places) HasMarks refused_by (outcome_of D) (λ n p some few near z. absurd (omega (arith, some, z))) (λ most. answers_have_their_marks D refl))
    where
      HasMarks : PageOutcome → Type 0
      HasMarks o = number o ≡ 0 → MarksOf D (report o)

  -- ---- the low point

  pub answers_are_near : (d : PageAnswer) → D ≡ d → nat_abs (report (outcome_of d)).low ≤ 1800
  unfolding outcome_of
  answers_are_near (refused l) e = omega arith
  answers_are_near (answered ls n) e = short_page_low_is_near limit read reads (soft_columns short_page soft) (as_many_columns short_page soft) ls n e

  answers_have_the_lowest : (d : PageAnswer) → D ≡ d → (number (outcome_of d) ≡ 0 → LowestColumn d (report (outcome_of d))) × ((number (outcome_of d) ≡ 0 → ⊥) → (report (outcome_of d)).low ≡ pos 0)
  unfolding outcome_of
  answers_have_the_lowest (refused l) e = (λ z. absurd (omega (arith, z)), λ some. refl)
  answers_have_the_lowest (answered ls n) e =
      let page = soft_columns short_page soft in
      let wide = as_many_columns short_page soft in (
        λ z. record { levels = ls; is = refl; some_unerased = short_levels_have_an_unerased_column limit read reads page wide ls n e; lowest = short_page_low_is_lowest limit read reads page wide ls n e },
        λ some. absurd (some refl),
      )

  -- each of them: where it answers, the low point is that of the lowest column; a refusal has 0
  pub low_is_of_the_lowest_column : (choice : Choice) (B : Buffer) (old : List ℕ) (r : PageOutcome) (new : List ℕ) → FilledBy D B choice soft limit old r new
      → (number r ≡ 0 → LowestColumn D (report r)) × ((number r ≡ 0 → ⊥) → (report r).low ≡ pos 0)
  low_is_of_the_lowest_column choice B old r new call =
      subst⁻¹ HasLow call.answer
      (every_way choice soft limit (eqb (length old) B.places) HasLow refused_by (outcome_of D) (λ n p some few near. (λ z. absurd (omega (arith, some, z)), λ k. refl)) (λ most. answers_have_the_lowest D refl))
    where
      HasLow : PageOutcome → Type 0
      HasLow o = (number o ≡ 0 → LowestColumn D (report o)) × ((number o ≡ 0 → ⊥) → (report o).low ≡ pos 0)
