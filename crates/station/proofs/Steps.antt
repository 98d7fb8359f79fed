-- The steps of a page are few, so that they fit in the report's four bytes. Assumes nothing.
use mathlib.Core.List.{List, [], ◌∷◌, map}
use Prim.Native.Nat.{ℕ, zero, suc, ◌*◌, ◌≤◌, ◌<◌}
use native.Mathlib.Nat.{mul-suc, mul-le-mul_left}
use native.Mathlib.Omega.{arith}
use lib.ListN.{length}
use Rattle.column.specs.Shape.{Shape, levels, short}
use Rattle.trellis.specs.Demand.{supercode}
use Rattle.trellis.specs.TwoWords.{Choice}
use Rattle.concatenated.specs.Lists.{sum}
use Rattle.concatenated.specs.Format.{short_page}
use Rattle.concatenated.specs.SoftPage.{soft_columns}
use Rattle.reedsolomon.specs.Search.{OuterAnswer, Found, NoneInReach}
use Rattle.concatenated.specs.Outer.{RowDecoder}
use Rattle.concatenated.specs.OuterCode.{short_outer}
use Rattle.concatenated.specs.Readers.{short_reader}
use Rattle.concatenated.specs.Decode.{Reader, Level, State, going, stopped, count, steps, row_off, decoded_row, settle, onward, run, outcome, decoded}
use Rattle.page.specs.Outcomes.{outcome_of, Buffer, PageOutcome, report as reported}
use Rattle.readings.proofs.RowReading.{count_within_the_limit}
use Rattle.concatenated.proofs.Readings.{short_readers_read_words}
use Rattle.concatenated.proofs.SoftPages.{as_many_columns}
use Rattle.store_pages.specs.Pages.{decoded_page}
use Rattle.station.specs.PageReturned.{have_room, page_answer}
use Rattle.store_pages.proofs.Asked.{every_way}
use Rattle.questions.specs.Answer.{refused as refused_by}

row_off_within : (S : Shape) (i : ℕ) (r : List ℕ) (cs : List (List ℕ)) → length (row_off S i r cs) ≤ length cs
unfolding row_off
row_off_within S i [] cs = omega arith
row_off_within S i (s ∷ r) [] = omega arith
row_off_within S i (s ∷ r) (c ∷ cs) = omega (arith, row_off_within S i r cs)

-- a run up to level k: at most 63 columns, and at most the limit's steps for each of them at each level
abbrev Within : ℕ → ℕ → State → Type 0
Within limit k (going cs ls n) = (length cs ≤ 63) × (n ≤ 63 * (limit * k))
Within limit k (stopped l) = Unit {0}

module _ (S : Shape) (outer : RowDecoder) (read : Reader) (limit : ℕ) (few : (i : ℕ) (c : List ℕ) → i < levels S → count (read i c) ≤ limit) (page : List (List ℕ)) (wide : length page ≤ 63) where
  steps_within : (i : ℕ) → i < levels S → (cs : List (List ℕ)) → steps (map (read i) cs) ≤ limit * length cs
  unfolding sum
  steps_within i h [] = omega arith
  steps_within i h (c ∷ cs) = omega (arith, few i c h, steps_within i h cs, mul-suc limit (length cs))

  settled_within : (i : ℕ) → i < levels S → (cs : List (List ℕ)) (ls : List Level) (n : ℕ) → Within limit i (going cs ls n) → (a : OuterAnswer) → Within limit (suc i) (settle S outer i cs (map (read i) cs) ls n a)
  unfolding settle
  settled_within i h cs ls n w NoneInReach = tt
  settled_within i h cs ls n w (Found r) = (omega (arith, row_off_within S i r cs, w.0), omega (arith, steps_within i h cs, mul-le-mul_left limit w.0, mul-suc limit i, w.1))

  onward_within : (i : ℕ) → i < levels S → (x : State) → Within limit i x → Within limit (suc i) (onward S outer read i x)
  unfolding onward
  onward_within i h (stopped l) w = tt
  onward_within i h (going cs ls n) w = settled_within i h cs ls n w (decoded_row S outer i (map (read i) cs))

  run_within : (i : ℕ) → i ≤ levels S → Within limit i (run S outer read page i)
  unfolding run
  run_within zero h = (wide, omega arith)
  run_within (suc i) h = onward_within i h (run S outer read page i) (run_within i (omega arith))

  outcome_within : (k : ℕ) → k ≤ 4 → (x : State) → Within limit k x → (reported (outcome_of (outcome x))).steps ≤ 252 * limit
  unfolding outcome outcome_of
  outcome_within k h (going cs ls n) w = omega (arith, w.1, mul-le-mul_left limit h)
  outcome_within k h (stopped l) w = omega arith

  decoded_within : levels S ≤ 4 → (reported (outcome_of (decoded S outer read page))).steps ≤ 252 * limit
  unfolding decoded
  decoded_within h = outcome_within (levels S) h (run S outer read page (levels S)) (run_within (levels S) (omega arith))

-- of an allowed limit, up to 2000, at most 504000
abbrev pub FewSteps : ℕ → PageOutcome → Type 0
FewSteps limit o = ((reported o).steps ≤ 252 * limit) × ((reported o).steps ≤ 504000)

-- 01: "all counts summed, a spent column counting the limit": 63 columns at four levels, the limit each
pub steps_are_few : (B : Buffer) (choice : Choice) (soft : List ℕ) (limit : ℕ) (buffer report : List ℕ) → FewSteps limit (page_answer B choice soft limit buffer report)
steps_are_few B choice soft limit buffer report =
    every_way choice soft limit (have_room B buffer report) (FewSteps limit) refused_by (outcome_of (decoded_page choice supercode soft limit)) (λ n p some few near. (omega arith, omega arith)) (λ most.
    let few : (reported (outcome_of (decoded_page choice supercode soft limit))).steps ≤ 252 * limit =
    decoded_within short short_outer (short_reader choice supercode limit) limit (λ i c h. count_within_the_limit limit i h (short_reader choice supercode limit) (short_readers_read_words choice supercode limit) c) (soft_columns short_page soft) (omega (arith, as_many_columns short_page soft)) (omega arith)
    in (few, omega (arith, few, most)))
