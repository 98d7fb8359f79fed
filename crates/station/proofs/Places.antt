-- The numbers and places of the answers are small, so that both fit in what an entry returns. Assumes nothing.
use mathlib.Core.Bool.{Bool}
use mathlib.Core.List.{List, map}
use mathlib.Core.Path.{◌≡◌}
use Prim.Native.Nat.{ℕ, zero, suc, ◌/◌, ◌%◌, ◌≤◌, ◌<◌}
use native.Mathlib.Omega.{arith}
use lib.Dec.{eqb}
use lib.ListN.{length}
use Rattle.dump.specs.Block.{fixed_right, check_right}
use Rattle.dump.specs.Dump.{block_at, soft_of}
use Rattle.column.specs.Shape.{Shape, levels}
use Rattle.trellis.specs.Demand.{Search}
use Rattle.trellis.specs.TwoWords.{Choice}
use Rattle.reedsolomon.specs.Search.{OuterAnswer, Found, NoneInReach}
use Rattle.concatenated.specs.Outer.{RowDecoder}
use Rattle.concatenated.specs.Decode.{Reader, Reading, Level, State, going, stopped, decoded_row, settle, onward, run, outcome, decoded}
use Rattle.page.specs.Outcomes.{outcome_of, PageOutcome}
use Rattle.questions.specs.Questions.{first_above}
use Rattle.questions.specs.Answer.{number, place, Outcome, refused as refused_by}
use Rattle.questions.proofs.EitherWay.{either, first_bad}
use Rattle.store_pages.specs.Pages.{encode_page_answer, ask_page, decoded_page}
use Rattle.store_pages.specs.Committing.{no_word_in, commit_answer}
use Rattle.store_pages.proofs.Asked.{every_way}
use Rattle.store_dumps.specs.Dumps.{ask_fixed, ask_check, ask_block, read_answer}
use Rattle.store_dumps.proofs.BlockByBlock.{each_keeps}
use Rattle.station.specs.Returned.{returned}

-- the largest number is 14, and a place is a block, a level or an index of a soft page or of symbols
abbrev pub Small : ℕ → ℕ → Type 0
Small n p = (n ≤ 14) × (p ≤ 1890)

abbrev pub SmallOutcome : Outcome → Type 0
SmallOutcome o = Small (number o) (place o)

abbrev pub SmallPage : PageOutcome → Type 0
SmallPage o = Small (number o) (place o)

-- so the number and the place come back from what an entry returns
pub number_and_place_come_back : (n p : ℕ) → Small n p → (returned n p % 256 ≡ n) × (returned n p / 256 ≡ p)
number_and_place_come_back n p small = (omega (arith, small.0), omega (arith, small.0))

pub encode_small : (bytes out : List ℕ) → SmallOutcome (encode_page_answer bytes out)
encode_small bytes out =
    either SmallOutcome (eqb (length bytes) 150) _ _ (omega arith, omega arith)
    (either SmallOutcome (eqb (length out) 252) _ _ (omega arith, omega arith) (omega arith, omega arith))

-- questions 7 and 8 of a block
block_small : (dump : List ℕ) (b : ℕ) (next : Outcome) → b ≤ 3 → SmallOutcome next → SmallOutcome (ask_block dump b next)
unfolding ask_fixed ask_check
block_small dump b next h small =
    either SmallOutcome (fixed_right (block_at dump b) b) _ _ (omega arith, omega arith)
    (either SmallOutcome (check_right (block_at dump b)) _ _ (omega arith, omega arith) small)

pub read_small : (dump out : List ℕ) → SmallOutcome (read_answer dump out)
read_small dump out =
    either SmallOutcome (eqb (length dump) 2048) _ _ (omega arith, omega arith)
    (either SmallOutcome (eqb (length out) 1890) _ _ (omega arith, omega arith)
    (each_keeps (ask_block dump) SmallOutcome 4 (λ b h next small. block_small dump b next (omega arith) small) _
    (first_bad SmallOutcome 1890 (first_above (soft_of dump) 7) _ _ (λ h. (omega arith, omega arith)) (omega arith, omega arith))))

pub commit_small : (symbols out : List ℕ) → SmallOutcome (commit_answer symbols out)
commit_small symbols out =
    either SmallOutcome (eqb (length symbols) 252) _ _ (omega arith, omega arith)
    (either SmallOutcome (eqb (length out) 150) _ _ (omega arith, omega arith)
    (first_bad SmallOutcome 252 (first_above symbols 63) _ _ (λ h. (omega arith, omega arith))
    (first_bad SmallOutcome 4 (no_word_in symbols) _ _ (λ h. (omega arith, omega arith)) (omega arith, omega arith))))

-- a run that stopped did so at a level that it came to
abbrev StoppedBelow : ℕ → State → Type 0
StoppedBelow k (going cs ls n) = Unit {0}
StoppedBelow k (stopped l) = l < k

module _ (S : Shape) (outer : RowDecoder) (read : Reader) (page : List (List ℕ)) where
  settled_below : (i : ℕ) (cs : List (List ℕ)) (rs : List Reading) (ls : List Level) (n : ℕ) (a : OuterAnswer) → StoppedBelow (suc i) (settle S outer i cs rs ls n a)
  unfolding settle
  settled_below i cs rs ls n NoneInReach = omega arith
  settled_below i cs rs ls n (Found r) = tt

  onward_below : (i : ℕ) (x : State) → StoppedBelow i x → StoppedBelow (suc i) (onward S outer read i x)
  unfolding onward
  onward_below i (stopped l) h = omega arith
  onward_below i (going cs ls n) h = settled_below i cs (map (read i) cs) ls n (decoded_row S outer i (map (read i) cs))

  run_below : (i : ℕ) → StoppedBelow i (run S outer read page i)
  unfolding run
  run_below zero = tt
  run_below (suc i) = onward_below i (run S outer read page i) (run_below i)

  outcome_small : (k : ℕ) → k ≤ 1890 → (x : State) → StoppedBelow k x → SmallPage (outcome_of (outcome x))
  unfolding outcome outcome_of
  outcome_small k few (going cs ls n) h = (omega arith, omega arith)
  outcome_small k few (stopped l) h = (omega arith, omega arith)

  decoded_small : levels S ≤ 1890 → SmallPage (outcome_of (decoded S outer read page))
  unfolding decoded
  decoded_small few = outcome_small (levels S) few (run S outer read page (levels S)) (run_below (levels S))

pub page_small : (choice : Choice) (s : Search) (soft : List ℕ) (limit : ℕ) (room : Bool) → SmallPage (ask_page choice soft limit room refused_by (outcome_of (decoded_page choice s soft limit)))
page_small choice s soft limit room = every_way choice soft limit room SmallPage refused_by (outcome_of (decoded_page choice s soft limit)) (λ n p some few near. (omega (arith, few), near)) (λ most. decoded_small _ _ _ _ (omega arith))
