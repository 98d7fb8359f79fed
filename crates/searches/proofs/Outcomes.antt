-- A search's outcome as its answer. Assumes nothing.
use mathlib.Core.List.{List}
use mathlib.Core.Path.{◌≡◌, ap, ap₂, ◌∙◌, sym}
use Prim.Native.Nat.{ℕ, ◌≤◌, ◌<◌}
use native.Mathlib.Omega.{arith}
use lib.ListN.{get_or}
use Rattle.std.specs.Prelude.{Option, Some, ℤ}
use Rattle.paths.specs.Search.{SearchResult, answer, spent}
use Rattle.column.specs.Shape.{short}
use Rattle.trellis.specs.Values.{level_values}
use Rattle.trellis.specs.Demand.{Search}
use Rattle.trellis.specs.Trellis.{WordFound}
use Rattle.trellis.specs.TwoWords.{Choice, searched_by}
use Rattle.search.specs.Outcomes.{code_outcome}
use Rattle.search.specs.declared.Found.{Found}
use Rattle.list_of_two.specs.declared.Way.{Way}
use Rattle.list_of_two.specs.Ways.{choice_of}
use Rattle.questions.specs.Questions.{first_above}
use Rattle.questions.specs.Answer.{number, place}
use Rattle.searches.specs.Searches.{SearchAnswer, found, word, count, low, Answered, outcome_answer, as_answer}
use Rattle.questions.proofs.FirstAbove.{below_first}

-- a word that was found is its answer
pub found_answer : {outcome : Option Found} (w c : ℕ) (z y : ℤ) → outcome ≡ Some (record { word = w; count = c; low = z }) → y ≡ z → found w c y ≡ as_answer outcome
found_answer w c z y e same = ap (found w c) same ∙ ap as_answer (sym e)

-- the outcome that the code has of a search is its answer
pub answered_as : (o : SearchResult WordFound) {found : Option Found} → found ≡ code_outcome o → as_answer found ≡ outcome_answer o
unfolding code_outcome outcome_answer
answered_as (answer w c) e = ap as_answer e
answered_as (spent c) e = ap as_answer e

-- the search in a way is that of the choice and limit that the way names
pub by_its_way : (way : Way) (choice : Choice) (limit : ℕ) → choice_of way ≡ choice → way.limit ≡ limit → (s : Search) (soft : List ℕ) (i : ℕ)
    → outcome_answer (searched_by (choice_of way) s short (level_values i) way.limit soft i) ≡ outcome_answer (searched_by choice s short (level_values i) limit soft i)
by_its_way way choice limit same within s soft i = ap₂ (λ (c : Choice) (l : ℕ). outcome_answer (searched_by c s short (level_values i) l soft i)) same within

-- what question 5 leaves for the search to ask
pub asked_range : (soft : List ℕ) → 30 ≤ first_above soft 7 → (k : ℕ) → k < 30 → get_or soft k 0 ≤ 7
asked_range soft good k l = below_first soft 7 k (omega arith)

-- at a call's return
pub answered : {due r : SearchAnswer} → r ≡ due → Answered due r
answered e = record { answer = e; number = ap number e; place = ap place e; word = ap word e; count = ap count e; low = ap low e }
