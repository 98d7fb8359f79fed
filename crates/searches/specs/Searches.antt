-- 01: the answers of the column searches; 02, point 1: with list of two. Assumes nothing.
use Rattle.std.specs.Prelude.{List, Option, None, Some, Result, Ok, Err, ◌≡◌, ℕ, ◌≤◌, ◌<◌, eqb, ltb, leb, ℤ, pos, length, get_or}
use Rattle.column.specs.Shape.{short}
use Rattle.paths.specs.Search.{SearchResult, answer, spent}
use Rattle.trellis.specs.Values.{level_values}
use Rattle.trellis.specs.Demand.{Search}
use Rattle.trellis.specs.Trellis.{WordFound}
use Rattle.trellis.specs.TwoWords.{Choice, threshold_allowed, searched_by}
use Rattle.search.specs.declared.Found.{Found}
use Rattle.questions.specs.Questions.{ask, first_above}
use Rattle.questions.specs.Answer.{refused}
pub use Rattle.questions.specs.Answer.{number, place}
use Rattle.questions.specs.declared.refusal.Question.{Question}
use Rattle.questions.specs.declared.refusal.Question.TheVariants.{InputLength, Level, Limit, Range, Spent, Threshold}
use Rattle.questions.specs.declared.refusal.Refusal.{Refusal}

-- what a column search answers
abbrev pub SearchAnswer : Type 0
SearchAnswer = Result Found Refusal

-- a word, the count and the low point
abbrev pub found : ℕ → ℕ → ℤ → SearchAnswer
found w c z = Ok (record { word = w; count = c; low = z })

-- what an answer is in 01's and 02's words beside its number and place (crate questions): the word, the count and the low point; a refusal has 0
abbrev pub word : SearchAnswer → ℕ
word (Ok f) = f.word
word (Err r) = 0

abbrev pub count : SearchAnswer → ℕ
count (Ok f) = f.count
count (Err r) = 0

abbrev pub low : SearchAnswer → ℤ
low (Ok f) = f.low
low (Err r) = pos 0

-- a search that is due to answer `due` answered r: the answer, its number, place, word, count and low point
pub record Answered (due r : SearchAnswer) : Type 0 where
  pub answer : r ≡ due
  pub number : number r ≡ number due
  pub place : place r ≡ place due
  pub word : word r ≡ word due
  pub count : count r ≡ count due
  pub low : low r ≡ low due

-- an answer's number, place, word, count and low point
abbrev pub Is : SearchAnswer → ℕ → ℕ → ℕ → ℕ → ℤ → Type 0
Is a n p w c z = (number a ≡ n) × (place a ≡ p) × (word a ≡ w) × (count a ≡ c) × (low a ≡ z)

-- demand 3: an "allowed soft column, level and limit": questions 1, 3, 4 and 5 are answered yes
pub record Allowed (i : ℕ) (soft : List ℕ) (limit : ℕ) : Type 0 where
  pub full : length soft ≡ 30
  pub level : i < 4
  pub some : 1 ≤ limit
  pub most : limit ≤ 2000
  pub range : (k : ℕ) → k < 30 → get_or soft k 0 ≤ 7

-- 9: "Did a column search end within the limit?"
unfoldable pub outcome_answer : SearchResult WordFound → SearchAnswer
outcome_answer (answer w c) = found w.column c w.low
outcome_answer (spent c) = refused Spent 0

-- 1: 30 values; 3: the level; 4: the limit 1..2,000; 11: with list of two, its threshold; 5: each value 0..7; `refusal` gives what a no gives
abbrev pub ask_search : {A : Type 0} → Choice → ℕ → List ℕ → ℕ → (Question → ℕ → A) → A → A
ask_search choice level soft limit refusal next =
    ask (eqb (length soft) 30) (refusal InputLength 0)
    (ask (ltb level 4) (refusal Level 0)
    (ask (leb 1 limit) (refusal Limit 0)
    (ask (leb limit 2000) (refusal Limit 0)
    (ask (threshold_allowed choice) (refusal Threshold 0)
    (ask (leb 30 (first_above soft 7)) (refusal Range (first_above soft 7))
    next)))))

-- these questions, then 9
abbrev pub search_answer : Choice → Search → ℕ → List ℕ → ℕ → SearchAnswer
search_answer choice s level soft limit = ask_search choice level soft limit refused (outcome_answer (searched_by choice s short (level_values level) limit soft level))

-- ---- For the code's contracts

-- the outcome of the code's search as its answer
abbrev pub as_answer : Option Found → SearchAnswer
as_answer (Some f) = Ok f
as_answer None = refused Spent 0
