-- 01: "a definition gives this paper's number and values for each of its cases, and the promises use that definition": of every answer the number and the place, and of an answer with one
-- value that value. Number 0: nothing is refused. And what a call that fills a lent buffer promises. Assumes nothing.
use Rattle.std.specs.Prelude.{◌≡◌, ℕ, List, Result, Ok, Err, ⊤}
use Rattle.questions.specs.declared.refusal.Question.{Question}
use Rattle.questions.specs.declared.refusal.Refusal.{Refusal}
use Rattle.questions.specs.Number.{number_of}

-- an answer with a value, and one of a call that fills a lent buffer
abbrev pub Answer : Type 0
Answer = Result ℕ Refusal

abbrev pub Outcome : Type 0
Outcome = Result ⊤ Refusal

-- what a no gives, and what a call that fills a lent buffer answers where there is none
abbrev pub refused : {A : Type 0} → Question → ℕ → Result A Refusal
refused question place = Err (record { question = question; place = place })

abbrev pub done : Outcome
done = Ok tt

abbrev pub number : {A : Type 0} → Result A Refusal → ℕ
number (Ok v) = 0
number (Err r) = number_of r.question

abbrev pub place : {A : Type 0} → Result A Refusal → ℕ
place (Ok v) = 0
place (Err r) = r.place

abbrev pub value : Answer → ℕ
value (Ok v) = v
value (Err r) = 0

-- a call that is due to answer `due` answered r: the answer, its number, place and value
pub record Answered (due r : Answer) : Type 0 where
  pub answer : r ≡ due
  pub number : number r ≡ number due
  pub place : place r ≡ place due
  pub value : value r ≡ value due

-- 01: "The first no gives its number and a place .. and buffers stay untouched"
abbrev pub after : Outcome → List ℕ → List ℕ → List ℕ
after (Ok v) made old = made
after (Err r) made old = old

-- A call that is due to answer `due`, and to make `made` where it does not refuse, answered r and left `new` in the place of `old`: the answer, its number and place, and the bytes.
pub record Filled (due : Outcome) (made old : List ℕ) (r : Outcome) (new : List ℕ) : Type 0 where
  pub answer : r ≡ due
  pub number : number r ≡ number due
  pub place : place r ≡ place due
  pub bytes : new ≡ after due made old
