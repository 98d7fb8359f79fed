-- 02, point 13: what the names hold, the questions put to the calls, their answers, and what they do to the names. Assumes nothing.
use Rattle.std.specs.Prelude.{Bool, true, false, cond, List, Ok, Err, ℕ, ◌+◌, eqb, ltb, leb, length, replicate, get_or, set}
use Rattle.trellis.specs.Demand.{supercode}
use Rattle.trellis.specs.TwoWords.{off}
use Rattle.questions.specs.Questions.{ask}
use Rattle.questions.specs.Answer.{refused}
use Rattle.questions.specs.Number.{number_of}
use Rattle.questions.specs.declared.refusal.Question.{Question}
use Rattle.questions.specs.declared.refusal.Question.TheVariants.{InputLength, Level, Limit, Name, Held, SummedLimit}
use Rattle.searches.specs.Searches.{SearchAnswer, ask_search, search_answer}

-- what a name holds: nothing, or the supercode search of a column at a level, with its summed limit
pub data Kept : Type 0 where
  free : Kept
  kept : List ℕ → ℕ → ℕ → Kept

-- "four names, 0..3"
abbrev pub Names : Type 0
Names = List Kept

abbrev pub none_kept : Names
none_kept = replicate 4 free

abbrev pub under : Names → ℕ → Kept
under names name = get_or names name free

-- ---- a first call

-- 1, 3; "16, name above 3, asked after 3"; `refusal` gives what a no gives
abbrev pub ask_named : {A : Type 0} → ℕ → List ℕ → ℕ → (Question → ℕ → A) → A → A
ask_named name soft level refusal next = ask (eqb (length soft) 30) (refusal InputLength 0) (ask (ltb level 4) (refusal Level 0) (ask (ltb name 4) (refusal Name 0) next))

-- these, then what the supercode search answers: 4, 5 and 9
abbrev pub hold_answer : ℕ → List ℕ → ℕ → ℕ → SearchAnswer
hold_answer name soft level limit = ask_named name soft level refused (search_answer off supercode level soft limit)

-- "a 9 changes that name only, any other number nothing"; "Holding under a used name replaces the old one"; "A named search that ends in its first call leaves its name as it was"
abbrev pub names_held : SearchAnswer → Names → ℕ → List ℕ → ℕ → ℕ → Names
names_held (Ok f) names name soft level limit = names
names_held (Err r) names name soft level limit = cond (eqb (number_of r.question) 9) (set names name (kept soft level limit)) names

-- ---- taking up

-- 17: "nothing held under it"
abbrev pub is_kept : Kept → Bool
is_kept free = false
is_kept (kept soft level summed) = true

abbrev pub summed_limit : Kept → ℕ
summed_limit free = 0
summed_limit (kept soft level summed) = summed

-- 17; 4: the limit; 18: "the sum of limits above 2,000, asked after 4"
abbrev pub ask_kept : {A : Type 0} → Kept → ℕ → (Question → ℕ → A) → A → A
ask_kept k limit refusal next =
    ask (is_kept k) (refusal Held 0)
    (ask (leb 1 limit) (refusal Limit 0)
    (ask (leb limit 2000) (refusal Limit 0)
    (ask (leb (summed_limit k + limit) 2000) (refusal SummedLimit 0)
    next)))

-- 16, then these: 17 is "asked next"
abbrev pub ask_take : {A : Type 0} → Names → ℕ → ℕ → (Question → ℕ → A) → A → A
ask_take names name limit refusal next = ask (ltb name 4) (refusal Name 0) (ask_kept (under names name) limit refusal next)

-- "Word and count are then those of one search with the summed limit"
abbrev pub kept_answer : Kept → ℕ → SearchAnswer
kept_answer free limit = refused Held 0
kept_answer (kept soft level summed) limit = search_answer off supercode level soft (summed + limit)

abbrev pub take_answer : Names → ℕ → ℕ → SearchAnswer
take_answer names name limit = ask_take names name limit refused (kept_answer (under names name) limit)

-- the same search with more steps
abbrev pub longer : Kept → ℕ → Kept
longer free limit = free
longer (kept soft level summed) limit = kept soft level (summed + limit)

-- "A search spent again stays held with the summed limit; a finished one frees its name"
abbrev pub names_taken : SearchAnswer → Names → ℕ → ℕ → Names
names_taken (Ok f) names name limit = set names name free
names_taken (Err r) names name limit = cond (eqb (number_of r.question) 9) (set names name (longer (under names name) limit)) names

-- ---- For the code's contracts

-- all questions of a first call before 9
abbrev pub ask_hold : {A : Type 0} → ℕ → List ℕ → ℕ → ℕ → (Question → ℕ → A) → A → A
ask_hold name soft level limit refusal next = ask_named name soft level refusal (ask_search off level soft limit refusal next)

-- 17, 4 and 18 of an entry with this limit, 0 where nothing is held
abbrev pub ask_more : {A : Type 0} → ℕ → ℕ → (Question → ℕ → A) → A → A
ask_more summed limit refusal next =
    ask (leb 1 summed) (refusal Held 0)
    (ask (leb 1 limit) (refusal Limit 0)
    (ask (leb limit 2000) (refusal Limit 0)
    (ask (leb (summed + limit) 2000) (refusal SummedLimit 0)
    next)))
