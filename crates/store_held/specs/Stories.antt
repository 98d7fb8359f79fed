-- 02, point 13: stories, calls one after the other, each on the store that the one before left. Assumes nothing.
use Rattle.std.specs.Prelude.{cond, ◌&&◌, List, [], ◌∷◌, map, ◌≡◌, ℕ, ◌+◌, eqb}
use Rattle.searches.specs.Searches.{SearchAnswer, number}
use Rattle.store_held.specs.Names.{Names, hold_answer, names_held, take_answer, names_taken}
use Rattle.store_held.specs.Calls.{HoldCall, TakeCall}
use Rattle.store_held.specs.declared.Store.{Store}
use Rattle.store_held.specs.declared.HeldAnswer.{HeldAnswer}

-- a first call: name, column, level and limit; or taking up: name and limit
pub data Call : Type 0 where
  hold : ℕ → List ℕ → ℕ → ℕ → Call
  take : ℕ → ℕ → Call

-- the name of a call
abbrev pub name_of : Call → ℕ
name_of (hold name soft level limit) = name
name_of (take name limit) = name

-- ---- by 02's rules alone

-- what a call answers where the names hold this, and what they hold then
abbrev pub answer_to : Names → Call → SearchAnswer
answer_to names (hold name soft level limit) = hold_answer name soft level limit
answer_to names (take name limit) = take_answer names name limit

abbrev pub names_then : Names → Call → Names
names_then names (hold name soft level limit) = names_held (hold_answer name soft level limit) names name soft level limit
names_then names (take name limit) = names_taken (take_answer names name limit) names name limit

-- the answers of a story, and what the names hold after it
abbrev pub answers_of : Names → List Call → List SearchAnswer
answers_of names [] = []
answers_of names (c ∷ calls) = answer_to names c ∷ answers_of (names_then names c) calls

abbrev pub names_after : Names → List Call → Names
names_after names [] = names
names_after names (c ∷ calls) = names_after (names_then names c) calls

-- the steps that a call adds to the search under a name: the limit of a take-up that ends in 9
abbrev pub added_by : ℕ → Call → SearchAnswer → ℕ
added_by name (hold other soft level limit) a = 0
added_by name (take other limit) a = cond (eqb other name && eqb (number a) 9) limit 0

abbrev pub added : ℕ → Names → List Call → ℕ
added name names [] = 0
added name names (c ∷ calls) = added_by name c (answer_to names c) + added name (names_then names c) calls

-- no call of a story holds another search under the name, or finishes the one that it holds
abbrev pub Spares : ℕ → Call → SearchAnswer → Type 0
Spares name (hold other soft level limit) a = other ≡ name → number a ≡ 9 → ⊥
Spares name (take other limit) a = other ≡ name → number a ≡ 0 → ⊥

abbrev pub Spared : ℕ → Names → List Call → Type 0
Spared name names [] = Unit {0}
Spared name names (c ∷ calls) = Spares name c (answer_to names c) × Spared name (names_then names c) calls

-- ---- by the calls

-- a call on a store gave r
abbrev pub Gave : Store → Call → HeldAnswer → Type 0
Gave s (hold name soft level limit) r = HoldCall s name soft level limit r
Gave s (take name limit) r = TakeCall s name limit r

-- the calls of a story, from a store on, gave these answers and stores
abbrev pub Story : Store → List Call → List HeldAnswer → Type 0
Story s [] [] = Unit {0}
Story s [] (r ∷ given) = ⊥
Story s (c ∷ calls) [] = ⊥
Story s (c ∷ calls) (r ∷ given) = Gave s c r × Story r.store calls given

-- the store that a story leaves
abbrev pub left_by : Store → List HeldAnswer → Store
left_by s [] = s
left_by s (r ∷ given) = left_by r.store given

abbrev pub answers_in : List HeldAnswer → List SearchAnswer
answers_in = map (λ r. r.answer)
