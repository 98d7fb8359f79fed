-- 02, point 13: the store, stores that the calls made, and what the calls promise. Assumes nothing.
use Rattle.std.specs.Prelude.{cond, List, [], Ok, Err, map, ◌⊎◌, ◌≡◌, ℕ, ◌<◌, ◌≤◌, eqb, pos, length, replicate, get_or, set}
use Rattle.questions.specs.Answer.{refused, done}
use Rattle.questions.specs.Number.{number_of}
use Rattle.questions.specs.declared.refusal.Question.{Question}
use Rattle.questions.specs.declared.refusal.Question.TheVariants.{Spent}
use Rattle.searches.specs.Searches.{SearchAnswer, Answered}
use Rattle.held.specs.Entry.{nothing_held}
use Rattle.held.specs.State.{Stopped}
use Rattle.held.specs.declared.Held.{Held}
use Rattle.store_held.specs.Names.{Kept, free, kept, Names, hold_answer, names_held, ask_take, take_answer, names_taken}
use Rattle.store_held.specs.declared.Store.{Store}
use Rattle.store_held.specs.declared.HeldAnswer.{HeldAnswer}

-- ---- the store

unfoldable pub empty_store : Store
empty_store = record { names = replicate 4 nothing_held }

-- what a name holds; above 3, where no name is, the value that reading outside an array has in the logic
abbrev pub entry : Store → ℕ → Held
entry s k = get_or s.names k (record {
  limit = 0;
  level = 0;
  paths = 0;
  last = 0;
  sum = pos 0;
  low = pos 0;
  len = 0;
  column = [];
  lens = [];
  sums = [];
  bits = [];
})

-- the store with another entry under a name
abbrev pub with_entry : Store → ℕ → Held → Store
with_entry s k h = record { names = set s.names k h }

-- what 02's rules settle of an entry
unfoldable pub kept_of : Held → Kept
kept_of h = cond (eqb h.limit 0) free (kept h.column h.level h.limit)

abbrev pub names_of : Store → Names
names_of s = map kept_of s.names

-- ---- stores that the calls made from the empty one: the empty store is one (`empty_is_made`), and each call makes one of one

-- an entry that the calls made: nothing, or a search that stopped after 1 to 2,000 steps
pub record Made (h : Held) : Type 0 where
  pub made : (h ≡ nothing_held) ⊎ ((1 ≤ h.limit) × (h.limit ≤ 2000) × Stopped h)

pub record MadeStore (s : Store) : Type 0 where
  pub four : length s.names ≡ 4
  pub each : (k : ℕ) → k < 4 → Made (entry s k)

-- ---- the calls

-- A first call, on every store: the answer, what the names hold, and that no byte of the store changes but by a 9, which puts an entry under its name.
-- How the arrays of that entry are filled is left open; they hold the definition's stack after so many steps (`Stopped`).
pub record HoldCall (s : Store) (name : ℕ) (soft : List ℕ) (level limit : ℕ) (r : HeldAnswer) : Type 0 where
  pub answer : Answered (hold_answer name soft level limit) r.answer
  pub names : names_of r.store ≡ names_held r.answer (names_of s) name soft level limit
  pub nine : r.answer ≡ refused Spent 0 → (h : Held) × Stopped h × (r.store ≡ with_entry s name h)
  pub else : (r.answer ≡ refused Spent 0 → ⊥) → r.store ≡ s
  pub made : MadeStore s → MadeStore r.store

-- what is left of a store by an answer of taking up: a word frees the name, a 9 puts an entry under it, one that the calls made in the place of one that they made; any other number leaves the store as it was
abbrev pub Left : SearchAnswer → Store → ℕ → Store → Type 0
Left (Ok f) s name new = new ≡ with_entry s name nothing_held
Left (Err r) s name new =
    let n = number_of r.question in
    (n ≡ 9 → (h : Held) × (new ≡ with_entry s name h) × (Made (entry s name) → Made h)) × ((n ≡ 9 → ⊥) → new ≡ s)

-- what the answer is where all questions before 9 are answered yes, on any store: a word, 9, or 17 for an entry that no search can go on from
abbrev pub Ended : SearchAnswer → Type 0
Ended (Ok f) = Unit {0}
Ended (Err r) = ((number_of r.question ≡ 9) ⊎ (number_of r.question ≡ 17)) × (r.place ≡ 0)

-- Taking up, on every store: the questions, what the names hold by the answer, and which bytes of the store may change. On a store of other making, which of the answers that `Ended` allows is left open.
-- Where the calls made the entry, the answer is that of one search with the summed limit.
pub record TakeCall (s : Store) (name limit : ℕ) (r : HeldAnswer) : Type 0 where
  pub asked : (q : Question) (p : ℕ) → ask_take (names_of s) name limit refused done ≡ refused q p → r.answer ≡ refused q p
  pub ended : ask_take (names_of s) name limit refused done ≡ done → Ended r.answer
  pub names : names_of r.store ≡ names_taken r.answer (names_of s) name limit
  pub left : Left r.answer s name r.store
  pub answer : Made (entry s name) → Answered (take_answer (names_of s) name limit) r.answer
  pub made : MadeStore s → MadeStore r.store
