-- What holds of a refusal and of what follows holds whatever the answer to a question is; and what the answer of all questions says of each. Assumes nothing.
use mathlib.Core.Bool.{Bool, true, false}
use mathlib.Core.Path.{◌≡◌, refl, ap, sym}
use Prim.Native.Nat.{ℕ, ◌<◌}
use borrow.Author.Tests.{leb-false}
use lib.Dec.{leb}
use Rattle.questions.specs.Questions.{ask}
use Rattle.std.specs.Prelude.{Ok, Err, is_ok}
use borrow.Author.Rules.{rules}
use Rattle.questions.specs.declared.refusal.Question.{Question}
use Rattle.questions.specs.Number.{number_of}
use Rattle.questions.specs.Answer.{Outcome, refused, done, number, place}

-- the same, each by its answer
pub by_answer : {A : Type 0} (P : A → Type 0) (t : Bool) (refusal next : A) → (t ≡ false → P refusal) → (t ≡ true → P next) → P (ask t refusal next)
by_answer P true refusal next r n = n refl
by_answer P false refusal next r n = r refl

pub either : {A : Type 0} (P : A → Type 0) (t : Bool) (refusal next : A) → P refusal → P next → P (ask t refusal next)
either P t refusal next r n = by_answer P t refusal next (λ e. r) (λ e. n)

-- question 5 is refused with a place below the count of values
pub first_bad : {A : Type 0} (P : A → Type 0) (count first : ℕ) (refusal next : A) → (first < count → P refusal) → P next → P (ask (leb count first) refusal next)
first_bad P count first refusal next r n = by_answer P (leb count first) refusal next (λ e. r (leb-false count first e)) (λ e. n)

-- ---- the answer of the questions alone: done, or the first no

-- what that answer leads to: what a no gives, or what follows
abbrev pub led : {A : Type 0} → Outcome → (Question → ℕ → A) → A → A
led (Ok v) refusal next = next
led (Err r) refusal next = refusal r.question r.place

-- a question in front of others that the answer of the questions alone leads on from
pub led_on : {A : Type 0} (t : Bool) (q : Question) (p : ℕ) (refusal : Question → ℕ → A) (next : A) (o : Outcome) {rest : A} → rest ≡ led o refusal next → ask t (refusal q p) rest ≡ led (ask t (refused q p) o) refusal next
led_on true q p refusal next o e = e
led_on false q p refusal next o e = refl

no_refusal_is_done : {q : Question} {p : ℕ} → ◌≡◌ {A = Outcome} (refused q p) done → ⊥
no_refusal_is_done e = let z : ◌≡◌ {A = Bool} false true = ap (λ (o : Outcome). is_ok o) e in absurd (search rules)

-- done: it was answered yes, and so were those behind it
pub asked_done : (t : Bool) (q : Question) (p : ℕ) (rest : Outcome) → ask t (refused q p) rest ≡ done → (t ≡ true) × (rest ≡ done)
asked_done true q p rest e = (refl, e)
asked_done false q p rest e = absurd (no_refusal_is_done e)

-- refused by another question: it was answered yes
pub asked_further : (t : Bool) (q : Question) (p : ℕ) (r : Question) (s : ℕ) (rest : Outcome) → ask t (refused q p) rest ≡ refused r s → (number_of q ≡ number_of r → ⊥) → (t ≡ true) × (rest ≡ refused r s)
asked_further true q p r s rest e other = (refl, e)
asked_further false q p r s rest e other = absurd (other (ap number e))

-- the last question was answered no
pub asked_last : (t : Bool) (q : Question) (p : ℕ) (r : Question) (s : ℕ) → ask t (refused q p) done ≡ refused r s → (t ≡ false) × (p ≡ s)
asked_last true q p r s e = absurd (no_refusal_is_done (sym e))
asked_last false q p r s e = (refl, ap place e)
