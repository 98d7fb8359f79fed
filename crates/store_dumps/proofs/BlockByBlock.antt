-- A question put to blocks one after the other: 01, "7 and 8 go block by block". Assumes nothing.
use mathlib.Core.Path.{◌≡◌, refl, ◌∙◌}
use mathlib.Core.Logic.{⊎_elim}
use Prim.Native.Nat.{ℕ, zero, suc, ◌<◌}
use native.Mathlib.Nat.{eq-or-lt_of_le}
use native.Mathlib.Numerals.{add-one}
use native.Mathlib.Omega.{arith}
use borrow.Author.Count.{below_more}
use Rattle.store_dumps.specs.Dumps.{ask_each}
use Rattle.questions.specs.Answer.{Outcome, done}

module _ (question : ℕ → Outcome → Outcome) where
  -- all are answered yes: what follows is asked
  pub each_passed : (n : ℕ) → ((b : ℕ) → b < n → (next : Outcome) → question b next ≡ next) → (next : Outcome) → ask_each question n next ≡ next
  unfolding ask_each
  each_passed zero good next = refl
  each_passed (suc n) good next = each_passed n (λ b h. good b (omega arith)) (question n next) ∙ good n (omega arith) next

  -- block b is the first that is refused
  pub each_refused : (n b : ℕ) (refusal : Outcome) → b < n → ((a : ℕ) → a < b → (next : Outcome) → question a next ≡ next) → ((next : Outcome) → question b next ≡ refusal)
      → (next : Outcome) → ask_each question n next ≡ refusal
  unfolding ask_each
  each_refused zero b refusal h good bad next = absurd (omega arith)
  each_refused (suc n) b refusal h good bad next =
      ⊎_elim
      (λ (e : b ≡ n). each_passed n (λ a l. good a (omega arith)) (question n next) ∙ rw (← e) (bad next))
      (λ (l : b < n). each_refused n b refusal l good bad (question n next))
      (eq-or-lt_of_le (omega arith))

  -- nothing is refused: every block was answered yes, and nothing that follows is refused
  pub each_done : (Yes : ℕ → Type 0) → ((b : ℕ) (next : Outcome) → question b next ≡ done → Yes b × (next ≡ done)) → (n : ℕ) (next : Outcome) → ask_each question n next ≡ done
      → ((b : ℕ) → b < n → Yes b) × (next ≡ done)
  unfolding ask_each
  each_done Yes told zero next e = (λ b h. absurd (omega arith), e)
  each_done Yes told (suc n) next e =
      let before = each_done Yes told n (question n next) e in
      let last = told n next before.1 in
      (λ b h. below_more Yes n before.0 last.0 b (rw add-one h), last.1)

  -- what holds of each refusal and of what follows holds of the answer
  pub each_keeps : (P : Outcome → Type 0) (n : ℕ) → ((b : ℕ) → b < n → (next : Outcome) → P next → P (question b next)) → (next : Outcome) → P next → P (ask_each question n next)
  unfolding ask_each
  each_keeps P zero keeps next p = p
  each_keeps P (suc n) keeps next p = each_keeps P n (λ b h. keeps b (omega arith)) (question n next) (keeps n (omega arith) next p)
