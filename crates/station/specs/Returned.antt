-- For the code's contracts: what an entry for C returns and leaves. Assumes nothing.
use Rattle.std.specs.Prelude.{List, ◌≡◌, ℕ, ◌+◌, ◌*◌}
use Rattle.questions.specs.Answer.{number, place, after, Outcome}

-- a number and its place as one number; 0 is success
abbrev pub returned : ℕ → ℕ → ℕ
returned n p = n + 256 * p

-- an entry that is due to answer `due`, and to make `made` where it does not refuse, returned r and left `new` in the place of `old`
pub record Returned (due : Outcome) (made old : List ℕ) (r : ℕ) (new : List ℕ) : Type 0 where
  pub answer : r ≡ returned (number due) (place due)
  pub bytes : new ≡ after due made old
