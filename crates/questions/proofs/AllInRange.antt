-- All values of a list in range, and the first value above a bound. Assumes nothing.
use mathlib.Core.Bool.{true}
use mathlib.Core.List.{List, [], ◌∷◌}
use mathlib.Core.Path.{◌≡◌}
use Prim.Native.Nat.{ℕ, suc, ◌<◌, ◌≤◌, suc-le-suc}
use native.Mathlib.Omega.{arith}
use borrow.Author.Tests.{le-leb}
use lib.Dec.{leb}
use lib.ListN.{length, get_or}
use Rattle.questions.specs.Questions.{first_above}

none_above : (s : List ℕ) (top : ℕ) → ((k : ℕ) → k < length s → get_or s k 0 ≤ top) → length s ≤ first_above s top
unfolding first_above
none_above [] top each = omega arith
none_above (x ∷ xs) top each = rw (le-leb x top (each 0 (omega arith))) (suc-le-suc (none_above xs top (λ k h. each (suc k) (suc-le-suc h))))

-- question 5 is answered yes
pub no_value_above : (s : List ℕ) (n top : ℕ) → length s ≡ n → ((k : ℕ) → k < n → get_or s k 0 ≤ top) → leb n (first_above s top) ≡ true
no_value_above s n top size range =
    let all : length s ≤ first_above s top = none_above s top (λ k h. range k (omega arith)) in
    let five : n ≤ first_above s top = omega arith in
    le-leb _ _ five
