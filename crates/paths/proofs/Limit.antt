-- The search with a limit finds the winner exactly if its number is within the limit. Assumes nothing.
use mathlib.Core.Bool.{true}
use mathlib.Core.Path.{◌≡◌, sym, ap, ◌∙◌}
use Prim.Native.Nat.{ℕ, ◌≤◌, ◌<◌}
use native.Mathlib.Omega.{arith}
use native.Mathlib.Nat.{zero-add}
use native.Mathlib.Decide.{dec_le}
use Rattle.paths.specs.Paths.{Path}
use Rattle.paths.specs.Tree.{Tree, Sound, number, Winner}
use Rattle.paths.specs.Search.{State, answer, spent, after, run, limited_search}
use Rattle.paths.proofs.Steps.{after_zero}
use Rattle.paths.proofs.Winner.{there_is_a_winner, winner_is_next, next_is_winner}
use Rattle.paths.proofs.Run.{answer_is_not_spent, run_finds_the_next, run_is_spent_before_the_next, answer_is_the_next}

module _ (t : Tree) (sound : Sound t) where
  from_start : (limit : ℕ) → limited_search t limit ≡ run t (λ p. true) limit (after t 0)
  unfolding limited_search
  from_start limit = ap (λ (s : State). run t (λ p. true) limit s) (sym (after_zero t))

  pub winner_within_the_limit_is_the_answer : (w : Path) → Winner t w → (limit : ℕ) → number t w ≤ limit → limited_search t limit ≡ answer w (number t w)
  winner_within_the_limit_is_the_answer w win limit l =
      from_start limit ∙ run_finds_the_next t sound (λ p. true) limit 0 w (winner_is_next t sound w win) (omega arith)

  pub winner_beyond_the_limit_spends_it : (w : Path) → Winner t w → (limit : ℕ) → limit < number t w → limited_search t limit ≡ spent limit
  winner_beyond_the_limit_spends_it w win limit l =
      from_start limit ∙ run_is_spent_before_the_next t sound (λ p. true) limit 0 w (winner_is_next t sound w win) (omega arith) ∙ ap spent (zero-add limit)

  -- an answer is the winner, with its number
  pub answer_is_the_winner : (w : Path) (c limit : ℕ) → limited_search t limit ≡ answer w c → Winner t w × (c ≡ number t w) × (number t w ≤ limit)
  answer_is_the_winner w c limit e =
      let r = answer_is_the_next t sound (λ p. true) limit 0 w c (sym (from_start limit) ∙ e) in (
        next_is_winner t sound w r.0,
        r.1,
        omega (arith, r.2),
      )

  -- a spent search has taken limit-many paths, and the winner's number is above the limit
  pub spent_is_below_the_winner : (c limit : ℕ) → limited_search t limit ≡ spent c → (c ≡ limit) × ((w : Path) → Winner t w → limit < number t w)
  spent_is_below_the_winner c limit e = (let f = there_is_a_winner t sound in exact f.0 f.1 (above f.0 f.1 (within f.0)), λ w win. above w win (within w))
    where
      within : (w : Path) → Dec (number t w ≤ limit)
      within w = dec_le (number t w) limit

      above : (w : Path) → Winner t w → Dec (number t w ≤ limit) → limit < number t w
      above w win (yes l) = answer_is_not_spent w (number t w) c (sym (winner_within_the_limit_is_the_answer w win limit l) ∙ e)
      above w win (no l) = omega arith

      exact : (w : Path) → Winner t w → limit < number t w → c ≡ limit
      exact w win l = let d : spent c ≡ spent limit = sym e ∙ winner_beyond_the_limit_spends_it w win limit l in cc d
