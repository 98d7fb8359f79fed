-- A tree within a larger one: the same winner, and numbers that differ by the dead paths ahead. Assumes nothing.
use mathlib.Core.Bool.{Bool, true, false, not, ◌&&◌, ◌||◌}
use mathlib.Core.Logic.{◌↔◌}
use mathlib.Core.Path.{◌≡◌, refl, sym, ap, ◌∙◌}
use Prim.Native.Nat.{ℕ, ◌+◌, ◌≤◌}
use native.Mathlib.Omega.{arith}
use lib.ListN.{length}
use Rattle.paths.specs.Lists.{Mem, filter}
use Rattle.paths.specs.Paths.{Path, prefix, paths}
use Rattle.paths.specs.Order.{ahead}
use Rattle.paths.specs.Tree.{Tree, Full, Sound, counted, number, Winner}
use Rattle.paths.specs.Search.{answer, spent, limited_search}
use Rattle.paths.specs.Dead.{Within, dead_and_ahead, dead_paths_ahead}
use Rattle.paths.proofs.Booleans.{not_both}
use Rattle.paths.proofs.Lists.{filter_sum}
use Rattle.paths.proofs.Prefixes.{prefix_is}
use Rattle.paths.proofs.Paths.{of_paths}
use Rattle.paths.proofs.Invariant.{prefix_exists}
use Rattle.paths.proofs.Winner.{there_is_a_winner}
use Rattle.paths.proofs.Limit.{winner_within_the_limit_is_the_answer, winner_beyond_the_limit_spends_it, answer_is_the_winner, spent_is_below_the_winner}

-- a and b: exists in the smaller, in the larger tree; c: is a prefix; d: is ahead
counted_or_dead : (a b c d : Bool) → (a ≡ true → b ≡ true) → (c ≡ true → a ≡ true) → (b && (c || d)) ≡ (a && (c || d) || b && (not a && d))
counted_or_dead true true true d ab ca = refl
counted_or_dead true true false true ab ca = refl
counted_or_dead true true false false ab ca = refl
counted_or_dead true false c d ab ca = absurd (not_both false refl (ab refl))
counted_or_dead false b true d ab ca = absurd (not_both false refl (ca refl))
counted_or_dead false true false d ab ca = refl
counted_or_dead false false false d ab ca = refl

not_counted_and_dead : (a b c d : Bool) → (a && c && (b && (not a && d))) ≡ false
not_counted_and_dead true true true d = refl
not_counted_and_dead true false true d = refl
not_counted_and_dead true b false d = refl
not_counted_and_dead false b c d = refl

module _ (small large : Tree) (sound_small : Sound small) (sound_large : Sound large) (within : Within small large) where
  same_ahead : (p w : Path) → ahead small.before p w ≡ ahead large.before p w
  same_ahead p w = ap (λ (before : Path → Path → Bool). ahead before p w) within.same_order

  pub full_in_both : (w : Path) → Full small w ↔ Full large w
  full_in_both w = (λ f. record { there = within.exists_too w f.there; long = f.long ∙ within.same_size }, within.full_too w)

  -- the larger tree's number of a full path is the smaller one's, and the dead paths ahead of it
  pub numbers_differ_by_the_dead_ahead : (w : Path) → Full large w → number large w ≡ number small w + dead_paths_ahead small large w
  unfolding number dead_paths_ahead counted dead_and_ahead
  numbers_differ_by_the_dead_ahead w f =
      filter_sum (counted large w) (counted small w) (dead_and_ahead small large w) (paths large.size) either apart
      ∙ ap (λ (n : ℕ). length (filter (counted small w) (paths n)) + length (filter (dead_and_ahead small large w) (paths large.size))) (sym within.same_size)
    where
      either : (p : Path) → Mem p (paths large.size) → counted large w p ≡ (counted small w p || dead_and_ahead small large w p)
      either p m =
          counted_or_dead (small.exists p) (large.exists p) (prefix p w) (ahead large.before p w)
          (λ e. (within.exists_too p (record { some_bit = (of_paths large.size p m).0; in_tree = e })).in_tree)
          (λ e. (prefix_exists small sound_small p w (prefix_is p w e) ((full_in_both w).1 f).there).in_tree)
          ∙ ap (λ (d : Bool). small.exists p && (prefix p w || d) || dead_and_ahead small large w p) (sym (same_ahead p w))

      apart : (p : Path) → (counted small w p && dead_and_ahead small large w p) ≡ false
      apart p = not_counted_and_dead (small.exists p) (large.exists p) (prefix p w || ahead small.before p w) (ahead large.before p w)

  pub number_is_no_larger : (w : Path) → Full large w → number small w ≤ number large w
  number_is_no_larger w f = omega (arith, numbers_differ_by_the_dead_ahead w f)

  pub both_have_the_same_winner : (w : Path) → Winner small w ↔ Winner large w
  both_have_the_same_winner w = (
    λ win. record {
      full = (full_in_both w).0 win.full;
      ahead_of = λ v f ne. sym (same_ahead w v) ∙ win.ahead_of v ((full_in_both v).1 f) ne;
    },
    λ win. record {
      full = (full_in_both w).1 win.full;
      ahead_of = λ v f ne. same_ahead w v ∙ win.ahead_of v ((full_in_both v).0 f) ne;
    },
  )

  -- where the search of the larger tree answers, that of the smaller one answers with the same word
  pub larger_answer_is_the_smaller_answer : (w : Path) (c limit : ℕ) → limited_search large limit ≡ answer w c
      → (limited_search small limit ≡ answer w (number small w)) × (c ≡ number small w + dead_paths_ahead small large w)
  larger_answer_is_the_smaller_answer w c limit e =
      let r = answer_is_the_winner large sound_large w c limit e in (
        winner_within_the_limit_is_the_answer small sound_small w ((both_have_the_same_winner w).1 r.0) limit (omega (arith, number_is_no_larger w r.0.full, r.2)),
        r.1 ∙ numbers_differ_by_the_dead_ahead w r.0.full,
      )

  -- where the search of the smaller tree is spent, so is that of the larger one
  pub smaller_spent_is_larger_spent : (c limit : ℕ) → limited_search small limit ≡ spent c → limited_search large limit ≡ spent limit
  smaller_spent_is_larger_spent c limit e =
      let h = there_is_a_winner small sound_small in
      let w = h.0 in
      let win = (both_have_the_same_winner w).0 h.1 in
      winner_beyond_the_limit_spends_it large sound_large w win limit (omega (arith, (spent_is_below_the_winner small sound_small c limit e).1 w h.1, number_is_no_larger w win.full))
