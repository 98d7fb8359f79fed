-- The next full path that is accepted, and the winner, which is the first of all. Assumes nothing.
use mathlib.Core.Bool.{Bool, true, ◌&&◌}
use mathlib.Core.List.{List, [], ◌∷◌}
use mathlib.Core.Logic.{◌⊎◌, inl, inr}
use mathlib.Core.Path.{◌≡◌, refl, sym, ap, subst, subst⁻¹}
use Prim.Native.Nat.{ℕ, ◌≤◌, ◌<◌}
use native.Mathlib.Omega.{arith}
use native.Mathlib.Decide.{dec_le}
use lib.Dec.{eqb, ltb}
use borrow.Author.Tests.{eqb-true, eq-eqb, ltb-true, lt-ltb}
use lib.ListN.{length}
use Rattle.paths.specs.Lists.{Mem, filter}
use Rattle.paths.specs.Paths.{Path, paths}
use Rattle.paths.specs.Order.{Ahead}
use Rattle.paths.specs.Tree.{Tree, Full, Sound, number, Winner, Next}
use Rattle.paths.proofs.Booleans.{and_both, both_and}
use Rattle.paths.proofs.Lists.{of_filter, in_filter, least}
use Rattle.paths.proofs.Prefixes.{path_dec}
use Rattle.paths.proofs.Paths.{in_paths, of_paths}
use Rattle.paths.proofs.Ahead.{not_both_ahead}
use Rattle.paths.proofs.Number.{number_is_positive}
use Rattle.paths.proofs.Words.{number_names_one, ahead_is_earlier, ahead_exactly_if_smaller_number}

module _ (t : Tree) (sound : Sound t) where
  -- ---- the next accepted full path

  candidate : (Path → Bool) → ℕ → Path → Bool
  candidate accept k p = (eqb (length p) t.size && t.exists p) && (accept p && ltb k (number t p))

  candidates : (Path → Bool) → ℕ → List Path
  candidates accept k = filter (candidate accept k) (paths t.size)

  of_candidates : (accept : Path → Bool) (k : ℕ) (w : Path) → Mem w (candidates accept k) → Full t w × (accept w ≡ true) × (k < number t w)
  unfolding candidates candidate
  of_candidates accept k w m =
      let h = of_filter (candidate accept k) (paths t.size) w m in
      let a = and_both (eqb (length w) t.size && t.exists w) (accept w && ltb k (number t w)) h.1 in
      let b = and_both (eqb (length w) t.size) (t.exists w) a.0 in
      let c = and_both (accept w) (ltb k (number t w)) a.1 in (
        record {
          there = record { some_bit = (of_paths t.size w h.0).0; in_tree = b.1 };
          long = eqb-true (length w) t.size b.0;
        },
        c.0,
        ltb-true k (number t w) c.1,
      )

  in_candidates : (accept : Path → Bool) (k : ℕ) (w : Path) → Full t w → accept w ≡ true → k < number t w → Mem w (candidates accept k)
  unfolding candidates candidate
  in_candidates accept k w f a l =
      in_filter (candidate accept k) (paths t.size) w (in_paths t.size w f.there.some_bit (sound.short w f.there.in_tree))
      (both_and (eqb (length w) t.size && t.exists w) (accept w && ltb k (number t w))
      (both_and (eqb (length w) t.size) (t.exists w) (eq-eqb (length w) t.size f.long) f.there.in_tree)
      (both_and (accept w) (ltb k (number t w)) a (lt-ltb k (number t w) l)))

  pub next_or_none : (accept : Path → Bool) (k : ℕ) → ((w : Path) × Next t accept k w) ⊎ ((v : Path) → Full t v → accept v ≡ true → number t v ≤ k)
  next_or_none accept k = go (candidates accept k) refl
    where
      next : (z : Path) → Mem z (candidates accept k) → (w : Path) × Next t accept k w
      next z m =
          let l = least (number t) z (candidates accept k) m in
          let h = of_candidates accept k l.0 l.1 in
          (l.0, record { full = h.0; accepted = h.1; above = h.2; smallest = λ v f a b. l.2 v (in_candidates accept k v f a b) })

      low : candidates accept k ≡ [] → (v : Path) → Full t v → accept v ≡ true → Dec (number t v ≤ k) → number t v ≤ k
      low e v f a (yes l) = l
      low e v f a (no l) = absurd (subst (λ (l : List Path). Mem v l) e (in_candidates accept k v f a (omega arith)))

      go : (l : List Path) → candidates accept k ≡ l → ((w : Path) × Next t accept k w) ⊎ ((v : Path) → Full t v → accept v ≡ true → number t v ≤ k)
      go [] e = inr (λ v f a. low e v f a (dec_le (number t v) k))
      go (z ∷ l) e = inl (next z (subst⁻¹ (λ (l : List Path). Mem z l) e (inl refl)))

  -- it is ahead of all others that are accepted and come later
  pub next_is_ahead : (accept : Path → Bool) (k : ℕ) (w : Path) → Next t accept k w → (v : Path) → Full t v → accept v ≡ true → k < number t v → (v ≡ w → ⊥) → Ahead t.before w v
  next_is_ahead accept k w n v f a l ne = (ahead_exactly_if_smaller_number t sound w v n.full f (λ e. ne (sym e))).1 (less (dec_le (number t v) (number t w)))
    where
      less : Dec (number t v ≤ number t w) → number t w < number t v
      less (yes b) = absurd (ne (number_names_one t sound v w f n.full (omega (arith, n.smallest v f a l))))
      less (no b) = omega arith

  -- ---- the winner

  pub winner_has_smallest_number : (w : Path) → Winner t w → (v : Path) → Full t v → number t w ≤ number t v
  winner_has_smallest_number w win v fv = go (path_dec v w)
    where
      go : Dec (v ≡ w) → number t w ≤ number t v
      go (yes e) = omega (arith, ap (number t) e)
      go (no ne) = omega (arith, ahead_is_earlier t sound w v win.full fv (win.ahead_of v fv ne))

  -- the winner is the first of all full paths
  pub winner_is_next : (w : Path) → Winner t w → Next t (λ p. true) 0 w
  winner_is_next w win =
      record {
        full = win.full;
        accepted = refl;
        above = number_is_positive t sound w win.full;
        smallest = λ v f e l. winner_has_smallest_number w win v f;
      }

  pub next_is_winner : (w : Path) → Next t (λ p. true) 0 w → Winner t w
  next_is_winner w n = record { full = n.full; ahead_of = λ v f ne. next_is_ahead (λ p. true) 0 w n v f refl (number_is_positive t sound v f) ne }

  -- exactly one full path is ahead of all others
  pub there_is_a_winner : (w : Path) × Winner t w
  there_is_a_winner = go (next_or_none (λ p. true) 0)
    where
      go : ((w : Path) × Next t (λ p. true) 0 w) ⊎ ((v : Path) → Full t v → true ≡ true → number t v ≤ 0) → (w : Path) × Winner t w
      go (inl (w, n)) = (w, next_is_winner w n)
      go (inr none) = let f = sound.some_full in absurd (omega (arith, none f.0 f.1 refl, number_is_positive t sound f.0 f.1))

  pub winner_is_unique : (v w : Path) → Winner t v → Winner t w → v ≡ w
  winner_is_unique v w a b = go (path_dec v w)
    where
      go : Dec (v ≡ w) → v ≡ w
      go (yes e) = e
      go (no ne) = absurd (not_both_ahead t.before sound.order v w (a.ahead_of w b.full (λ e. ne (sym e))) (b.ahead_of v a.full ne))
