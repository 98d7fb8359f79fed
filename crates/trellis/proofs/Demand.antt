-- Demand 3 for columns: for every soft column, level and limit, in the whole and the supercode search alike. Assumes nothing.
use mathlib.Core.Bool.{Bool, true, false, cond, not, ◌&&◌, ◌||◌}
use mathlib.Core.List.{List, [], ◌∷◌}
use mathlib.Core.Logic.{◌↔◌, ◌⊎◌}
use mathlib.Core.Path.{◌≡◌, refl, sym, ap, ◌∙◌}
use Prim.Native.Nat.{ℕ, ◌+◌, ◌≤◌, ◌<◌}
use native.Mathlib.Decide.{dec_le}
use native.Mathlib.Omega.{arith}
use lib.ListN.{length}
use Rattle.column.specs.Shape.{Shape, Sound as ShapeSound, Word, levels, generator, level_code}
use Rattle.column.specs.Trellis.{Dead}
use Rattle.column.proofs.Supercodes.{Split, no_dead}
use Rattle.paths.specs.Paths.{Path, prefix, paths}
use Rattle.paths.specs.Order.{ahead, Ahead}
use Rattle.paths.specs.Tree.{Full, Sound, Winner, counted, number as rank}
use Rattle.paths.specs.Search.{answer, spent, after}
use Rattle.paths.specs.Keys.{with_key}
use Rattle.paths.specs.Dead.{dead_and_ahead, dead_paths_ahead}
use Rattle.paths.proofs.Booleans.{and_both, both_and, or_either, either_or, not_is, is_not, is_false}
use Rattle.paths.specs.Lists.{filter}
use Rattle.paths.proofs.Winner.{there_is_a_winner, winner_is_unique}
use Rattle.paths.proofs.Limit.{winner_within_the_limit_is_the_answer, winner_beyond_the_limit_spends_it}
use Rattle.paths.proofs.Run.{answer_is_not_spent}
use Rattle.paths.proofs.Dead.{numbers_differ_by_the_dead_ahead}
use Rattle.paths.proofs.Steps
use Rattle.trellis.specs.Values.{Values}
use Rattle.trellis.specs.Order.{number, sum, before}
use Rattle.trellis.specs.Trellis.{WordFound, found_word, searched}
use Rattle.trellis.specs.Demand.{Search, whole, supercode, trellis, whole_trellis, supercode_trellis, ExistsFor, Codeword, AheadOfAll}
use Rattle.trellis.proofs.Existence.{whole_exists_exactly, supercode_exists_exactly}
use Rattle.trellis.proofs.Sound.{whole_sound, supercode_sound, whole_within_supercode, full_is_codeword_in_whole, full_is_codeword_in_supercode}

-- what is asked of a shape and its level i
pub record Searchable (S : Shape) (i : ℕ) : Type 0 where
  pub sound : ShapeSound S
  pub some_bits : 0 < S.bits
  pub level : i < levels S
  pub split : Split S i

filter_none : (test : Path → Bool) (l : List Path) → ((p : Path) → test p ≡ false) → filter test l ≡ []
unfolding filter
filter_none test [] none = refl
filter_none test (p ∷ l) none = ap (λ (b : Bool). cond b (p ∷ filter test l) (filter test l)) (none p) ∙ filter_none test l none

module _ (S : Shape) (i : ℕ) (given : Searchable S i) (vs : Values) (soft : List ℕ) where
  -- ---- either trellis

  pub exists_for_exactly : (s : Search) (p : Path) → ((trellis s S vs soft i).exists p ≡ true) ↔ ((length p ≤ S.bits) × ExistsFor s S i (length p) (number p))
  exists_for_exactly whole = whole_exists_exactly S vs soft i given.sound given.level
  exists_for_exactly supercode = supercode_exists_exactly S vs soft i given.split

  pub trellis_sound : (s : Search) → Sound (trellis s S vs soft i)
  trellis_sound whole = whole_sound S given.some_bits vs soft i given.sound given.level
  trellis_sound supercode = supercode_sound S given.some_bits vs soft i given.split

  -- the full paths of both are the codewords of the level
  pub full_is_codeword : (s : Search) (w : Path) → Full (trellis s S vs soft i) w ↔ Codeword S i w
  full_is_codeword s w = let both = pair s in (λ f. record { long = (both.0 f).0; word = (both.0 f).1 }, λ c. both.1 (c.long, c.word))
    where
      pair : (s : Search) → Full (trellis s S vs soft i) w ↔ ((length w ≡ S.bits) × Word S.bits (level_code S i) (number w))
      pair whole = full_is_codeword_in_whole S given.some_bits vs soft i given.sound given.level w
      pair supercode = full_is_codeword_in_supercode S given.some_bits vs soft i given.split w

  -- ---- (1) one codeword is ahead of all others, the same for both searches and every limit

  pub winner_is_ahead_of_all : (s : Search) (w : Path) → Winner (trellis s S vs soft i) w ↔ AheadOfAll S vs soft i w
  winner_is_ahead_of_all s w = (
    λ win. record {
      codeword = (full_is_codeword s w).0 win.full;
      ahead_of = λ v c. win.ahead_of v ((full_is_codeword s v).1 c);
    },
    λ best. record {
      full = (full_is_codeword s w).1 best.codeword;
      ahead_of = λ v f. best.ahead_of v ((full_is_codeword s v).0 f);
    },
  )

  pub one_codeword_is_ahead_of_all : (w : Path) × AheadOfAll S vs soft i w × ((v : Path) → AheadOfAll S vs soft i v → v ≡ w)
  one_codeword_is_ahead_of_all =
      let t = trellis whole S vs soft i in
      let sound = trellis_sound whole in
      let first = there_is_a_winner t sound in (
        first.0,
        (winner_is_ahead_of_all whole first.0).0 first.1,
        λ v best. winner_is_unique t sound v first.0 ((winner_is_ahead_of_all whole v).1 best) first.1,
      )

  -- ---- (2) what `rank` counts: the trellis's paths that are prefixes of the word or ahead of it

  pub counted_exactly : (s : Search) (w p : Path)
      → (counted (trellis s S vs soft i) w p ≡ true) ↔ ((length p ≤ S.bits) × ExistsFor s S i (length p) (number p) × ((prefix p w ≡ true) ⊎ Ahead (before vs soft) p w))
  unfolding counted
  counted_exactly s w p = (
    λ e.
        let h = and_both ((trellis s S vs soft i).exists p) (prefix p w || ahead (before vs soft) p w) e in
        let x = (exists_for_exactly s p).0 h.0 in
        (x.0, x.1, or_either (prefix p w) (ahead (before vs soft) p w) h.1),
    λ h.
        both_and ((trellis s S vs soft i).exists p) (prefix p w || ahead (before vs soft) p w) ((exists_for_exactly s p).1 (h.0, h.1))
        (either_or (prefix p w) (ahead (before vs soft) p w) h.2),
  )

  -- ---- (3) the outcome of a search

  module _ (s : Search) (w : Path) (best : AheadOfAll S vs soft i w) (limit : ℕ) where
    pub answers_within_the_limit : rank (trellis s S vs soft i) w ≤ limit → searched (trellis s S vs soft i) limit ≡ answer (found_word (sum vs soft) w) (rank (trellis s S vs soft i) w)
    unfolding with_key
    answers_within_the_limit l =
        ap (with_key (found_word (sum vs soft))) (winner_within_the_limit_is_the_answer (trellis s S vs soft i) (trellis_sound s) w ((winner_is_ahead_of_all s w).1 best) limit l)

    pub is_spent_above_the_limit : limit < rank (trellis s S vs soft i) w → searched (trellis s S vs soft i) limit ≡ spent limit
    unfolding with_key
    is_spent_above_the_limit l =
        ap (with_key (found_word (sum vs soft))) (winner_beyond_the_limit_spends_it (trellis s S vs soft i) (trellis_sound s) w ((winner_is_ahead_of_all s w).1 best) limit l)

    -- an answer is that word with its low point, and its count is that number
    pub answer_is_ahead_of_all : (x : WordFound) (c : ℕ) → searched (trellis s S vs soft i) limit ≡ answer x c
        → (x ≡ found_word (sum vs soft) w) × (c ≡ rank (trellis s S vs soft i) w) × (rank (trellis s S vs soft i) w ≤ limit)
    answer_is_ahead_of_all x c e = go (dec_le (rank (trellis s S vs soft i) w) limit)
      where
        go : Dec (rank (trellis s S vs soft i) w ≤ limit) → (x ≡ found_word (sum vs soft) w) × (c ≡ rank (trellis s S vs soft i) w) × (rank (trellis s S vs soft i) w ≤ limit)
        go (yes l) = let f : answer x c ≡ answer (found_word (sum vs soft) w) (rank (trellis s S vs soft i) w) = sym e ∙ answers_within_the_limit l in (cc f, cc f, l)
        go (no l) = answer_is_not_spent x c limit (sym e ∙ is_spent_above_the_limit (omega arith))

    -- a spent search has taken limit-many paths
    pub spent_is_above_the_limit : (c : ℕ) → searched (trellis s S vs soft i) limit ≡ spent c → (c ≡ limit) × (limit < rank (trellis s S vs soft i) w)
    spent_is_above_the_limit c e = go (dec_le (rank (trellis s S vs soft i) w) limit)
      where
        go : Dec (rank (trellis s S vs soft i) w ≤ limit) → (c ≡ limit) × (limit < rank (trellis s S vs soft i) w)
        go (yes l) = answer_is_not_spent (found_word (sum vs soft) w) (rank (trellis s S vs soft i) w) c (sym (answers_within_the_limit l) ∙ e)
        go (no l) =
            let above : limit < rank (trellis s S vs soft i) w = omega arith in
            let f : spent c ≡ spent limit = sym e ∙ is_spent_above_the_limit above in (cc f, above)

    pub answers_exactly_within_the_limit : ((x : WordFound) × (c : ℕ) × (searched (trellis s S vs soft i) limit ≡ answer x c)) ↔ (rank (trellis s S vs soft i) w ≤ limit)
    answers_exactly_within_the_limit = (λ h. (answer_is_ahead_of_all h.0 h.1 h.2).2, λ l. (found_word (sum vs soft) w, rank (trellis s S vs soft i) w, answers_within_the_limit l))

    -- demand 3: "the search is spent exactly when that number would be above its limit"
    pub is_spent_exactly_above_the_limit : (searched (trellis s S vs soft i) limit ≡ spent limit) ↔ (limit < rank (trellis s S vs soft i) w)
    is_spent_exactly_above_the_limit = (λ e. (spent_is_above_the_limit limit e).1, is_spent_above_the_limit)

  -- ---- (4) the two searches differ by the dead paths ahead

  -- 01: "It is dead if it begins no word of the level's code."
  pub dead_exactly : (p : Path)
      → (((supercode_trellis S vs soft i).exists p && not ((whole_trellis S vs soft i).exists p)) ≡ true) ↔ ((length p ≤ S.bits) × Dead S i (length p) (number p))
  dead_exactly p = (
    λ e.
        let h = and_both ((supercode_trellis S vs soft i).exists p) (not ((whole_trellis S vs soft i).exists p)) e in
        let x = (exists_for_exactly supercode p).0 h.0 in
        (x.0, (x.1, λ k. not_is ((whole_trellis S vs soft i).exists p) h.1 ((exists_for_exactly whole p).1 (x.0, k)))),
    λ h.
        both_and ((supercode_trellis S vs soft i).exists p) (not ((whole_trellis S vs soft i).exists p)) ((exists_for_exactly supercode p).1 (h.0, h.1.0))
        (is_not ((whole_trellis S vs soft i).exists p) (λ k. h.1.1 ((exists_for_exactly whole p).0 k).1)),
  )

  -- what `dead_paths_ahead` counts
  pub dead_and_ahead_exactly : (w p : Path)
      → (dead_and_ahead (whole_trellis S vs soft i) (supercode_trellis S vs soft i) w p ≡ true) ↔ ((length p ≤ S.bits) × Dead S i (length p) (number p) × Ahead (before vs soft) p w)
  unfolding dead_and_ahead
  dead_and_ahead_exactly w p = (
    λ e.
        let h = and_both ((supercode_trellis S vs soft i).exists p) (not ((whole_trellis S vs soft i).exists p) && ahead (before vs soft) p w) e in
        let k = and_both (not ((whole_trellis S vs soft i).exists p)) (ahead (before vs soft) p w) h.1 in
        let d = (dead_exactly p).0 (both_and ((supercode_trellis S vs soft i).exists p) (not ((whole_trellis S vs soft i).exists p)) h.0 k.0) in
        (d.0, d.1, k.1),
    λ h.
        let d = and_both ((supercode_trellis S vs soft i).exists p) (not ((whole_trellis S vs soft i).exists p)) ((dead_exactly p).1 (h.0, h.1)) in
        both_and ((supercode_trellis S vs soft i).exists p) (not ((whole_trellis S vs soft i).exists p) && ahead (before vs soft) p w) d.0
        (both_and (not ((whole_trellis S vs soft i).exists p)) (ahead (before vs soft) p w) d.1 h.2),
  )

  pub ranks_differ_by_the_dead_ahead : (w : Path) → Codeword S i w
      → rank (supercode_trellis S vs soft i) w ≡ rank (whole_trellis S vs soft i) w + dead_paths_ahead (whole_trellis S vs soft i) (supercode_trellis S vs soft i) w
  ranks_differ_by_the_dead_ahead w c =
      numbers_differ_by_the_dead_ahead (whole_trellis S vs soft i) (supercode_trellis S vs soft i) (trellis_sound whole) (trellis_sound supercode)
      (whole_within_supercode S given.some_bits vs soft i given.sound given.level given.split) w ((full_is_codeword supercode w).1 c)

  -- where the supercode search answers, the whole search answers with the same word and low point and a count smaller by the dead paths ahead of it
  pub supercode_answer_is_whole_answer : (w : Path) → AheadOfAll S vs soft i w → (limit : ℕ) (x : WordFound) (c : ℕ) → searched (supercode_trellis S vs soft i) limit ≡ answer x c
      → (d : ℕ) × (searched (whole_trellis S vs soft i) limit ≡ answer x d) × (c ≡ d + dead_paths_ahead (whole_trellis S vs soft i) (supercode_trellis S vs soft i) w)
  supercode_answer_is_whole_answer w best limit x c e =
      let r = answer_is_ahead_of_all supercode w best limit x c e in
      let differ = ranks_differ_by_the_dead_ahead w best.codeword in (
        rank (whole_trellis S vs soft i) w,
        answers_within_the_limit whole w best limit (omega (arith, differ, r.2)) ∙ ap (λ (y : WordFound). answer y (rank (whole_trellis S vs soft i) w)) (sym r.0),
        r.1 ∙ differ,
      )

  -- where the whole search is spent, so is the supercode search
  pub whole_spent_is_supercode_spent : (limit : ℕ) → searched (whole_trellis S vs soft i) limit ≡ spent limit → searched (supercode_trellis S vs soft i) limit ≡ spent limit
  whole_spent_is_supercode_spent limit e =
      let r = one_codeword_is_ahead_of_all in
      is_spent_above_the_limit supercode r.0 r.1 limit
      (omega (arith, ranks_differ_by_the_dead_ahead r.0 r.1.codeword, (spent_is_above_the_limit whole r.0 r.1 limit limit e).1))

  -- 01: "At level 0 the two searches are one and no path is dead": so wherever one of the supercodes is the level's code
  module _ (one_code : (S.supercodes i).left.generator ≡ generator S i) where
    pub no_dead_ahead : (w : Path) → dead_paths_ahead (whole_trellis S vs soft i) (supercode_trellis S vs soft i) w ≡ 0
    unfolding dead_paths_ahead
    no_dead_ahead w =
        ap length
        (filter_none (dead_and_ahead (whole_trellis S vs soft i) (supercode_trellis S vs soft i) w) (paths S.bits)
        (λ p. is_false (dead_and_ahead (whole_trellis S vs soft i) (supercode_trellis S vs soft i) w p) (λ e. no_dead S i one_code (length p) (number p) ((dead_and_ahead_exactly w p).0 e).1)))

    pub searches_are_one : (limit : ℕ) → searched (supercode_trellis S vs soft i) limit ≡ searched (whole_trellis S vs soft i) limit
    searches_are_one limit = let r = one_codeword_is_ahead_of_all in go r.0 r.1 (dec_le (rank (whole_trellis S vs soft i) r.0) limit)
      where
        same : (w : Path) → AheadOfAll S vs soft i w → rank (supercode_trellis S vs soft i) w ≡ rank (whole_trellis S vs soft i) w
        same w best = omega (arith, ranks_differ_by_the_dead_ahead w best.codeword, no_dead_ahead w)

        go : (w : Path) → AheadOfAll S vs soft i w → Dec (rank (whole_trellis S vs soft i) w ≤ limit) → searched (supercode_trellis S vs soft i) limit ≡ searched (whole_trellis S vs soft i) limit
        go w best (yes l) =
            answers_within_the_limit supercode w best limit (omega (arith, same w best)) ∙ ap (answer (found_word (sum vs soft) w)) (same w best) ∙ sym (answers_within_the_limit whole w best limit l)
        go w best (no l) = is_spent_above_the_limit supercode w best limit (omega (arith, same w best)) ∙ sym (is_spent_above_the_limit whole w best limit (omega arith))

  -- ---- (5) the stack

  pub stack_holds_at_most_k_plus_two : (s : Search) (k : ℕ) → length (after (trellis s S vs soft i) k).stack ≤ k + 2
  stack_holds_at_most_k_plus_two s k = Steps.stack_holds_at_most_k_plus_two (trellis s S vs soft i) k
