-- The two readers without list of two, by demand 3 for columns: what they find, when they are spent, and by how much they differ. Assumes nothing.
use mathlib.Core.Bool.{false, true≢false}
use mathlib.Core.List.{List}
use mathlib.Core.Path.{◌≡◌, refl, sym, ap, ◌∙◌, subst⁻¹}
use Prim.Native.Nat.{ℕ, ◌≤◌, ◌<◌}
use native.Mathlib.Decide.{dec_le}
use native.Mathlib.Omega.{arith}
use Rattle.column.specs.Shape.{Shape, generator}
use Rattle.paths.specs.Paths.{Path}
use Rattle.paths.specs.Tree.{number as rank}
use Rattle.paths.specs.Dead.{dead_paths_ahead}
use Rattle.paths.proofs.Limit.{winner_within_the_limit_is_the_answer, winner_beyond_the_limit_spends_it}
use Rattle.trellis.specs.Values.{Values}
use Rattle.trellis.specs.Order.{sum}
use Rattle.trellis.specs.Trellis.{WordFound, found_word}
use Rattle.trellis.specs.Demand.{Search as Kind, whole, supercode, trellis, whole_trellis, supercode_trellis, AheadOfAll}
use Rattle.trellis.specs.TwoWords.{off}
use Rattle.trellis.proofs.Demand.{Searchable, trellis_sound, winner_is_ahead_of_all, one_codeword_is_ahead_of_all, ranks_differ_by_the_dead_ahead, no_dead_ahead}
use Rattle.trellis.proofs.Demand
use Rattle.concatenated.specs.Decode.{Reading, found, spent, mark}
use Rattle.concatenated.specs.Readers.{reading_of, reader_of, dead_of, dead_ahead, Apart}

never : {X : Type 0} (w : WordFound) (m n : ℕ) → found w m ≡ spent n → X
never w m n e = let z : ◌≡◌ {A = ℕ} 0 1 = cc in absurd (omega arith)

pub found_inj : (w v : WordFound) (m n : ℕ) → found w m ≡ found v n → (w ≡ v) × (m ≡ n)
found_inj w v m n e = (cc e, cc e)

module _ (S : Shape) (i : ℕ) (given : Searchable S i) (vs : ℕ → Values) (limit : ℕ) (c : List ℕ) where
  module _ (kind : Kind) (w : Path) (best : AheadOfAll S (vs i) c i w) where
    pub finds_within_the_limit : rank (trellis kind S (vs i) c i) w ≤ limit → reader_of off kind S vs limit i c ≡ found (found_word (sum (vs i) c) w) (rank (trellis kind S (vs i) c i) w)
    unfolding reader_of reading_of
    finds_within_the_limit l = ap (reading_of limit) (Demand.answers_within_the_limit S i given (vs i) c kind w best limit l)

    pub is_spent_above_the_limit : limit < rank (trellis kind S (vs i) c i) w → reader_of off kind S vs limit i c ≡ spent limit
    unfolding reader_of reading_of
    is_spent_above_the_limit l = ap (reading_of limit) (Demand.is_spent_above_the_limit S i given (vs i) c kind w best limit l)

    -- the word found is the codeword ahead of all others, with its low point, and its count the number of paths that are prefixes of it or ahead of it
    pub found_is_ahead_of_all : (x : WordFound) (n : ℕ) → reader_of off kind S vs limit i c ≡ found x n
        → (x ≡ found_word (sum (vs i) c) w) × (n ≡ rank (trellis kind S (vs i) c i) w) × (rank (trellis kind S (vs i) c i) w ≤ limit)
    found_is_ahead_of_all x n e = go (dec_le (rank (trellis kind S (vs i) c i) w) limit)
      where
        go : Dec (rank (trellis kind S (vs i) c i) w ≤ limit) → (x ≡ found_word (sum (vs i) c) w) × (n ≡ rank (trellis kind S (vs i) c i) w) × (rank (trellis kind S (vs i) c i) w ≤ limit)
        go (yes l) = let same = found_inj x (found_word (sum (vs i) c) w) n (rank (trellis kind S (vs i) c i) w) (sym e ∙ finds_within_the_limit l) in (same.0, same.1, l)
        go (no l) = never x n limit (sym e ∙ is_spent_above_the_limit (omega arith))

  -- ---- the two searches

  -- the dead paths are those ahead of the codeword that is ahead of all others
  pub dead_ahead_of_the_codeword : (w : Path) → AheadOfAll S (vs i) c i w → rank (supercode_trellis S (vs i) c i) w ≤ limit
      → dead_ahead off S vs limit i c ≡ dead_paths_ahead (whole_trellis S (vs i) c i) (supercode_trellis S (vs i) c i) w
  unfolding dead_ahead dead_of
  dead_ahead_of_the_codeword w best l =
      ap (dead_of (dead_paths_ahead (whole_trellis S (vs i) c i) (supercode_trellis S (vs i) c i)))
      (winner_within_the_limit_is_the_answer (supercode_trellis S (vs i) c i) (trellis_sound S i given (vs i) c supercode) w ((winner_is_ahead_of_all S i given (vs i) c supercode w).1 best) limit l)

  none_dead_if_spent : (w : Path) → AheadOfAll S (vs i) c i w → limit < rank (supercode_trellis S (vs i) c i) w → dead_ahead off S vs limit i c ≡ 0
  unfolding dead_ahead dead_of
  none_dead_if_spent w best l =
      ap (dead_of (dead_paths_ahead (whole_trellis S (vs i) c i) (supercode_trellis S (vs i) c i)))
      (winner_beyond_the_limit_spends_it (supercode_trellis S (vs i) c i) (trellis_sound S i given (vs i) c supercode) w ((winner_is_ahead_of_all S i given (vs i) c supercode w).1 best) limit l)

  apart_within_the_limit : (w : Path) → AheadOfAll S (vs i) c i w → rank (supercode_trellis S (vs i) c i) w ≤ limit
      → Apart (dead_ahead off S vs limit i c) (reader_of off whole S vs limit i c) (reader_of off supercode S vs limit i c)
  apart_within_the_limit w best l =
      let differ = ranks_differ_by_the_dead_ahead S i given (vs i) c w best.codeword in
      let dead = dead_ahead_of_the_codeword w best l in
      subst⁻¹ (λ (r : Reading). Apart (dead_ahead off S vs limit i c) r (reader_of off supercode S vs limit i c)) (finds_within_the_limit whole w best (omega (arith, differ, l)))
      (subst⁻¹ (Apart (dead_ahead off S vs limit i c) (found (found_word (sum (vs i) c) w) (rank (whole_trellis S (vs i) c i) w))) (finds_within_the_limit supercode w best l)
      (refl, omega (arith, differ, dead)))

  -- where the supercode search is not spent, the whole search finds the same word, and its count is smaller by the dead paths ahead of it
  pub searches_differ_by_the_dead_ahead : mark (reader_of off supercode S vs limit i c) ≡ false
      → Apart (dead_ahead off S vs limit i c) (reader_of off whole S vs limit i c) (reader_of off supercode S vs limit i c)
  unfolding mark
  searches_differ_by_the_dead_ahead unspent =
      let r = one_codeword_is_ahead_of_all S i given (vs i) c in go r.0 r.1 (dec_le (rank (supercode_trellis S (vs i) c i) r.0) limit)
    where
      go : (w : Path) → AheadOfAll S (vs i) c i w → Dec (rank (supercode_trellis S (vs i) c i) w ≤ limit)
          → Apart (dead_ahead off S vs limit i c) (reader_of off whole S vs limit i c) (reader_of off supercode S vs limit i c)
      go w best (yes l) = apart_within_the_limit w best l
      go w best (no l) = absurd (true≢false (sym (ap mark (is_spent_above_the_limit supercode w best (omega arith))) ∙ unspent))

  -- 01: "At level 0 the two searches are one and no path is dead": where one of the supercodes is the level's code
  module _ (one_code : (S.supercodes i).left.generator ≡ generator S i) where
    pub no_path_is_dead : dead_ahead off S vs limit i c ≡ 0
    no_path_is_dead = let r = one_codeword_is_ahead_of_all S i given (vs i) c in go r.0 r.1 (dec_le (rank (supercode_trellis S (vs i) c i) r.0) limit)
      where
        go : (w : Path) → AheadOfAll S (vs i) c i w → Dec (rank (supercode_trellis S (vs i) c i) w ≤ limit) → dead_ahead off S vs limit i c ≡ 0
        go w best (yes l) = dead_ahead_of_the_codeword w best l ∙ no_dead_ahead S i given (vs i) c one_code w
        go w best (no l) = none_dead_if_spent w best (omega arith)

    pub the_searches_are_one : reader_of off whole S vs limit i c ≡ reader_of off supercode S vs limit i c
    unfolding reader_of
    the_searches_are_one = ap (reading_of limit) (sym (Demand.searches_are_one S i given (vs i) c one_code limit))
