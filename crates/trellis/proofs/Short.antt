-- Demand 3 for the short page's columns, with the values of the level. Assumes nothing.
use mathlib.Core.List.{List}
use mathlib.Core.Logic.{◌↔◌}
use mathlib.Core.Path.{◌≡◌, refl}
use Prim.Native.Nat.{ℕ, ◌+◌, ◌≤◌, ◌<◌}
use lib.Dec.{lit<}
use Rattle.column.specs.Shape.{short, generator}
use Rattle.column.proofs.Short as Shape
use Rattle.paths.specs.Paths.{Path}
use Rattle.paths.specs.Tree.{number as rank}
use Rattle.paths.specs.Search.{answer, spent}
use Rattle.paths.specs.Dead.{dead_paths_ahead}
use Rattle.trellis.specs.Values.{level_values}
use Rattle.trellis.specs.Order.{sum}
use Rattle.trellis.specs.Trellis.{WordFound, found_word, searched}
use Rattle.trellis.specs.Bounded.{searched_within}
use Rattle.trellis.proofs.Demand as Demand
use Rattle.trellis.proofs.Bounded as Bounded
use Rattle.trellis.specs.Demand.{Search, trellis, whole_trellis, supercode_trellis, AheadOfAll}
use Rattle.trellis.proofs.Demand.{Searchable}

pub searchable : (i : ℕ) → i < 4 → Searchable short i
searchable i h = record { sound = Shape.sound; some_bits = lit< tt; level = h; split = Shape.split i h }

module _ (i : ℕ) (h : i < 4) (soft : List ℕ) where
  pub one_codeword_is_ahead_of_all : (w : Path) × AheadOfAll short (level_values i) soft i w × ((v : Path) → AheadOfAll short (level_values i) soft i v → v ≡ w)
  one_codeword_is_ahead_of_all = Demand.one_codeword_is_ahead_of_all short i (searchable i h) (level_values i) soft

  module _ (s : Search) (w : Path) (best : AheadOfAll short (level_values i) soft i w) (limit : ℕ) where
    pub answers_within_the_limit : rank (trellis s short (level_values i) soft i) w ≤ limit → searched (trellis s short (level_values i) soft i) limit ≡ answer (found_word (sum (level_values i) soft) w) (rank (trellis s short (level_values i) soft i) w)
    answers_within_the_limit = Demand.answers_within_the_limit short i (searchable i h) (level_values i) soft s w best limit

    pub is_spent_above_the_limit : limit < rank (trellis s short (level_values i) soft i) w → searched (trellis s short (level_values i) soft i) limit ≡ spent limit
    is_spent_above_the_limit = Demand.is_spent_above_the_limit short i (searchable i h) (level_values i) soft s w best limit

    pub answer_is_ahead_of_all : (x : WordFound) (c : ℕ) → searched (trellis s short (level_values i) soft i) limit ≡ answer x c
        → (x ≡ found_word (sum (level_values i) soft) w) × (c ≡ rank (trellis s short (level_values i) soft i) w) × (rank (trellis s short (level_values i) soft i) w ≤ limit)
    answer_is_ahead_of_all = Demand.answer_is_ahead_of_all short i (searchable i h) (level_values i) soft s w best limit

    pub is_spent_exactly_above_the_limit : (searched (trellis s short (level_values i) soft i) limit ≡ spent limit) ↔ (limit < rank (trellis s short (level_values i) soft i) w)
    is_spent_exactly_above_the_limit = Demand.is_spent_exactly_above_the_limit short i (searchable i h) (level_values i) soft s w best limit

  pub supercode_answer_is_whole_answer : (w : Path) → AheadOfAll short (level_values i) soft i w → (limit : ℕ) (x : WordFound) (c : ℕ) → searched (supercode_trellis short (level_values i) soft i) limit ≡ answer x c
      → (d : ℕ) × (searched (whole_trellis short (level_values i) soft i) limit ≡ answer x d) × (c ≡ d + dead_paths_ahead (whole_trellis short (level_values i) soft i) (supercode_trellis short (level_values i) soft i) w)
  supercode_answer_is_whole_answer = Demand.supercode_answer_is_whole_answer short i (searchable i h) (level_values i) soft

-- 01: "At level 0 the two searches are one and no path is dead."
module _ (soft : List ℕ) where
  pub level_0_has_no_dead_ahead : (w : Path) → dead_paths_ahead (whole_trellis short (level_values 0) soft 0) (supercode_trellis short (level_values 0) soft 0) w ≡ 0
  unfolding generator
  level_0_has_no_dead_ahead = Demand.no_dead_ahead short 0 (searchable 0 (lit< tt)) (level_values 0) soft refl

  pub level_0_searches_are_one : (limit : ℕ) → searched (supercode_trellis short (level_values 0) soft 0) limit ≡ searched (whole_trellis short (level_values 0) soft 0) limit
  unfolding generator
  level_0_searches_are_one = Demand.searches_are_one short 0 (searchable 0 (lit< tt)) (level_values 0) soft refl

  -- so the stack of a search with some places never runs empty there
  pub level_0_is_never_emptied : (places limit c : ℕ) → 0 < places → (searched_within places (supercode_trellis short (level_values 0) soft 0) limit).result ≡ spent c → c ≡ limit
  unfolding generator
  level_0_is_never_emptied = Bounded.never_emptied short 0 (searchable 0 (lit< tt)) (level_values 0) soft refl
