-- Demand 3 for pages, and 02, point 1: the decoders by the whole and by the supercode search agree, with list of two or without. Assumes nothing.
use mathlib.Core.List.{List, [], ◌∷◌, map}
use mathlib.Core.Path.{◌≡◌, refl, ap₂}
use Prim.Native.Nat.{ℕ, zero, suc, ◌+◌, ◌≤◌, ◌<◌}
use native.Mathlib.Omega.{arith}
use Rattle.column.specs.Shape.{Shape, levels, generator}
use Rattle.trellis.specs.Values.{Values}
use Rattle.trellis.specs.Demand.{whole, supercode}
use Rattle.trellis.specs.TwoWords.{Choice}
use Rattle.trellis.proofs.Demand.{Searchable}
use Rattle.concatenated.specs.Lists.{All, sum}
use Rattle.concatenated.specs.Outer.{RowDecoder}
use Rattle.concatenated.specs.Decode.{Reader, run, Reaches, AtEveryLevel, decoded}
use Rattle.concatenated.specs.Readers.{reader_of, dead_ahead, Apart, Agree, NoneEnded, sum_over, sum_below}
use Rattle.concatenated.proofs.Lists.{all_map, all_of_each}
use Rattle.concatenated.proofs.TwoWords.{unended_searches_differ_by_the_dead_ahead, no_path_is_dead, one_code_is_apart_by_none}
use Rattle.concatenated.proofs.Agreement.{answers_agree, same_columns}

-- the lowest level has only its code; a symbol has a bit, so that no word is the only one of its level: for list of two
module _ (S : Shape) (searchable : (i : ℕ) → i < levels S → Searchable S i) (some_symbol : 0 < S.symbol) (one_code : (S.supercodes 0).left.generator ≡ generator S 0) (outer : RowDecoder) (choice : Choice) (vs : ℕ → Values) (limit : ℕ) where
  abbrev by_whole : Reader
  by_whole = reader_of choice whole S vs limit

  abbrev by_supercode : Reader
  by_supercode = reader_of choice supercode S vs limit

  abbrev dead : ℕ → List ℕ → ℕ
  dead = dead_ahead choice S vs limit

  module _ (page : List (List ℕ)) (none_ended : NoneEnded choice S outer vs limit page) where
    -- in each column search the whole-trellis decoder's count is smaller by exactly the dead paths ahead: of the codeword; with list of two of the second word where one was sought, of the first where none was, and by none for a hard reading
    pub column_searches_differ_by_the_dead_ahead : AtEveryLevel S outer by_supercode page (λ i. All (λ c. Apart (dead i c) (by_whole i c) (by_supercode i c)))
    column_searches_differ_by_the_dead_ahead zero h cs at =
        all_of_each (λ c. Apart (dead 0 c) (by_whole 0 c) (by_supercode 0 c)) (λ c. one_code_is_apart_by_none S 0 (searchable 0 h) some_symbol vs limit c one_code choice) cs
    column_searches_differ_by_the_dead_ahead (suc i) h cs at =
        all_map cs (λ c unended. unended_searches_differ_by_the_dead_ahead S (suc i) (searchable (suc i) h) some_symbol vs limit c choice unended) (none_ended (suc i) h cs at (omega arith))

    -- the same rows with the same changed and erased columns and low points at each level, or the same refusal; the steps differ by all dead paths ahead together
    pub decoders_agree : Agree (sum_below S outer by_supercode page dead (levels S)) (decoded S outer by_whole page) (decoded S outer by_supercode page)
    decoders_agree = answers_agree S outer by_whole by_supercode dead page column_searches_differ_by_the_dead_ahead

    -- the searches that are compared are those of both decoders
    pub decoders_search_the_same_columns : (i : ℕ) → i ≤ levels S → (cs : List (List ℕ)) → Reaches S outer by_supercode page i cs → Reaches S outer by_whole page i cs
    decoders_search_the_same_columns = same_columns S outer by_whole by_supercode dead page column_searches_differ_by_the_dead_ahead

  -- level 0 adds nothing
  pub no_dead_paths_at_level_0 : 0 < levels S → (page : List (List ℕ)) → sum_below S outer by_supercode page dead 1 ≡ 0
  unfolding sum_below sum_over run sum
  no_dead_paths_at_level_0 h page = omega (arith, none page)
    where
      none : (cs : List (List ℕ)) → sum (map (dead 0) cs) ≡ 0
      none [] = refl
      none (c ∷ cs) = ap₂ ◌+◌ (no_path_is_dead S 0 (searchable 0 h) some_symbol vs limit c one_code choice) (none cs)
