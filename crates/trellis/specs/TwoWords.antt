-- 02, point 1: list of two for a column, by either search; the choice of it. Assumes nothing.
use Rattle.std.specs.Prelude.{Bool, true, not, ◌&&◌, List, [], ◌∷◌, ◌≡◌, ℕ, zero, suc, ◌-◌, eqb, ℤ, pos, negsuc, get_or}
use Rattle.std.specs.Int.Signed.{lt_z}
use Rattle.column.specs.Shape.{Shape}
use Rattle.paths.specs.Paths.{Path}
use Rattle.paths.specs.Order.{Ahead}
use Rattle.paths.specs.Search.{SearchResult}
use Rattle.paths.specs.Stack.{extend}
use Rattle.paths.specs.Keys.{WithLow, run_keys, stack_after, low_after, with_key}
use Rattle.paths.specs.TwoWords.{Ending, after_first, list_of_two, returned}
use Rattle.trellis.specs.Values.{Values, reading}
use Rattle.trellis.specs.Order.{sum, before}
use Rattle.trellis.specs.Trellis.{WordFound, found_word, searched}
use Rattle.trellis.specs.Keys.{Key, key, key_nodes, none_taken, key_search}
use Rattle.trellis.specs.Demand.{Search, trellis, Codeword}

-- 02: "as a choice, off by default"; with list of two, its threshold
pub data Choice : Type 0 where
  off : Choice
  on : ℤ → Choice

-- 02: "Turned away: 11, threshold outside −2,000..2,000"; without list of two there is none to ask about
abbrev pub threshold_allowed : Choice → Bool
threshold_allowed off = true
threshold_allowed (on threshold) = not (lt_z threshold (negsuc 1999)) && not (lt_z (pos 2000) threshold)

-- 02: the "hard reading": the bits that the first k soft values read as
unfoldable pub hard_path : List ℕ → ℕ → Path
hard_path soft zero = []
hard_path soft (suc k) = eqb (reading (get_or soft k 0)) 1 ∷ hard_path soft k

-- how the search of a column with list of two ends
unfoldable pub two_words : Search → Shape → Values → ℤ → ℕ → List ℕ → ℕ → Ending Path
two_words s S vs threshold limit soft i = list_of_two (trellis s S vs soft i) threshold (hard_path soft S.bits) limit

-- the word returned, with its low point, and the count; or spent
unfoldable pub searched_two : Search → Shape → Values → ℤ → ℕ → List ℕ → ℕ → SearchResult WordFound
searched_two s S vs threshold limit soft i = with_key (found_word (sum vs soft)) (returned (sum vs soft) limit (two_words s S vs threshold limit soft i))

-- the search of a column, with list of two where it is chosen
abbrev pub searched_by : Choice → Search → Shape → Values → ℕ → List ℕ → ℕ → SearchResult WordFound
searched_by off s S vs limit soft i = searched (trellis s S vs soft i) limit
searched_by (on threshold) s S vs limit soft i = searched_two s S vs threshold limit soft i

-- 02: "the second word is the codeword ahead of all others but the first"
pub record AheadOfAllBut (S : Shape) (vs : Values) (soft : List ℕ) (i : ℕ) (w v : Path) : Type 0 where
  pub codeword : Codeword S i v
  pub other : v ≡ w → ⊥
  pub ahead_of : (u : Path) → Codeword S i u → (u ≡ w → ⊥) → (u ≡ v → ⊥) → Ahead (before vs soft) v u

-- ---- for the code's contracts: on keys

module _ (n : ℕ) (vs : Values) (soft left right : List ℕ) where
  -- the stack of the search on keys before a path is taken
  abbrev pub key_start : List Key
  key_start = extend (key_nodes n vs soft left right) (key (pos 0) 0 0) []

  -- the search on keys goes on under the same limit, after c paths
  unfoldable pub key_search_on : ℕ → ℕ → SearchResult (WithLow Key)
  key_search_on limit c =
      run_keys (key_nodes n vs soft left right) (λ k. true) (limit - c) c (low_after (key_nodes n vs soft left right) c none_taken key_start) (stack_after (key_nodes n vs soft left right) c key_start)

  -- what it returns, where the hard reading is no word
  unfoldable pub key_search_two : ℤ → ℕ → SearchResult (WithLow Key)
  key_search_two threshold limit = returned (λ k. k.key.sum) limit (after_first (λ k. k.key.sum) threshold (key_search_on limit) (key_search n vs soft left right limit))
