-- 02, point 1: list of two over any tree: the search that may go on to a second word. Assumes nothing.
use Rattle.std.specs.Prelude.{Bool, true, false, cond, not, ◌&&◌, ◌≡◌, ℕ, ◌+◌, ◌-◌, leb, ℤ}
use Rattle.std.specs.Int.Signed.{lt_z}
use Rattle.paths.specs.Paths.{Path, same}
use Rattle.paths.specs.Order.{Ahead}
use Rattle.paths.specs.Tree.{Tree, is_full, Full}
use Rattle.paths.specs.Search.{SearchResult, answer, spent, after, run, limited_search}

-- how a search for two words ends
pub data Ending (A : Type 0) : Type 0 where
  -- the hard reading is a word, and nothing is searched
  unsearched : A → Ending A
  -- the limit ended the first search
  first_spent : ℕ → Ending A
  -- the first word and its count; no second was sought
  one_word : A → ℕ → Ending A
  -- the first word; the limit ended the second search
  second_spent : A → Ending A
  -- the first and the second word, and the count of both
  found_two : A → A → ℕ → Ending A

-- what the second search came to, after the first word
unfoldable pub after_second : {A : Type 0} → A → SearchResult A → Ending A
after_second w (answer v c) = found_two w v c
after_second w (spent c) = second_spent w

module _ {A : Type 0} (sum : A → ℤ) where
  -- 02: "the larger sum wins, the first on a tie"
  unfoldable pub larger : A → A → A
  larger w v = cond (lt_z (sum w) (sum v)) v w

  -- 02: "returned with 0 steps"; "Limit and count cover both words together."; "If the limit ends the second search, the first word stands and the count is the limit."
  unfoldable pub returned : ℕ → Ending A → SearchResult A
  returned limit (unsearched w) = answer w 0
  returned limit (first_spent c) = spent c
  returned limit (one_word w c) = answer w c
  returned limit (second_spent w) = answer w limit
  returned limit (found_two w v c) = answer (larger w v) c

  -- 02: "if the first word's sum is below a threshold, the search goes on to a second word"; what it goes on to depends on the count of the first
  unfoldable pub after_first : ℤ → (ℕ → SearchResult A) → SearchResult A → Ending A
  after_first threshold goes_on (answer w c) = cond (lt_z (sum w) threshold) (after_second w (goes_on c)) (one_word w c)
  after_first threshold goes_on (spent c) = first_spent c

-- the limit ended a search, the first or the second
unfoldable pub ended_by_limit : {A : Type 0} → Ending A → Bool
ended_by_limit (unsearched w) = false
ended_by_limit (first_spent c) = true
ended_by_limit (one_word w c) = false
ended_by_limit (second_spent w) = true
ended_by_limit (found_two w v c) = false

-- 02: "where a second word was sought, the dead paths by which the counts differ are those ahead of the second word, and a hard reading returned unsearched has none"
unfoldable pub dead_of_ending : {A : Type 0} → (A → ℕ) → Ending A → ℕ
dead_of_ending dead (unsearched w) = 0
dead_of_ending dead (first_spent c) = 0
dead_of_ending dead (one_word w c) = dead w
dead_of_ending dead (second_spent w) = 0
dead_of_ending dead (found_two w v c) = dead v

-- the ending with the words' keys
unfoldable pub ending_with_key : {A B : Type 0} → (A → B) → Ending A → Ending B
ending_with_key key (unsearched w) = unsearched (key w)
ending_with_key key (first_spent c) = first_spent c
ending_with_key key (one_word w c) = one_word (key w) c
ending_with_key key (second_spent w) = second_spent (key w)
ending_with_key key (found_two w v c) = found_two (key w) (key v) c

-- two answers with the same word; the second takes d more paths
abbrev pub Differ : {A : Type 0} → ℕ → SearchResult A → SearchResult A → Type 0
Differ d (answer w m) (answer v n) = (w ≡ v) × (n ≡ m + d)
Differ d (answer w m) (spent n) = ⊥
Differ d (spent m) (answer v n) = ⊥
Differ d (spent m) (spent n) = ⊥

-- every path but w
unfoldable pub all_but : Path → Path → Bool
all_but w p = not (same p w)

-- the search goes on under the same limit, after the word that was taken as the c-th path
unfoldable pub second_search : Tree → ℕ → ℕ → SearchResult Path
second_search t limit c = run t (λ w. true) (limit - c) (after t c)

-- 02: "A hard reading that is in the code is returned with 0 steps. Otherwise, .."
unfoldable pub list_of_two : Tree → ℤ → Path → ℕ → Ending Path
list_of_two t threshold hard limit = cond (is_full t hard && t.exists hard) (unsearched hard) (after_first t.sum threshold (second_search t limit) (limited_search t limit))

-- 02: the full path that is ahead of all others but the first
pub record Second (t : Tree) (w v : Path) : Type 0 where
  pub full : Full t v
  pub other : v ≡ w → ⊥
  pub ahead_of : (u : Path) → Full t u → (u ≡ w → ⊥) → (u ≡ v → ⊥) → Ahead t.before v u

-- the ending by the numbers m and n of the first and the second word
unfoldable pub ending_by_numbers : (Path → ℤ) → ℤ → ℕ → Bool → Path → Path → Path → ℕ → ℕ → Ending Path
ending_by_numbers sum threshold limit in_code hard w v m n =
    cond in_code (unsearched hard)
    (cond (leb m limit) (cond (lt_z (sum w) threshold) (cond (leb n limit) (found_two w v n) (second_spent w)) (one_word w m)) (first_spent limit))
