-- What every reader gives, with list of two or without: a word found is a word of the level, with its low point, and no count is above the limit. Assumes nothing.
use mathlib.Core.List.{List, [], ◌∷◌, map}
use mathlib.Core.Path.{◌≡◌, refl, sym, ap₂, subst⁻¹}
use Prim.Native.Nat.{ℕ, ◌*◌, ◌^◌, ◌≤◌, ◌<◌}
use native.Mathlib.Omega.{arith}
use lib.IntN.{nat_abs}
use lib.Pow.{pow_pos}
use Rattle.column.specs.Shape.{Shape, Word, level_code, short}
use Rattle.column.proofs.Levels.{reimaged_lt}
use Rattle.paths.specs.Paths.{Path}
use Rattle.paths.specs.Low.{low_point}
use Rattle.paths.specs.Search.{SearchResult, answer}
use Rattle.paths.specs.Search
use Rattle.trellis.specs.Values.{Values, level_values}
use Rattle.trellis.specs.Order.{sum}
use Rattle.trellis.specs.Trellis.{WordFound, found_word}
use Rattle.trellis.specs.Demand.{Search as Kind, Codeword}
use Rattle.trellis.specs.TwoWords.{Choice, off, on, searched_two}
use Rattle.trellis.proofs.Demand.{Searchable, one_codeword_is_ahead_of_all}
use Rattle.trellis.proofs.Sums.{Near, low_point_near}
use Rattle.trellis.proofs.TwoWords.{returned_is_a_word}
use Rattle.trellis.proofs.Short.{searchable}
use Rattle.concatenated.specs.Lists.{All}
use Rattle.concatenated.specs.Decode.{Reading, found, spent, Reader, count, symbol, symbols}
use Rattle.concatenated.specs.Readers.{reading_of, reader_of, short_reader}
use Rattle.concatenated.proofs.Searches.{found_is_ahead_of_all}

-- what is asked of a reader at level i
pub record ReadsWords (S : Shape) (vs : ℕ → Values) (limit : ℕ) (read : Reader) (i : ℕ) : Type 0 where
  pub of_word : (c : List ℕ) (x : WordFound) (n : ℕ) → read i c ≡ found x n → (w : Path) × Codeword S i w × (x ≡ found_word (sum (vs i) c) w) × (n ≤ limit)
  pub spent_at : (c : List ℕ) (n : ℕ) → read i c ≡ spent n → n ≤ limit

module _ (S : Shape) (i : ℕ) (given : Searchable S i) (vs : ℕ → Values) (limit : ℕ) where
  module _ (read : Reader) (reads : ReadsWords S vs limit read i) (c : List ℕ) where
    -- a word found is a word of the level
    pub found_is_a_word : (x : WordFound) (n : ℕ) → read i c ≡ found x n → Word S.bits (level_code S i) x.column
    found_is_a_word x n e = let w = reads.of_word c x n e in subst⁻¹ (λ (y : WordFound). Word S.bits (level_code S i) y.column) w.2 w.1.word

    -- so the symbol that the column enters with is in range
    symbol_in_range : symbol S i (read i c) < 2 ^ S.symbol
    unfolding symbol
    symbol_in_range = go (read i c) refl
      where
        go : (r : Reading) → read i c ≡ r → symbol S i (read i c) < 2 ^ S.symbol
        go (found x n) e = subst⁻¹ (λ (r : Reading). symbol S i r < 2 ^ S.symbol) e (reimaged_lt S given.sound i x.column given.level (found_is_a_word x n e).0)
        go (spent n) e = subst⁻¹ (λ (r : Reading). symbol S i r < 2 ^ S.symbol) e (pow_pos S.symbol)

    pub count_within_the_limit : count (read i c) ≤ limit
    unfolding count
    count_within_the_limit = go (read i c) refl
      where
        go : (r : Reading) → read i c ≡ r → count (read i c) ≤ limit
        go (found x n) e = subst⁻¹ (λ (r : Reading). count r ≤ limit) e (reads.of_word c x n e).3
        go (spent n) e = subst⁻¹ (λ (r : Reading). count r ≤ limit) e (reads.spent_at c n e)

    -- and the low point is near zero, if the values are
    pub found_low_is_near : (k : ℕ) → Near k (vs i) → (x : WordFound) (n : ℕ) → read i c ≡ found x n → nat_abs x.low ≤ k * S.bits
    found_low_is_near k near x n e =
        let w = reads.of_word c x n e in
        subst⁻¹ (λ (y : WordFound). nat_abs y.low ≤ k * S.bits) w.2
        (subst⁻¹ (λ (b : ℕ). nat_abs (low_point (sum (vs i) c) w.0) ≤ k * b) (sym w.1.long) (low_point_near k (vs i) near c w.0 (omega (arith, w.1.long, given.some_bits))))

  -- the symbols of a level's columns are in range
  pub symbols_in_range : (read : Reader) → ReadsWords S vs limit read i → (cs : List (List ℕ)) → All (λ x. x < 2 ^ S.symbol) (symbols S i (map (read i) cs))
  symbols_in_range read reads [] = tt
  symbols_in_range read reads (c ∷ cs) = (symbol_in_range read reads c, symbols_in_range read reads cs)

  -- ---- the readers

  reading_inj : (o : SearchResult WordFound) (x : WordFound) (n : ℕ) → reading_of limit o ≡ found x n → o ≡ answer x n
  unfolding reading_of
  reading_inj (answer y m) x n e = ap₂ (λ (z : WordFound) (k : ℕ). answer z k) (cc e) (cc e)
  reading_inj (Search.spent m) x n e = let z : ◌≡◌ {A = ℕ} 0 1 = cc e in absurd (omega arith)

  reading_spent : (o : SearchResult WordFound) (n : ℕ) → reading_of limit o ≡ spent n → n ≤ limit
  unfolding reading_of
  reading_spent (answer y m) n e = let z : ◌≡◌ {A = ℕ} 0 1 = cc e in absurd (omega arith)
  reading_spent (Search.spent m) n e = let z : limit ≡ n = cc e in omega arith

  pub readers_read_words : (choice : Choice) (kind : Kind) → ReadsWords S vs limit (reader_of choice kind S vs limit) i
  unfolding reader_of
  readers_read_words off kind = record {
    of_word = λ c x n e.
        let best = one_codeword_is_ahead_of_all S i given (vs i) c in
        let is = found_is_ahead_of_all S i given vs limit c kind best.0 best.1 x n e in
        (best.0, best.1.codeword, is.0, omega (arith, is.1, is.2));
    spent_at = λ c n e. reading_spent _ n e;
  }
  readers_read_words (on threshold) kind = record {
    of_word = λ c x n e. returned_is_a_word S i given (vs i) c kind threshold limit x n (reading_inj (searched_two kind S (vs i) threshold limit c i) x n e);
    spent_at = λ c n e. reading_spent _ n e;
  }

-- ---- the short page

-- at every level
abbrev pub ShortReadsWords : ℕ → Reader → Type 0
ShortReadsWords limit read = (i : ℕ) → i < 4 → ReadsWords short level_values limit read i

pub short_readers_read_words : (choice : Choice) (kind : Kind) (limit : ℕ) → ShortReadsWords limit (short_reader choice kind limit)
short_readers_read_words choice kind limit i h = readers_read_words short i (searchable i h) level_values limit choice kind
