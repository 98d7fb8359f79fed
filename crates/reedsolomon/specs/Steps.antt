-- For the code's contracts: what its steps do to lists of symbols. Assumes nothing.
use Rattle.std.specs.Prelude.{◌≡◌, Bool, true, false, ◌⊎◌, List, ℕ, suc, ◌+◌, ◌-◌, ◌*◌, ◌/◌, ◌^◌, ◌≤◌, ◌<◌}
use Rattle.poly.specs.Polynomial.{add}
use Rattle.field.specs.Element.{mul, inverse, α}
use Rattle.reedsolomon.specs.Sums.{sum, power, value, position, reversed}
use Rattle.reedsolomon.specs.Words.{Elements, NonZero, syndrome, count}
use Rattle.reedsolomon.specs.ModifiedSyndromes.{Left}
use Rattle.reedsolomon.specs.Encoding.{Generator, Divided}
use Rattle.reedsolomon.specs.Elimination.{Reduced, Slots, Stopped}
use Rattle.reedsolomon.specs.Decoding.{Correction}
use Rattle.reedsolomon.specs.Row.{symbol, Symbols, marked}

-- the first n entries are as f says
abbrev pub Entries : ℕ → (ℕ → ℕ) → List ℕ → Type 0
Entries n f a = (i : ℕ) → i < n → symbol a i ≡ f i

-- the first n entries are as f says, the others as they were
pub record Written (n : ℕ) (f : ℕ → ℕ) (old new : List ℕ) : Type 0 where
  pub written : (i : ℕ) → i < n → symbol new i ≡ f i
  pub kept : (i : ℕ) → n ≤ i → symbol new i ≡ symbol old i

-- the n entries from a on are as f says, the others as they were
pub record WrittenAt (a n : ℕ) (f : ℕ → ℕ) (old new : List ℕ) : Type 0 where
  pub written : (i : ℕ) → i < n → symbol new (a + i) ≡ f i
  pub before : (i : ℕ) → i < a → symbol new i ≡ symbol old i
  pub after : (i : ℕ) → a + n ≤ i → symbol new i ≡ symbol old i

-- whether the first n entries are all 0
pub record AllZero (n : ℕ) (a : List ℕ) (r : Bool) : Type 0 where
  pub yes : r ≡ true → (i : ℕ) → i < n → symbol a i ≡ 0
  pub no : r ≡ false → ((i : ℕ) → i < n → symbol a i ≡ 0) → ⊥

-- N symbols in a longer list: the others are 0
pub record Padded (m N : ℕ) (w : List ℕ) : Type 0 where
  pub inside : Symbols m w
  pub ended : (j : ℕ) → N ≤ j → symbol w j ≡ 0

module _ (m g : ℕ) where
  -- an element of the field
  abbrev pub Element : ℕ → Type 0
  Element a = a < 2 ^ m

  -- r is the remainder of the first n data d by a generator of T roots
  pub record IsRemainder (T : ℕ) (d : List ℕ) (n : ℕ) (r : List ℕ) : Type 0 where
    pub divisor : ℕ → ℕ
    pub generator : Generator add (mul m g) 0 1 α T divisor
    pub divided : Divided add (mul m g) 0 1 Element T divisor (symbol d) n (symbol r)

  -- the locators of N columns
  abbrev pub locator_at : ℕ → ℕ → ℕ
  locator_at N = position (mul m g) 1 α N

  -- Σ w_l * X_l ^ (i + 1) over the first n
  unfoldable pub locator_sum : ℕ → (ℕ → ℕ) → (ℕ → ℕ) → ℕ → ℕ
  locator_sum n w X i = sum add 0 n (λ l. mul m g (w l) (power (mul m g) 1 (X l) (suc i)))

  -- the first t power sums of k entries at least are added to s
  pub record Summed (k t : ℕ) (w xs s r : List ℕ) : Type 0 where
    pub number : ℕ
    pub enough : k ≤ number
    pub sums : Written t (λ i. add (symbol s i) (locator_sum number (symbol w) (symbol xs) i)) s r

  -- the T syndromes of a word of N columns, and 0 behind them
  pub record HasSyndromes (N T : ℕ) (w s : List ℕ) : Type 0 where
    pub syndromes : (i : ℕ) → i < T → symbol s i ≡ syndrome add (mul m g) 0 1 α N (symbol w) i
    pub ended : (i : ℕ) → T ≤ i → symbol s i ≡ 0

  -- what is left of the first t entries once the marked columns are taken out
  pub record HasModifiedSyndromes (N t : ℕ) (marks s s' : List ℕ) : Type 0 where
    pub left : Left add (mul m g) (locator_at N) (marked marks) N t (symbol s) (symbol s')
    pub inside : Symbols m s'

  -- Rows of the elimination: 16 combinations, and then 16 coefficients; n equations for the sequence M. Slot i stands in the entries from i * 32 on.
  abbrev pub coefficient : List ℕ → ℕ → ℕ
  coefficient row j = symbol row (16 + j)

  abbrev pub RowAt : ℕ → List ℕ → List ℕ → ℕ → ℕ → Type 0
  RowAt n M row b i = Reduced Element add (mul m g) 0 1 16 n (symbol M) (coefficient row) (symbol row) b i

  abbrev pub SlotsAt : ℕ → List ℕ → List ℕ → List ℕ → ℕ → Type 0
  SlotsAt n M slots qs b =
      Slots Element add (mul m g) 0 1 16 n (symbol M) (λ i j. symbol slots (i * 32 + (16 + j))) (λ i h. symbol slots (i * 32 + h)) (symbol qs) b

  abbrev pub StoppedAt : ℕ → List ℕ → List ℕ → List ℕ → ℕ → ℕ → Type 0
  StoppedAt n M qs row b stop = Stopped Element add (mul m g) 0 1 16 n (symbol M) (symbol qs) (coefficient row) (symbol row) b stop

  -- the row of degree b at its beginning
  pub record Begun (M : List ℕ) (b : ℕ) (row : List ℕ) : Type 0 where
    pub combinations : (h : ℕ) → h < 16 → symbol row h ≡ symbol M (h + b)
    pub last : coefficient row b ≡ 1
    pub others : (j : ℕ) → j < 16 → (j ≡ b → ⊥) → coefficient row j ≡ 0

  -- the value of a row's polynomial of degree d at x
  unfoldable pub row_value : List ℕ → ℕ → ℕ → ℕ
  row_value row d x = value add (mul m g) 0 (suc d) (reversed (suc d) (coefficient row)) x

  -- the marks of the error locations: the erased columns, and those where the value is 0
  pub record Flagged (N : ℕ) (marks values flags : List ℕ) : Type 0 where
    pub only : (j : ℕ) → j < N → marked flags j ≡ true → (marked marks j ≡ true) ⊎ (symbol values j ≡ 0)
    pub erased : (j : ℕ) → j < N → marked marks j ≡ true → marked flags j ≡ true
    pub zero : (j : ℕ) → j < N → symbol values j ≡ 0 → marked flags j ≡ true

  -- the locators of the k marked columns in their order, and 0 behind them
  pub record LocatorsOf (N : ℕ) (flags xs : List ℕ) (k : ℕ) : Type 0 where
    pub number : k ≡ count (marked flags) N
    pub locators : (j : ℕ) → j < N → marked flags j ≡ true → symbol xs (count (marked flags) j) ≡ locator_at N j
    pub ended : (i : ℕ) → k ≤ i → symbol xs i ≡ 0

  -- v is w with the entries of ys added at the marked columns in their order
  pub record Added (N : ℕ) (flags ys w v : List ℕ) : Type 0 where
    pub location : (j : ℕ) → j < N → marked flags j ≡ true → symbol v j ≡ add (symbol w j) (symbol ys (count (marked flags) j))
    pub other : (j : ℕ) → j < N → marked flags j ≡ false → symbol v j ≡ symbol w j
    pub after : (j : ℕ) → N ≤ j → symbol v j ≡ symbol w j

  -- the error locations of a word with the syndromes S, the marked columns erased: these and the roots of a locator
  pub record HasErrorLocations (N T : ℕ) (marks S flags : List ℕ) : Type 0 where
    pub rest : ℕ → ℕ
    pub degree : ℕ
    pub locator : ℕ → ℕ
    pub left : Left add (mul m g) (locator_at N) (marked marks) N T (symbol S) rest
    pub locator_in : Elements Element (suc degree) locator
    pub locator_not_zero : NonZero 0 (suc degree) locator
    pub locator_short : degree ≤ (T - count (marked marks) N) / 2
    pub locator_meets : (i : ℕ) → i < (T - count (marked marks) N) / 2 → sum add 0 (suc degree) (λ j. mul m g (locator j) (rest (i + j))) ≡ 0
    pub locations : (j : ℕ) → j < N → marked flags j ≡ true
        → (marked marks j ≡ true) ⊎ (value add (mul m g) 0 (suc degree) (reversed (suc degree) locator) (locator_at N j) ≡ 0)
    pub erased_is_location : (j : ℕ) → j < N → marked marks j ≡ true → marked flags j ≡ true
    pub root_is_location : (j : ℕ) → j < N → value add (mul m g) 0 (suc degree) (reversed (suc degree) locator) (locator_at N j) ≡ 0 → marked flags j ≡ true

  -- the corrected word v of w
  pub record IsCorrection (N T : ℕ) (marks w v : List ℕ) : Type 0 where
    pub syndromes : ℕ → ℕ
    pub rest : ℕ → ℕ
    pub size : ℕ
    pub locator : ℕ → ℕ
    pub locations : ℕ → Bool
    pub number : ℕ
    pub polynomial : ℕ → ℕ
    pub correction : Correction Element add (mul m g) 0 1 (inverse m g) α N T (marked marks) (symbol w) syndromes rest size locator locations number polynomial (symbol v)
    pub padded : Padded m N v
