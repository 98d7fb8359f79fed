-- For the code's contracts: symbols of six bits in one number, the first lowest, and such a number in three words of ten symbols. Assumes nothing.
use Rattle.std.specs.Prelude.{◌≡◌, List, ℕ, zero, suc, ◌+◌, ◌*◌, ◌/◌, ◌%◌, ◌^◌, ◌<◌, length, get_or}
use Rattle.poly.specs.Polynomial.{add, scale}
use Rattle.field.specs.Element.{mul, α}
use Rattle.reedsolomon.specs.Sums.{sum}
use Rattle.reedsolomon.specs.Encoding.{Generator}
use Rattle.syndromes.specs.declared.encoder.Words.{Words}

-- symbol i of a number
unfoldable pub symbol_in : ℕ → ℕ → ℕ
symbol_in n i = n / 2 ^ (6 * i) % 2 ^ 6

-- the number of three words
unfoldable pub joined : ℕ → ℕ → ℕ → ℕ
joined a b c = (c * 2 ^ 60 + b) * 2 ^ 60 + a

abbrev pub number_of : Words → ℕ
number_of w = joined w.low w.middle w.high

-- each word has ten symbols at most
pub record Full (w : Words) : Type 0 where
  pub low : w.low < 2 ^ 60
  pub middle : w.middle < 2 ^ 60
  pub high : w.high < 2 ^ 60

-- six words of ten symbols
pub record SixWords (ms : List ℕ) : Type 0 where
  pub six : length ms ≡ 6
  pub small : (k : ℕ) → k < 6 → get_or ms k 0 < 2 ^ 60

-- y has ten symbols: those of x, each times α
pub record TimesAlpha (x y : ℕ) : Type 0 where
  pub small : y < 2 ^ 60
  pub each : (i : ℕ) → i < 10 → symbol_in y i ≡ mul 6 67 α (symbol_in x i)

-- the word w, and each further entry the one before it times α
pub record Multiples (w : ℕ) (ms : List ℕ) : Type 0 where
  pub words : SixWords ms
  pub first : get_or ms 0 0 ≡ w
  pub next : (k : ℕ) → k < 5 → TimesAlpha (get_or ms k 0) (get_or ms (suc k) 0)

-- f times a word by its multiples: the sum of those that f's digits name
unfoldable pub multiple_in : List ℕ → ℕ → ℕ
multiple_in ms f = sum add 0 6 (λ k. scale (f / 2 ^ k % 2) (get_or ms k 0))

-- f times three words
unfoldable pub multiple_of : List ℕ → List ℕ → List ℕ → ℕ → ℕ
multiple_of low middle high f = joined (multiple_in low f) (multiple_in middle f) (multiple_in high f)

-- the coefficients of a generator, the highest first: 1, and then the symbols of n
unfoldable pub coefficient_in : ℕ → ℕ → ℕ
coefficient_in n zero = 1
coefficient_in n (suc i) = symbol_in n i

-- n has the coefficients of a generator of T roots, and 0 behind them
pub record IsGenerator (T n : ℕ) : Type 0 where
  pub generator : Generator add (mul 6 67) 0 1 α T (coefficient_in n)
  pub ended : (i : ℕ) → T < i → coefficient_in n i ≡ 0
