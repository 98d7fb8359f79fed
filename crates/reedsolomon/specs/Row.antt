-- 01: the outer code at lists of symbols: the field of 2 ^ m elements by the modulus g, N columns, T roots. Assumes nothing.
use Rattle.std.specs.Prelude.{◌≡◌, Bool, true, false, List, [], ℕ, ◌-◌, ◌^◌, ◌<◌, eqb, get_or}
use Rattle.std.proofs.Math.Decide.{ℕ_discrete, dec_le}
use Rattle.poly.specs.Polynomial.{add}
use Rattle.field.specs.Element.{mul, α}
use Rattle.reedsolomon.specs.Words.{syndrome, Codeword, InReach}
use Rattle.reedsolomon.specs.Search.{words, first, both?, all?, OuterAnswer, Found, NoneInReach}

-- symbol j of a word
abbrev pub symbol : List ℕ → ℕ → ℕ
symbol w j = get_or w j 0

-- 01: "63 marks (1 = erased, else 0)"
unfoldable pub marked : List ℕ → ℕ → Bool
marked marks j = eqb (symbol marks j) 1

-- 01: "column j is the coefficient of x^(62−j). Roots: α^1 to α^T"
unfoldable pub IsCodeword : (m g N T : ℕ) → List ℕ → Type 0
IsCodeword m g N T c = Codeword add (mul m g) 0 1 α N T (symbol c)

pub codeword? : (m g N T : ℕ) (c : List ℕ) → Dec (IsCodeword m g N T c)
unfolding IsCodeword
codeword? m g N T c = all? (λ i. ℕ_discrete (syndrome add (mul m g) 0 1 α N (symbol c) i) 0) T

-- whether it is one
unfoldable pub is_codeword : (m g N T : ℕ) → List ℕ → Bool
is_codeword m g N T c = elim (codeword? m g N T c) [ yes p ↦ true | no p ↦ false ]

pub in_reach? : (E : ℕ → Bool) (N T : ℕ) (w c : List ℕ) → Dec (InReach ℕ_discrete E N T (symbol w) (symbol c))
unfolding InReach
in_reach? E N T w c = dec_le _ T

-- 01: "Outer decoding takes 63 symbols and 63 marks. It gives the codeword with 2·e + s ≤ T, s being the erased columns and e the other columns that differ"
unfoldable pub outer_answer : (m g N T : ℕ) → List ℕ → List ℕ → OuterAnswer
outer_answer m g N T w marks =
    first (λ c. IsCodeword m g N T c × InReach ℕ_discrete (marked marks) N T (symbol w) (symbol c)) (λ c. both? (codeword? m g N T c) (in_reach? (marked marks) N T w c)) (words (2 ^ m) N)

-- 01: "The first 33, 51, 57, 59 columns hold data"
unfoldable pub HasInFront : (N T : ℕ) → List ℕ → List ℕ → Type 0
HasInFront N T d c = (j : ℕ) → j < N - T → symbol c j ≡ symbol d j

pub has_in_front? : (N T : ℕ) (d c : List ℕ) → Dec (HasInFront N T d c)
unfolding HasInFront
has_in_front? N T d c = all? (λ j. ℕ_discrete (symbol c j) (symbol d j)) (N - T)

-- the word of an answer; old where there is none
unfoldable pub word_of : List ℕ → OuterAnswer → List ℕ
word_of old (Found c) = c
word_of old NoneInReach = old

unfoldable pub is_found : OuterAnswer → Bool
is_found (Found c) = true
is_found NoneInReach = false

-- the codeword with the data in front
unfoldable pub encoded_row : (m g N T : ℕ) → List ℕ → List ℕ
encoded_row m g N T d =
    word_of [] (first (λ c. IsCodeword m g N T c × HasInFront N T d c) (λ c. both? (codeword? m g N T c) (has_in_front? N T d c)) (words (2 ^ m) N))

-- ---- for the code's contracts

-- every symbol is an element of the field
abbrev pub Symbols : ℕ → List ℕ → Type 0
Symbols m w = (j : ℕ) → symbol w j < 2 ^ m

-- What decoding gives: whether a word was found, and the word written in the place of the old one if there is one.
pub record RowDecoded (answer : OuterAnswer) (found : Bool) (old new : List ℕ) : Type 0 where
  pub told : found ≡ is_found answer
  pub written : new ≡ word_of old answer
