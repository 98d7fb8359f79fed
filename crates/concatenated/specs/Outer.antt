-- 01: what a page asks of the outer code: decoding and encoding of rows, and their laws. Assumes nothing.
use Rattle.std.specs.Prelude.{Bool, false, List, ◌≡◌, ℕ, ◌<◌, length, get_or, take}
use Rattle.std.proofs.Math.Decide.{ℕ_discrete}
use Rattle.column.specs.Shape.{levels}
use Rattle.reedsolomon.specs.Words.{InReach}
use Rattle.reedsolomon.specs.Search.{WordOf, OuterAnswer, Found}
use Rattle.reedsolomon.specs.Row.{symbol}
use Rattle.concatenated.specs.Format.{Format, symbol_values, data_count}

-- outer decoding: from the level, the symbols and the erased columns
abbrev pub RowDecoder : Type 0
RowDecoder = ℕ → List ℕ → List Bool → OuterAnswer

-- outer encoding: from the level and the data symbols
abbrev pub RowEncoder : Type 0
RowEncoder = ℕ → List ℕ → List ℕ

-- column j is in a set of columns, given as a list of Bool
abbrev pub is_in : List Bool → ℕ → Bool
is_in set j = get_or set j false

-- The laws, where `Codeword i` are the words of row i. 01: "At most one such word exists", so that decoding gives a word exactly if it is a codeword in reach.
pub record OuterLaws (P : Format) (outer : RowDecoder) (encoded : RowEncoder) (Codeword : ℕ → List ℕ → Type 0) : Type 0 where
  -- a codeword has a symbol for each column
  pub word : (i : ℕ) (c : List ℕ) → i < levels P.shape → Codeword i c → WordOf (symbol_values P) P.columns c
  -- decoding
  pub gives : (i : ℕ) (w : List ℕ) (marks : List Bool) (c : List ℕ) → i < levels P.shape → length w ≡ P.columns → length marks ≡ P.columns
      → Codeword i c → InReach ℕ_discrete (is_in marks) P.columns (P.roots i) (symbol w) (symbol c) → outer i w marks ≡ Found c
  pub given : (i : ℕ) (w : List ℕ) (marks : List Bool) (c : List ℕ) → i < levels P.shape → length w ≡ P.columns → length marks ≡ P.columns
      → outer i w marks ≡ Found c → Codeword i c × InReach ℕ_discrete (is_in marks) P.columns (P.roots i) (symbol w) (symbol c)
  -- encoding: the codeword with the data in front
  pub encodes : (i : ℕ) (d : List ℕ) → i < levels P.shape → WordOf (symbol_values P) (data_count P i) d → Codeword i (encoded i d)
  pub in_front_are : (i : ℕ) (d : List ℕ) → i < levels P.shape → WordOf (symbol_values P) (data_count P i) d → (j : ℕ) → j < data_count P i → get_or (encoded i d) j 0 ≡ get_or d j 0
  -- and only that one has them
  pub only : (i : ℕ) (c : List ℕ) → i < levels P.shape → Codeword i c → encoded i (take (data_count P i) c) ≡ c
