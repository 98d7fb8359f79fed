-- 01: data as a run of bytes and as a run of symbols: groups of digits, written anew in another base. Assumes nothing.
use Rattle.std.specs.Prelude.{List, [], ◌∷◌, ◌++◌, ℕ, zero, suc, take, drop}
use Rattle.packing.specs.Packing.{joined, digit}
use Rattle.concatenated.specs.Format.{Format, symbol_values}

-- the k lowest digits of a number, the highest first
unfoldable pub digits : ℕ → ℕ → ℕ → List ℕ
digits base zero x = []
digits base (suc k) x = digit base k x ∷ digits base k x

-- n groups, each of a digits in base p, as groups of b digits in base q
unfoldable pub repacked : (p a q b n : ℕ) → List ℕ → List ℕ
repacked p a q b zero xs = []
repacked p a q b (suc n) xs = digits q b (joined p 0 (take a xs)) ++ repacked p a q b n (drop a xs)

-- 01: "three bytes to four symbols, top bits first; row 0's data first": packing runs on across the borders of rows
abbrev pub data_symbols : Format → List ℕ → List ℕ
data_symbols P = repacked 256 P.group_bytes (symbol_values P) P.group_symbols P.groups

-- and back
abbrev pub data_bytes : Format → List ℕ → List ℕ
data_bytes P = repacked (symbol_values P) P.group_symbols 256 P.group_bytes P.groups
