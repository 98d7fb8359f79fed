-- For the code's contracts: what the code knows of a path, its sum, its length and its bits as a number, and the search on it. Assumes nothing.
use Rattle.std.specs.Prelude.{Bool, true, ◌&&◌, List, [], ◌≡◌, ℕ, suc, ◌+◌, ◌-◌, ◌*◌, ◌<◌, eqb, ltb, ℤ, pos, ◌+ℤ◌, length, get_or}
use Rattle.std.specs.Int.Signed.{lt_z}
use Rattle.column.specs.Shape.{Shape, level_code}
use Rattle.column.specs.Mask.{parity, MasksOf}
use Rattle.paths.specs.Paths.{Path}
use Rattle.paths.specs.Stack.{Nodes, extend}
use Rattle.paths.specs.Search.{SearchResult}
use Rattle.paths.specs.Keys.{WithLow, run_keys}
use Rattle.trellis.specs.Values.{Values, branch}
use Rattle.trellis.specs.Order.{bit, number, sum, first_by}
use Rattle.trellis.specs.Demand.{Search, whole, supercode}

pub record Key : Type 0 where
  pub sum : ℤ
  pub len : ℕ
  pub bits : ℕ

abbrev pub key : ℤ → ℕ → ℕ → Key
key s l b = record { sum = s; len = l; bits = b }

-- the key of a path
unfoldable pub key_of : Values → List ℕ → Path → Key
key_of vs soft p = key (sum vs soft p) (length p) (number p)

-- the order on keys: for equal lengths, 0 at the first bit where they differ is the smaller number
unfoldable pub key_before : Key → Key → Bool
key_before p q =
    first_by (lt_z q.sum p.sum) (lt_z p.sum q.sum)
    (first_by (ltb q.len p.len) (ltb p.len q.len)
    (ltb p.bits q.bits))

-- one bit more
unfoldable pub key_extension : Values → List ℕ → Bool → Key → Key
key_extension vs soft b k = key (k.sum +ℤ branch vs (bit b) (get_or soft k.len 0)) (suc k.len) (k.bits * 2 + bit b)

-- the newest bit passes the checks of two tables of masks
unfoldable pub key_passes : List ℕ → List ℕ → Key → Bool
key_passes left right k = eqb (parity (get_or left (k.len - 1) 0) k.bits) 0 && eqb (parity (get_or right (k.len - 1) 0) k.bits) 0

-- the masks of a search: those of the level's code and none, or those of its two supercodes
abbrev pub MasksFor : Search → Shape → ℕ → List ℕ → List ℕ → Type 0
MasksFor whole S i left right = MasksOf S.bits (level_code S i) left × ((k : ℕ) → k < S.bits → get_or right k 0 ≡ 0)
MasksFor supercode S i left right = MasksOf S.bits (S.supercodes i).left left × MasksOf S.bits (S.supercodes i).right right

-- the nodes of the search on keys, for words of n bits
abbrev pub key_nodes : ℕ → Values → List ℕ → List ℕ → List ℕ → Nodes Key
key_nodes n vs soft left right = record {
  extension = key_extension vs soft;
  sum = λ k. k.sum;
  before = key_before;
  exists = key_passes left right;
  full = λ k. eqb k.len n;
}

-- the lowest sum before a path is taken: the largest number of 16 bits; `key_search_is_the_search` asks that no sum is above it
abbrev pub none_taken : ℤ
none_taken = pos 32767

-- the search on keys
unfoldable pub key_search : ℕ → Values → List ℕ → List ℕ → List ℕ → ℕ → SearchResult (WithLow Key)
key_search n vs soft left right limit =
    run_keys (key_nodes n vs soft left right) (λ k. true) limit 0 none_taken (extend (key_nodes n vs soft left right) (key (pos 0) 0 0) [])
