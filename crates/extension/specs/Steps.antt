-- For the code's contracts: what a search is given, what its keys are like, and what a step does to the list that the heap holds. Assumes nothing.
use Rattle.std.specs.Prelude.{Bool, List, [], ◌∷◌, Option, None, Some, ◌⊎◌, ◌≡◌, ℕ, suc, ◌+◌, ◌*◌, ◌/◌, ◌%◌, ◌^◌, ◌≤◌, ◌<◌, eqb, ℤ, pos, nat_abs, ◌+ℤ◌, length, get_or}
use Rattle.column.specs.Tabulated.{tabulated}
use Rattle.paths.specs.Stack.{Nodes, grow}
use Rattle.heap.specs.Heap.{Every, Heap}
use Rattle.heap.specs.Holds.{Holds}
use Rattle.trellis.specs.Values.{Values, branch}
use Rattle.trellis.specs.Order.{bit}
use Rattle.trellis.specs.Keys.{Key, key, key_before, key_passes}
use Rattle.stack.specs.declared.Path.{Path}
use Rattle.stack.specs.Places.{path_key, Upto}

-- a mask that is 0, or has its lowest bit
abbrev pub ZeroOrOdd : ℕ → Type 0
ZeroOrOdd m = (m ≡ 0) ⊎ (m % 2 ≡ 1)

-- The entry 8 b + q of a table is what the soft value q gives to the bit b.
pub record TableOf (vs : Values) (table : List ℤ) : Type 0 where
  pub entry : (b : Bool) (q : ℕ) → q < 8 → get_or table (bit b * 8 + q) (pos 0) ≡ branch vs (bit b) q

-- the table of values; `table_of_lem` says that it is one
abbrev pub table_of : Values → List ℤ
table_of vs = tabulated (λ k. branch vs (k / 8) (k % 8)) 0 16

-- What a search is given: a soft column of n values, a mask of each code for each bit, and a table of values within 60 of zero.
pub record Given (n : ℕ) (col ls rs : List ℕ) (table : List ℤ) : Type 0 where
  pub some : 0 < n
  pub most : n ≤ 42
  pub softs : length col ≡ n
  pub lefts : length ls ≡ n
  pub rights : length rs ≡ n
  pub entries : length table ≡ 16
  pub soft : (k : ℕ) → k < n → get_or col k 0 < 8
  pub left : (k : ℕ) → k < n → ZeroOrOdd (get_or ls k 0)
  pub right : (k : ℕ) → k < n → ZeroOrOdd (get_or rs k 0)
  pub near : (k : ℕ) → k < 16 → nat_abs (get_or table k (pos 0)) ≤ 60

-- the key of a path of at most n bits: its bits are as many as its length, and each gives at most 60 to the sum's size
pub record Good (n : ℕ) (k : Key) : Type 0 where
  pub short : k.len ≤ n
  pub small : k.bits < 2 ^ k.len
  pub near : nat_abs k.sum ≤ 60 * k.len

-- the key of a path on the stack
pub record Held (n : ℕ) (k : Key) : Type 0 where
  pub good : Good n k
  pub some : 0 < k.len

-- one bit more, its value taken from a table
unfoldable pub table_extension : List ℤ → List ℕ → Bool → Key → Key
table_extension table soft b k = key (k.sum +ℤ get_or table (bit b * 8 + get_or soft k.len 0) (pos 0)) (suc k.len) (k.bits * 2 + bit b)

-- the nodes of the search on keys, with a table of values; `same_nodes` says that these are `key_nodes`
abbrev pub table_nodes : ℕ → List ℤ → List ℕ → List ℕ → List ℕ → Nodes Key
table_nodes n table soft left right = record {
  extension = table_extension table soft;
  sum = λ k. k.sum;
  before = key_before;
  exists = key_passes left right;
  full = λ k. eqb k.len n;
}

-- the path taken is one of the stack's; if there was none, none are left
abbrev pub Taken : ℕ → ℕ → Option Path → Type 0
Taken size m None = m ≡ 0
Taken size m (Some y) = Held size (path_key y)

-- the path taken is the head of a list, and the heap of the first m holds the rest; if there was none, the list is empty
abbrev pub Leads : List Key → (ℕ → Key) → ℕ → Option Path → Type 0
Leads xs f m None = xs ≡ []
Leads xs f m (Some y) = (rest : List Key) × (xs ≡ path_key y ∷ rest) × Holds Upto f m rest

-- The extensions of p, if it is not full, are in, and the first, if there is one, is out; m are left of n.
pub record Advanced (N : Nodes Key) (size : ℕ) (f₀ f : ℕ → Key) (n m : ℕ) (p : Key) (y : Option Path) : Type 0 where
  pub few : m ≤ n + 1
  pub heap : Heap Upto f m
  pub held : Every (Held size) f m
  pub taken : Taken size m y
  pub lists : (xs : List Key) → Holds Upto f₀ n xs → Leads (grow N p xs) f m y
