-- For the code's contracts: the places of a stack as a row of keys, and the order of keys as an order of numbers. Assumes nothing.
use Rattle.std.specs.Prelude.{false, List, Option, None, Some, ◌≡◌, ℕ, ◌+◌, ◌-◌, ◌*◌, ◌%◌, ◌≤◌, ◌<◌, ℤ, pos, negsuc, get_or}
use Rattle.std.specs.Int.{w16}
use Rattle.std.proofs.Common.{SFits}
use Rattle.heap.specs.Heap.{weigh, Every, Heap}
use Rattle.trellis.specs.Keys.{Key, key, key_before}
use Rattle.stack.specs.declared.Path.{Path}
use Rattle.stack.specs.declared.Row.{Row}

-- the key of a path
abbrev pub path_key : Path → Key
path_key p = key p.sum p.len p.bits

-- the key at a place of three arrays
abbrev pub at : List ℤ → List ℕ → List ℕ → ℕ → Key
at s l b k = record { sum = get_or s k (pos 0); len = get_or l k 0; bits = get_or b k 0 }

-- the key at a place of a row
abbrev pub row_keys : {n : ℕ} → Row n → ℕ → Key
row_keys r = at r.sums r.lens r.bits

-- a stack: its three arrays, and the number of paths
pub record Stacked : Type 0 where
  pub sums : List ℤ
  pub lens : List ℕ
  pub bits : List ℕ
  pub paths : ℕ

-- the keys at its places
abbrev pub places : Stacked → ℕ → Key
places s = at s.sums s.lens s.bits

-- the second does not stand before the first
abbrev pub Upto : Key → Key → Type 0
Upto p q = key_before q p ≡ false

-- z + 32,768
abbrev pub lifted : ℤ → ℕ
lifted (pos n) = n + 32768
lifted (negsuc n) = 32767 - n

-- a number that is larger for the key that stands before, where keys are small
unfoldable pub rank_of : Key → ℕ
rank_of k = (lifted k.sum * 64 + k.len % 64) * 4398046511104 + (4398046511103 - k.bits % 4398046511104)

-- the length fits 6 bits and the bits fit 42
pub record Small (k : Key) : Type 0 where
  pub len : k.len < 64
  pub bits : k.bits < 4398046511104

-- a small key whose sum fits 16 bits
pub record Fit (k : Key) : Type 0 where
  pub sum : SFits w16 k.sum
  pub small : Small k

-- what holds of every stack: of 2,002 places the first n have a path, in the order of a heap, each small
pub record Stands (f : ℕ → Key) (n : ℕ) : Type 0 where
  pub few : n ≤ 2002
  pub heap : Heap Upto f n
  pub small : Every Small f n

-- of the places from a on, below b, the one at i has the largest rank, r
pub record Span (f : ℕ → Key) (a b i r : ℕ) : Type 0 where
  pub low : a ≤ i
  pub high : i < b
  pub is : r ≡ rank_of (f i)
  pub fit : (j : ℕ) → a ≤ j → j < b → Fit (f j)
  pub most : (j : ℕ) → a ≤ j → j < b → rank_of (f j) ≤ r

-- of the four places from c on that are below n, the one at i stands first; r is its rank
pub record Lead (f : ℕ → Key) (n c i r : ℕ) : Type 0 where
  pub low : c ≤ i
  pub high : i < n
  pub near : i < c + 4
  pub fit : Fit (f i)
  pub is : r ≡ rank_of (f i)
  pub first : (j : ℕ) → c ≤ j → j < n → j < c + 4 → Upto (f i) (f j)

-- y is out, and stands after none of the m that stay
pub record Out (f : ℕ → Key) (m : ℕ) (y : Key) (was : (Key → ℕ) → ℕ) : Type 0 where
  pub heap : Heap Upto f m
  pub weight : (h : Key → ℕ) → weigh h f m + h y ≡ was h
  pub first : Every (Upto y) f m

-- Of n that were there, the first is out, and m are left; or none was there.
abbrev pub Next : (ℕ → Key) → (ℕ → Key) → ℕ → ℕ → Option Path → Type 0
Next f₀ f n m None = (n ≡ 0) × (m ≡ 0)
Next f₀ f n m (Some y) = (0 < n) × (m ≡ n - 1) × Out f m (path_key y) (λ h. weigh h f₀ n)
