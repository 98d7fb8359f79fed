-- For the code's contracts: places with paths in the order, the first path at the highest place, and what a step does to the list that they are. Assumes nothing.
use Rattle.std.specs.Prelude.{true, false, ◌||◌, List, [], ◌∷◌, Option, None, Some, ◌≡◌, ℕ, zero, suc, ◌+◌, ◌-◌, ◌*◌, ◌/◌, ◌%◌, ◌≤◌, ◌<◌, ℤ, pos, length, get_or, take, IfSome}
use Rattle.std.specs.Int.Signed.{lt_z}
use Rattle.paths.specs.Lists.{Mem}
use Rattle.paths.specs.Stack.{Nodes, insert, grow}
use Rattle.paths.specs.Bounded.{Bounded, crowded}
use Rattle.heap.specs.Holds.{Ordered}
use Rattle.trellis.specs.Keys.{Key, key_before}
use Rattle.stack.specs.declared.Path.{Path}
use Rattle.stack.specs.Places.{path_key, Upto}
use Rattle.extension.specs.Steps.{Held}

-- the keys at the places below n, the highest place first
unfoldable pub listed : {A : Type 0} → (ℕ → A) → ℕ → List A
listed f zero = []
listed f (suc n) = f n ∷ listed f n

-- what holds of every stack: at most 63 paths, in their order
pub record Standing (xs : List Key) : Type 0 where
  pub few : length xs ≤ 63
  pub ordered : Ordered Upto xs

-- keys in their order, and nothing else
abbrev pub ordering : Nodes Key
ordering = record { extension = λ b k. k; sum = λ k. k.sum; before = key_before; exists = λ k. true; full = λ k. false }

-- x goes in at its place
unfoldable pub placed : Key → List Key → List Key
placed x xs = insert ordering x xs

-- What agrees with a soft value gives more than what does not.
pub record Leading (table : List ℤ) : Type 0 where
  pub more : (q b : ℕ) → q < 8 → b ≡ q / 4 % 2 → lt_z (get_or table ((1 - b) * 8 + q) (pos 0)) (get_or table (b * 8 + q) (pos 0)) ≡ true

-- the first, if there is one, is out, and ys are left
abbrev pub First : List Key → List Key → Option Path → Type 0
First xs ys None = (xs ≡ []) × (ys ≡ [])
First xs ys (Some y) = xs ≡ path_key y ∷ ys

-- The extensions of p, if it is not full, are in, those without a place are pushed out, and the first, if there is one, is out.
pub record Stepped (N : Nodes Key) (size : ℕ) (s₀ s : Bounded Key) (p : Key) (y : Option Path) : Type 0 where
  pub held : (k : Key) → Mem k s.stack → Held size k
  pub taken : IfSome y (λ q. Held size (path_key q))
  pub flag : s.any_pushed_out ≡ (s₀.any_pushed_out || crowded N 64 (grow N p s₀.stack))
  pub step : First (take 64 (grow N p s₀.stack)) s.stack y
