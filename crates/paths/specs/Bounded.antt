-- 02, point 5: the stack search with a number of places on its stack. Assumes nothing.
use Rattle.std.specs.Prelude.{Bool, true, false, cond, ◌||◌, List, [], ◌∷◌, ◌≡◌, ℕ, zero, suc, ◌<◌, ltb, ℤ, length, take}
use Rattle.paths.specs.Paths.{Path}
use Rattle.paths.specs.Low.{lower}
use Rattle.paths.specs.Stack.{Nodes, push, grow}
use Rattle.paths.specs.Tree.{Tree, nodes, Exists}
use Rattle.paths.specs.Search.{SearchResult, answer, spent}
use Rattle.paths.specs.Keys.{WithLow, with_key}

-- a stack, and whether any node was pushed out of it so far
pub record Bounded (A : Type 0) : Type 0 where
  pub stack : List A
  pub any_pushed_out : Bool

abbrev pub bounded : {A : Type 0} → List A → Bool → Bounded A
bounded stack lost = record { stack = stack; any_pushed_out = lost }

-- how a search ends, and whether any node was pushed out; spent with a count below the limit: the stack ran empty
pub record BoundedResult (A : Type 0) : Type 0 where
  pub result : SearchResult A
  pub any_pushed_out : Bool

abbrev pub ended : {A : Type 0} → SearchResult A → Bool → BoundedResult A
ended r lost = record { result = r; any_pushed_out = lost }

-- the result with the word's key
unfoldable pub ended_with_key : {A : Type 0} → (Path → A) → BoundedResult Path → BoundedResult A
ended_with_key key e = ended (with_key key e.result) e.any_pushed_out

module _ {A : Type 0} (nodes : Nodes A) (places : ℕ) where
  -- there are more nodes than places
  unfoldable pub crowded : List A → Bool
  crowded stack = ltb places (length stack)

  -- x goes in at its place if it exists. 02: "a 65th path pushes out the one placed last in the order"
  unfoldable pub push_within : A → Bounded A → Bounded A
  push_within x s = bounded (take places (push nodes x s.stack)) (s.any_pushed_out || crowded (push nodes x s.stack))

  -- the existing extensions of x go in
  unfoldable pub extend_within : A → Bounded A → Bounded A
  extend_within x s = push_within (nodes.extension true x) (push_within (nodes.extension false x) s)

  -- from a stack, when count-many were taken: the head is taken, and if it is not full its existing extensions go in; until a full one is taken, the fuel is used up or the stack is empty
  unfoldable pub run_within : ℕ → ℕ → Bool → List A → BoundedResult A
  run_within zero count lost stack = ended (spent count) lost
  run_within (suc fuel) count lost [] = ended (spent count) lost
  run_within (suc fuel) count lost (x ∷ rest) =
      let next = extend_within x (bounded rest lost) in
      let goes_on = run_within fuel (suc count) next.any_pushed_out next.stack in
      cond (nodes.full x) (ended (answer x (suc count)) lost) goes_on

-- the search of a tree with a number of places and a limit on the paths taken; `room_for_all_is_the_search` says that with places for all it is `limited_search`
unfoldable pub bounded_search : Tree → ℕ → ℕ → BoundedResult Path
bounded_search t places limit =
    let start = extend_within (nodes t) places [] (bounded [] false) in
    run_within (nodes t) places limit 0 start.any_pushed_out start.stack

-- no path is dead: each path that exists and is not full has an extension that exists
abbrev pub Continued : Tree → Type 0
Continued t = (p : Path) → Exists t p → length p < t.size → (b : Bool) × (t.exists (b ∷ p) ≡ true)

-- ---- for the code's contracts

module _ {A : Type 0} (nodes : Nodes A) (places : ℕ) where
  -- the same on keys: both extensions go in, and what has no place is cut off; `low` is the lowest sum of those taken and of the number that it began with
  unfoldable pub run_keys_within : ℕ → ℕ → ℤ → Bool → List A → BoundedResult (WithLow A)
  run_keys_within zero count low lost stack = ended (spent count) lost
  run_keys_within (suc fuel) count low lost [] = ended (spent count) lost
  run_keys_within (suc fuel) count low lost (x ∷ rest) =
      let z = lower low (nodes.sum x) in
      let goes_on = run_keys_within fuel (suc count) z (lost || crowded nodes places (grow nodes x rest)) (take places (grow nodes x rest)) in
      cond (nodes.full x) (ended (answer (record { key = x; low = z }) (suc count)) lost) goes_on
