-- 01: the stack of a search, for nodes of any kind: paths, or what stands for them. Assumes nothing.
use Rattle.std.specs.Prelude.{Bool, true, false, cond, List, [], ◌∷◌, ◌≡◌, ℤ}
use Rattle.paths.specs.Lists.{Mem}

-- what a search needs to know of its nodes
pub record Nodes (A : Type 0) : Type 0 where
  pub extension : Bool → A → A
  pub sum : A → ℤ
  pub before : A → A → Bool
  pub exists : A → Bool
  pub full : A → Bool

-- each node of the stack stands before all that follow
abbrev pub Sorted : {A : Type 0} → (A → A → Bool) → List A → Type 0
Sorted before [] = Unit {0}
Sorted {A} before (x ∷ stack) = ((y : A) → Mem y stack → before x y ≡ true) × Sorted before stack

module _ {A : Type 0} (nodes : Nodes A) where
  -- x goes in at its place; the first in the order is the head
  unfoldable pub insert : A → List A → List A
  insert x [] = x ∷ []
  insert x (y ∷ stack) = let after_y = insert x stack in cond (nodes.before y x) (y ∷ after_y) (x ∷ y ∷ stack)

  -- x goes in if it exists
  unfoldable pub push : A → List A → List A
  push x stack = cond (nodes.exists x) (insert x stack) stack

  -- the existing extensions of x go in
  unfoldable pub extend : A → List A → List A
  extend x stack = push (nodes.extension true x) (push (nodes.extension false x) stack)

  -- the head x was taken from the stack: if it is not full, its existing extensions go in
  unfoldable pub grow : A → List A → List A
  grow x rest = cond (nodes.full x) rest (extend x rest)
