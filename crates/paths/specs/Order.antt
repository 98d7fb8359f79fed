-- 01: a strict total order on paths, and which path is ahead of which word. Assumes nothing.
use Rattle.std.specs.Prelude.{Bool, true, cond, not, ◌&&◌, [], ◌∷◌, ◌⊎◌, ◌≡◌, ℕ, ltb, length}
use Rattle.paths.specs.Paths.{Path, prefix, shared}

-- `before p q`: p stands before q
pub record Order (before : Path → Path → Bool) : Type 0 where
  pub irreflexive : (p : Path) → before p p ≡ true → ⊥
  pub transitive : (p q r : Path) → before p q ≡ true → before q r ≡ true → before p r ≡ true
  pub total : (p q : Path) → (p ≡ q) ⊎ ((before p q ≡ true) ⊎ (before q p ≡ true))

module _ (before : Path → Path → Bool) where
  -- the one of two that is placed later
  unfoldable pub later : Path → Path → Path
  later p q = cond (before p q) q p

  -- among the prefixes of p that are longer than k, the one placed last; for k below p's length
  unfoldable pub last_placed : ℕ → Path → Path
  last_placed k [] = []
  last_placed k (b ∷ p) = cond (ltb k (length p)) (later (b ∷ p) (last_placed k p)) (b ∷ p)

  -- p is ahead of w: p is no prefix of w and, among their prefixes longer than the beginning they share, the last-placed one of p stands before the last-placed one of w
  unfoldable pub ahead : Path → Path → Bool
  ahead p w = not (prefix p w) && before (last_placed (shared p w) p) (last_placed (shared p w) w)

  abbrev pub Ahead : Path → Path → Type 0
  Ahead p w = ahead p w ≡ true
