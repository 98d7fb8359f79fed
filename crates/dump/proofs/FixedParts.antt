-- Question 7 asks only the bytes before a block's values and those behind them: a value may be anything. Assumes nothing.
use mathlib.Core.Path.{◌≡◌, refl, ap, ap₂, ◌∙◌}
use mathlib.Core.Bool.{Bool, true, false, cond}
use mathlib.Core.List.{List}
use Prim.Native.Nat.{ℕ, ◌+◌, ◌-◌, ◌<◌}
use native.Mathlib.Omega.{arith}
use lib.Dec.{eqb}
use lib.ListN.{get_or}
use Rattle.dump.specs.Listed.{all_below}
use Rattle.dump.specs.Block.{holds_value, fixed_byte, byte_right, fixed_right}
use Rattle.dump.specs.Parts.{values_of, fixed_from}
use Rattle.dump.proofs.AllBelow.{all_of, all_split, all_ext}
use Rattle.dump.proofs.Places.{ValueAt, value_there, holds_there}

module _ (block : List ℕ) (b : ℕ) (small : b < 4) where
  abbrev right_at : ℕ → Bool
  right_at k = byte_right (get_or block k 0) b k

  value_right : (k : ℕ) → ValueAt b k → right_at k ≡ true
  unfolding byte_right
  value_right k v = simp (holds_there b k v)

  other_right : (k : ℕ) → (ValueAt b k → ⊥) → right_at k ≡ eqb (get_or block k 0) (fixed_byte b k)
  unfolding byte_right
  other_right k none = by_kind (holds_value b k) refl
    where
      by_kind : (t : Bool) → holds_value b k ≡ t → cond t true (eqb (get_or block k 0) (fixed_byte b k)) ≡ eqb (get_or block k 0) (fixed_byte b k)
      by_kind true e = absurd (none (value_there b k e))
      by_kind false e = refl

  pub fixed_in_parts : fixed_right block b ≡ cond (fixed_from block b 0 16) (fixed_from block b (16 + values_of b) (494 - values_of b)) false
  unfolding fixed_right fixed_from
  fixed_in_parts =
      ap (all_below right_at) whole
      ∙ all_split right_at 16 (values_of b + (494 - values_of b))
      ∙ ap₂ (λ (s t : Bool). cond s t false) front rest
    where
      whole : 510 ≡ 16 + (values_of b + (494 - values_of b))
      whole = omega arith

      front : all_below right_at 16 ≡ fixed_from block b 0 16
      front = all_ext _ _ 16 (λ k h. ap right_at (omega arith) ∙ other_right (0 + k) (λ v. omega (arith, v.from)))

      middle : all_below (λ (k : ℕ). right_at (16 + k)) (values_of b) ≡ true
      middle = all_of _ (values_of b) (λ k h. value_right (16 + k) (record { from = omega arith; to = omega arith; present = omega arith }))

      behind : all_below (λ (k : ℕ). right_at (16 + (values_of b + k))) (494 - values_of b) ≡ fixed_from block b (16 + values_of b) (494 - values_of b)
      behind = all_ext _ _ (494 - values_of b) (λ k h. ap right_at (omega arith) ∙ other_right (16 + values_of b + k) (λ v. omega (arith, v.to, v.present)))

      rest : all_below (λ (k : ℕ). right_at (16 + k)) (values_of b + (494 - values_of b)) ≡ fixed_from block b (16 + values_of b) (494 - values_of b)
      rest = all_split (λ (k : ℕ). right_at (16 + k)) (values_of b) (494 - values_of b) ∙ ap₂ (λ (s t : Bool). cond s t false) middle behind
