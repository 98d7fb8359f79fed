-- Re-imaging as the code's loop: level after level, the highest first. For every family. Assumes nothing.
use mathlib.Core.Path.{◌≡◌, sym, ap, ap₂, ◌∙◌, subst}
use Prim.Native.Nat.{ℕ, suc, ◌-◌, ◌/◌, ◌^◌, ◌<◌}
use native.Mathlib.Omega.{arith}
use lib.Bits.{bit_xor}
use Rattle.poly.specs.Polynomial.{add}
use Rattle.column.specs.Shape.{Shape, levels, degree, Sound}
use Rattle.column.specs.Level.{level_word, taken_off, reimaged}
use Rattle.column.proofs.Levels.{reimaged_lt}

module _ (S : Shape) (column w i d : ℕ) (below : i < levels S) (left : w ≡ taken_off S (levels S - suc i) column) (at : d ≡ degree S i) where
  -- what a level shows is its re-imaged symbol
  pub shown_symbol : w / 2 ^ d ≡ reimaged S i column
  unfolding reimaged
  shown_symbol = ap₂ (λ (x y : ℕ). x / 2 ^ y) left at

  pub shown_lt : Sound S → column < 2 ^ S.bits → w / 2 ^ d < 2 ^ S.symbol
  shown_lt ok h = subst (λ (t : ℕ). t < 2 ^ S.symbol) (sym shown_symbol) (reimaged_lt S ok i column below h)

  -- one level more is taken off
  pub level_taken_off : (l : ℕ) → 0 < i → l ≡ level_word S i (w / 2 ^ d) → bit_xor w l ≡ taken_off S (levels S - suc (i - 1)) column
  unfolding taken_off add
  level_taken_off l h e =
      let k : ℕ = levels S - suc i in
      let here : levels S - suc k ≡ i = omega arith in
      let more : levels S - suc (i - 1) ≡ suc k = omega arith in
      ap₂ add left
      (e ∙ ap₂ (λ (x y : ℕ). level_word S i (x / 2 ^ y)) left at ∙ ap (λ (t : ℕ). level_word S t (taken_off S k column / 2 ^ degree S t)) (sym here))
      ∙ ap (λ (t : ℕ). taken_off S t column) (sym more)
