-- Which bytes of a block are soft values, and which value each of them is. Assumes nothing.
use mathlib.Core.Path.{◌≡◌, refl}
use mathlib.Core.Bool.{Bool, true, false, cond}
use Prim.Native.Nat.{ℕ, ◌+◌, ◌/◌, ◌%◌, ◌<◌, ◌≤◌}
use native.Mathlib.Omega.{arith}
use borrow.Author.Tests.{ltb-true, ltb-false, leb-false, le-ltb, lt-ltb, lt-leb}
use lib.Dec.{ltb, leb}
use Rattle.dump.specs.Block.{soft_place, holds_value}

pub record ValueAt (b k : ℕ) : Type 0 where
  pub from : 16 ≤ k
  pub to : k < 496
  pub present : soft_place b k < 1890

pub value_there : (b k : ℕ) → holds_value b k ≡ true → ValueAt b k
unfolding holds_value
value_there b k e = by_tests (ltb k 16) (leb 496 k) refl refl e
  where
    by_tests : (early late : Bool) → ltb k 16 ≡ early → leb 496 k ≡ late → cond early false (cond late false (ltb (soft_place b k) 1890)) ≡ true → ValueAt b k
    by_tests false false p q e = record { from = ltb-false k 16 p; to = leb-false 496 k q; present = ltb-true (soft_place b k) 1890 e }
    by_tests true late p q e = let z : ◌≡◌ {A = ℕ} 0 1 = cc in absurd (omega arith)
    by_tests false true p q e = let z : ◌≡◌ {A = ℕ} 0 1 = cc in absurd (omega arith)

pub holds_there : (b k : ℕ) → ValueAt b k → holds_value b k ≡ true
unfolding holds_value
holds_there b k v = simp (le-ltb k 16 v.from, lt-leb 496 k v.to, lt-ltb (soft_place b k) 1890 v.present)

-- value i of a soft page is a byte of block i / 480
pub value_of_page : (i : ℕ) → i < 1890 → ValueAt (i / 480) (16 + i % 480)
value_of_page i h = record { from = omega arith; to = omega arith; present = omega arith }
