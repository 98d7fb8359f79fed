-- What a copy leaves, and a loop that writes a list part by part over a buffer. Assumes nothing.
use mathlib.Core.Path.{◌≡◌, ap, ap₂, ◌∙◌, sym}
use mathlib.Core.List.{List, ◌++◌, append_assoc, append-nil}
use Prim.Native.Nat.{ℕ, ◌+◌, ◌-◌, ◌≤◌}
use native.Mathlib.Omega.{arith}
use lib.ListN.{length, take, drop, length-append, length-drop}
use lib.Seq.{take-add, take_at, take_all, drop-length, length-take-le}
use borrow.Rule.Slice.PartMut.{put_mid, same_len_mid, mid_len}

-- a list copied into a buffer of its length
pub all_copied : (made old : List ℕ) → length made ≡ length old → take (length made) made ++ drop (length made) old ≡ made
all_copied made old e =
    ap₂ (λ (x y : List ℕ). x ++ y) (take_all (length made) made (omega arith)) (ap (λ (k : ℕ). drop k old) e ∙ drop-length old) ∙ append-nil made

-- the n values y of t from its a-th on are written over s, whose first a values are those of t
module _ (s t y : List ℕ) (a n : ℕ) (room : a + n ≤ length s) (long : a + n ≤ length t) (part : y ≡ take n (drop a t)) where
  length_part : length y ≡ n
  length_part = ap length part ∙ length-take-le n (drop a t) (simp length-drop (omega arith))

  pub put_more : take a s ≡ take a t → take (a + n) (put_mid a (a + n - a) s y) ≡ take (a + n) t
  put_more before =
      let front : length (take a s ++ y) ≡ a + n = simp length-append (omega (arith, length-take-le a s (omega arith), length_part)) in
      ap (take (a + n)) (sym (append_assoc (take a s) y _))
      ∙ take_at (take a s ++ y) _ (a + n) front
      ∙ ap₂ (λ (l k : List ℕ). l ++ k) before part
      ∙ sym (take-add a n t)

  -- and the buffer is as long as it was
  pub put_length : length (put_mid a (a + n - a) s y) ≡ length s
  put_length =
      let size : a + n - a ≡ n = omega arith in
      same_len_mid a (a + n - a) s y (length_part ∙ sym size ∙ sym (mid_len a (a + n) s room))
